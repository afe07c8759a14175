use native.Mathlib.Omega.{arith}
use Rattle.worklist.specs.Worklist.Filled.{filled_none, filled_more, filled_all, filled_rest}
use Rattle.round.specs.Round.Laws.{carriable}
use Rattle.round.proofs.spread_all.Goals as goal

pub loop-e-init : goal.loop-e-init
loop-e-init c = filled_none _ _ _

pub out_of-requires : goal.out_of-requires
out_of-requires c = carriable _ _ _ _ _ c.requires _ c.loop-e-test.true

pub loop-e-preserved : goal.loop-e-preserved
loop-e-preserved c = filled_more _ _ _ _ _ _ c.loop-e-test.true (omega arith) c.out_of.ensures c.loop-e.invariant

pub returns : goal.returns
returns c =
    let here = c.loop-e in
    record { long = here.invariant.long; sets = filled_all _ _ _ _ _ (omega arith) here.invariant; rest = filled_rest _ _ _ _ _ here.invariant }
