use mathlib.Core.Path.{refl}
use native.Mathlib.Omega.{arith}
use Rattle.worklist.specs.Worklist.Filled.{filled_none, filled_more, filled_all, filled_rest}
use Rattle.sums.proofs.Sums.begin_all.Goals as goal

pub loop-i-init : goal.loop-i-init
loop-i-init c = record { slices = (refl, refl); ins = filled_none _ _ _; past = filled_none _ _ _ }

pub loop-i-preserved : goal.loop-i-preserved
loop-i-preserved c =
    let here = c.loop-i.invariant in
    record {
      slices = here.slices;
      ins = filled_more _ _ _ _ _ _ c.loop-i-test.true (omega arith) c.first_sum.ensures here.ins;
      past = filled_more _ _ _ _ _ _ c.loop-i-test.true (omega arith) c.first_passing.ensures here.past;
    }

pub returns-clause-begun : goal.returns-clause-begun
returns-clause-begun c =
    let here = c.loop-i.invariant in
    record {
      ins_long = here.ins.long;
      past_long = here.past.long;
      first = record { ins = filled_all _ _ _ _ _ (omega arith) here.ins; past = filled_all _ _ _ _ _ (omega arith) here.past };
      ins_rest = filled_rest _ _ _ _ _ here.ins;
      past_rest = filled_rest _ _ _ _ _ here.past;
    }
