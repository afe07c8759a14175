use mathlib.Core.Path.{◌≡◌, refl}
use native.Mathlib.Omega.{arith}
use lib.ListN.{length, length-set}
use Rattle.worklist.specs.Worklist.{link_to}
use Rattle.worklist.specs.Worklist.Linking.{link_more}
use Rattle.worklist.proofs.EdgeLists.link_all.Goals as goal

pub loop-e-init : goal.loop-e-init
unfolding link_to
loop-e-init c = record { head_long = refl; prev_long = refl; slices = (refl, refl); linked = refl }

pub loop-e-preserved : goal.loop-e-preserved
loop-e-preserved c =
    let here = c.loop-e.invariant in
    record { head_long = simp length-set here.head_long; prev_long = simp length-set here.prev_long; slices = here.slices; linked = rw (link_more _ _ _, ← here.linked) }

pub returns-clause-linked : goal.returns-clause-linked
returns-clause-linked c =
    let e : c.loop-e.e ≡ length c.args.froms.now = omega arith in
    rw (← e) c.loop-e.invariant.linked
