use mathlib.Core.Path.{refl}
use Rattle.worklist.specs.Worklist.{count_down}
use Rattle.worklist.specs.Worklist.Stack.{count_more}
use Rattle.worklist.proofs.count_down.Goals as goal

pub loop-i-init : goal.loop-i-init
unfolding count_down
loop-i-init c = refl

pub loop-i-preserved : goal.loop-i-preserved
loop-i-preserved c = rw (c.loop-i.invariant, count_more _ _ _)
