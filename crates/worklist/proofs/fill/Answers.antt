use native.Mathlib.Omega.{arith}
use Rattle.worklist.specs.Worklist.{kept}
use Rattle.worklist.specs.Worklist.Stack.{fills_by}
use Rattle.worklist.proofs.fill.Goals as goal

pub returns-then-n-room : goal.returns-then-n-room
returns-then-n-room c = fills_by _ _ _ (omega arith) (omega arith) c.count_down.ensures

pub returns-else-n-room : goal.returns-else-n-room
returns-else-n-room c = kept (λ h l. omega arith)
