-- The places below i are written.
use mathlib.Core.Path.{◌≡◌}
use Rattle.worklist.specs.Worklist.{count_down}
use Rattle.worklist.proofs.count_down.Given as goal

abbrev pub invariant-loop-i : goal.invariant-loop-i
invariant-loop-i l = l.stack ≡ count_down l.n l.initial.stack l.i
