-- The answer so far says whether all numbers before `number` are below the bound.
use Prim.Native.Nat.{◌<◌}
use lib.ListN.{get_or}
use Rattle.truth.specs.Truth.{Says, All}
use Rattle.worklist.proofs.all_below.Given as goal

abbrev pub invariant-loop-number : goal.invariant-loop-number
invariant-loop-number l = Says (All (λ j. get_or l.list j 0 < l.bound) l.number-index) l.good
