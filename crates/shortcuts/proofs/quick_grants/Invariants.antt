-- The grants read so far are a list that goes on at i; a turn adds a member, and the first byte that is no space ends it.
use Rattle.std.proofs.Common.{◌-◌, length}
use Rattle.shortcuts.specs.Shortcuts.Short.{Granting}
use Rattle.shortcuts.proofs.quick_grants.Given as goal

abbrev pub invariant-loop-at : goal.invariant-loop-at
invariant-loop-at l = Granting l.s l.at l.i l.low l.bits

abbrev pub decreases-loop-at : goal.decreases-loop-at
decreases-loop-at l = length l.s - l.i
