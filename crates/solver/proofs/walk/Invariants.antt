-- The measure is what is left to do: the sums that can still move, and the nodes on the stack.
use Rattle.flow.specs.Walk.{system_of, to_do}
use Rattle.solver.specs.Walks.{state_of, Walks}
use Rattle.solver.proofs.walk.Given as goal

abbrev pub invariant-loop-i : goal.invariant-loop-i
invariant-loop-i l = Walks l.ground (state_of l.sums l.pending)

abbrev pub decreases-loop-i : goal.decreases-loop-i
decreases-loop-i l = to_do (system_of l.ground.system) (state_of l.sums l.pending)
