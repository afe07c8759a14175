-- What is sent from here on makes of the sums and the stack what sending from the start makes of them as they were. The measure is `next`, since
-- lists of edges lead down.
use Rattle.std.proofs.Common.{◌≡◌, ◌≤◌}
use Rattle.solver.specs.Walks.{HasSums, state_of, sent}
use Rattle.solver.proofs.send.Given as goal

abbrev pub invariant-loop-e : goal.invariant-loop-e
invariant-loop-e l = record {
  same : sent l.ground l.leaving l.next (state_of l.sums l.pending) ≡ sent l.ground l.leaving l.first (state_of l.initial.sums l.initial.pending);
  sums : HasSums l.ground.graph.size.n l.sums;
  low : l.next ≤ l.ground.graph.size.m;
}

abbrev pub decreases-loop-e : goal.decreases-loop-e
decreases-loop-e l = l.next
