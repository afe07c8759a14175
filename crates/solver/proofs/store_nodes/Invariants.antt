use Rattle.graph.specs.Lent.{lent}
use Rattle.solver.specs.Walks.{NodesStored}
use Rattle.solver.proofs.store_nodes.Given as goal

abbrev pub invariant-loop-i : goal.invariant-loop-i
invariant-loop-i l = NodesStored (lent l.graph) l.may l.sure l.initial.into l.into l.i
