-- The out sets of the edges below e are stored.
use lib.ListN.{length}
use Rattle.worklist.specs.Worklist.Filled.{Filled}
use Rattle.graph.specs.Lent.{lent}
use Rattle.flow.specs.Walk.{system_of, carried}
use Rattle.round.proofs.spread_all.Given as goal

abbrev pub invariant-loop-e : goal.invariant-loop-e
invariant-loop-e l =
    Filled (carried (lent l.graph) (system_of l.system) l.any l.ins l.past) (length l.graph.edges.froms.now) l.initial.out l.out l.e
