-- The loop passes over edges that do not lead there: so far none of them does.
use Rattle.truth.specs.Truth.Tests.{Passed}
use Rattle.graph.specs.Graph.{edges_of, edge_at}
use Rattle.edges.specs.Leading.Search.{Joins}
use Rattle.edges.proofs.first_joining.Given as goal

abbrev pub invariant-loop-e : goal.invariant-loop-e
invariant-loop-e l = Passed (λ j. Joins (edge_at (edges_of l.froms l.tos l.ways) j) l.kind l.a l.b → ⊥) l.m l.e
