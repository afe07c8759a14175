-- What `lead` promises: whether an edge of a kind leads from one node to another, by the slices of the edges.
pub mod Search
use Rattle.std.specs.Prelude.{ℕ, List, length}
use Rattle.graph.specs.Graph.{PerEdge, map_edge, EdgesLong, LeadsIn}

-- The slices are m long, and one of the m edges leads from a to b.
pub record Leading (m : ℕ) (x : PerEdge (List ℕ)) (kind a b : ℕ) : Type 0 where
  pub long : EdgesLong m (map_edge length x)
  pub leads : LeadsIn m x kind a b
