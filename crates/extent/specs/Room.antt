-- What arrays hold that have room for every graph. Definitions alone.
pub mod Laws
use Rattle.std.specs.Prelude.{ℕ, ◌≡◌, List, length, get_or}
use Rattle.graph.specs.Graph.{Graph, PerNode, PerEdge, nodes_of, edges_of, map_node, map_edge, EachNode, EachEdge}
use Rattle.graph.specs.declared.Size.{Size}
use Rattle.extent.specs.Extent.{Ample}
use Rattle.extent.specs.declared.NodeSlots.{NodeSlots}
use Rattle.extent.specs.declared.EdgeSlots.{EdgeSlots}
use Rattle.extent.specs.declared.Slots.{Slots}

abbrev pub node_slots : NodeSlots → PerNode (List ℕ)
node_slots x = nodes_of x.kinds x.checks x.privileged x.entries x.grants

abbrev pub edge_slots : EdgeSlots → PerEdge (List ℕ)
edge_slots x = edges_of x.froms x.tos x.ways

-- All places, with a graph's size.
abbrev pub slots_graph : Size → Slots → Graph
slots_graph c x = record { size = c; nodes = node_slots x.nodes; edges = edge_slots x.edges }

abbrev pub Zeros : List ℕ → Type 0
Zeros l = (i : ℕ) → get_or l i 0 ≡ 0

-- Room for every graph, and 0 in every place.
pub record Clear (x : Slots) : Type 0 where
  pub room : Ample (map_node length (node_slots x.nodes)) (map_edge length (edge_slots x.edges))
  pub nodes : EachNode Zeros (node_slots x.nodes)
  pub edges : EachEdge Zeros (edge_slots x.edges)
