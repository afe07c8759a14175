-- What slices with room hold, and what handing it over promises. Definitions alone.
pub mod Copies
pub mod Laws
use Rattle.std.specs.Prelude.{ℕ, ◌≡◌, List, Bool, ◌&&◌, length, take, eqb}
use Rattle.std.proofs.lemmas.List.Edits.{sets}
use Rattle.graph.specs.Graph.{Graph, PerNode, PerEdge, nodes_of, edges_of, map_node, map_edge, every_node, every_edge, NodesLong, EdgesLong}
use Rattle.graph.specs.Judge.{Judges}
use Rattle.graph.specs.Lent.{nodes_lent, edges_lent, node_places, edge_places}
use Rattle.graph.specs.declared.LentGraph.{LentGraph}
use Rattle.graph.specs.declared.GraphPlaces.{GraphPlaces}
use Rattle.graph.specs.declared.NodePlaces.{NodePlaces}
use Rattle.graph.specs.declared.EdgePlaces.{EdgePlaces}
use Rattle.extent.specs.Extent.{most_nodes, most_edges}
use Rattle.graph.specs.declared.Size.{Size}
use Rattle.graph.specs.declared.Refusal.{Refusal}
use Rattle.graph.specs.declared.Refusal.TheVariants as why
use Rattle.graph.specs.Refusals.{Judged}
use Rattle.std.specs.Prelude.{Ok, Err}

-- The slices that a caller lends.
pub record Lent : Type 0 where
  pub nodes : PerNode (List ℕ)
  pub edges : PerEdge (List ℕ)

-- What they hold, of slices to be read and of slices to be written.
abbrev pub lists_lent : LentGraph → Lent
lists_lent x = record { nodes = nodes_lent x.nodes; edges = edges_lent x.edges }

abbrev pub places : GraphPlaces → Lent
places x = record { nodes = node_places x.nodes; edges = edge_places x.edges }

-- Which slices they are, by the names that proofs have for them. What a call writes to places that stay the same is written to the slices that they were
-- made of.
abbrev pub node_names : NodePlaces → PerNode ℕ
node_names x = nodes_of x.kinds.ghost_name x.checks.ghost_name x.privileged.ghost_name x.entries.ghost_name x.grants.ghost_name

abbrev pub edge_names : EdgePlaces → PerEdge ℕ
edge_names x = edges_of x.froms.ghost_name x.tos.ghost_name x.ways.ghost_name

pub record SamePlaces (before after : GraphPlaces) : Type 0 where
  pub nodes : node_names after.nodes ≡ node_names before.nodes
  pub edges : edge_names after.edges ≡ edge_names before.edges

-- Room for every graph.
pub record Room (x : Lent) : Type 0 where
  pub nodes : NodesLong most_nodes (map_node length x.nodes)
  pub edges : EdgesLong most_edges (map_edge length x.edges)

-- The same as a test.
abbrev pub roomy : Lent → Bool
roomy x = every_node (map_node (λ l. eqb l most_nodes) (map_node length x.nodes)) && every_edge (map_edge (λ l. eqb l most_edges) (map_edge length x.edges))

-- The graph that the first places hold.
abbrev pub held_graph : Size → Lent → Graph
held_graph c x = record { size = c; nodes = map_node (take c.n) x.nodes; edges = map_edge (take c.m) x.edges }

-- The first places hold what was written, and every other place what it held.
pub record NodesWritten (before new after : PerNode (List ℕ)) : Type 0 where
  pub kinds : after.kinds ≡ sets before.kinds 0 new.kinds
  pub checks : after.checks ≡ sets before.checks 0 new.checks
  pub privileged : after.privileged ≡ sets before.privileged 0 new.privileged
  pub entries : after.entries ≡ sets before.entries 0 new.entries
  pub grants : after.grants ≡ sets before.grants 0 new.grants

pub record EdgesWritten (before new after : PerEdge (List ℕ)) : Type 0 where
  pub froms : after.froms ≡ sets before.froms 0 new.froms
  pub tos : after.tos ≡ sets before.tos 0 new.tos
  pub ways : after.ways ≡ sets before.ways 0 new.ways

-- The first places hold what the first places of others held.
pub record Copied (c : Size) (held before after : Lent) : Type 0 where
  pub nodes : NodesWritten before.nodes (map_node (take c.n) held.nodes) after.nodes
  pub edges : EdgesWritten before.edges (map_edge (take c.m) held.edges) after.edges

-- What slices are judged for what their first places hold: 1 without room, and else as that graph is judged.
pub data HeldJudged (c : Size) (held : Lent) : Judged → Type 0 where
  bare : (Room held → ⊥) → HeldJudged c held (Err why.Shape)
  judged : {j : Judged} → Room held → Judges (held_graph c held) j → HeldJudged c held j

-- The same of what is handed over, with 1 for lent slices without room. A refusal stores nothing.
pub data HandsOver (c : Size) (held before : Lent) : Judged → Lent → Type 0 where
  cramped : (Room before → ⊥) → HandsOver c held before (Err why.Shape) before
  refused : {r : Refusal} → Room before → HeldJudged c held (Err r) → HandsOver c held before (Err r) before
  accepted : {after : Lent} → Room before → HeldJudged c held (Ok tt) → Copied c held before after → HandsOver c held before (Ok tt) after
