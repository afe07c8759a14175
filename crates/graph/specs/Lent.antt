-- What the structs that lend a graph hold, in the words of the rules. Definitions alone.
use Rattle.std.specs.Prelude.{ℕ, List}
use Rattle.graph.specs.Graph.{Graph, PerNode, PerEdge, nodes_of, edges_of}
use Rattle.graph.specs.declared.Node.{Node}
use Rattle.graph.specs.declared.Edge.{Edge}
use Rattle.graph.specs.declared.NodeLengths.{NodeLengths}
use Rattle.graph.specs.declared.EdgeLengths.{EdgeLengths}
use Rattle.graph.specs.declared.LentNodes.{LentNodes}
use Rattle.graph.specs.declared.LentEdges.{LentEdges}
use Rattle.graph.specs.declared.LentGraph.{LentGraph}
use Rattle.graph.specs.declared.NodePlaces.{NodePlaces}
use Rattle.graph.specs.declared.EdgePlaces.{EdgePlaces}

-- A node's numbers, and an edge's.
abbrev pub node_numbers : Node → PerNode ℕ
node_numbers x = nodes_of x.kind x.check x.privileged x.entry x.grants

abbrev pub edge_numbers : Edge → PerEdge ℕ
edge_numbers x = edges_of x.from x.to x.way

-- How long each slice is.
abbrev pub node_lengths : NodeLengths → PerNode ℕ
node_lengths x = nodes_of x.kinds x.checks x.privileged x.entries x.grants

abbrev pub edge_lengths : EdgeLengths → PerEdge ℕ
edge_lengths x = edges_of x.froms x.tos x.ways

-- What slices hold that are lent to be read.
abbrev pub nodes_lent : LentNodes → PerNode (List ℕ)
nodes_lent x = nodes_of x.kinds.now x.checks.now x.privileged.now x.entries.now x.grants.now

abbrev pub edges_lent : LentEdges → PerEdge (List ℕ)
edges_lent x = edges_of x.froms.now x.tos.now x.ways.now

abbrev pub lent : LentGraph → Graph
lent g = record { size = g.size; nodes = nodes_lent g.nodes; edges = edges_lent g.edges }

-- What slices hold that are lent to be written.
abbrev pub node_places : NodePlaces → PerNode (List ℕ)
node_places x = nodes_of x.kinds.now x.checks.now x.privileged.now x.entries.now x.grants.now

abbrev pub edge_places : EdgePlaces → PerEdge (List ℕ)
edge_places x = edges_of x.froms.now x.tos.now x.ways.now
