-- What the parts of the call say. Its promise does not need them.
use Rattle.std.specs.Prelude.{ℕ, ◌≤◌, ◌≡◌, List, length}
use Rattle.graph.specs.Graph.{EachNode, EachEdge}
use Rattle.graph.specs.declared.Size.{Size}
use Rattle.graph.specs.declared.Refusal.{Refusal}
use Rattle.text.specs.Text.{Reading}
use Rattle.std.specs.Prelude.{Ok, Err}
use Rattle.handover.specs.Handover.{Lent, held_graph}
use Rattle.graph.specs.Refusals.{Written}
use Rattle.refusals.specs.Writes.{Writes, refusal_bytes}
use Rattle.report.specs.Report.{WritesGraph}

-- Places for the nodes and edges that are counted.
pub record Places (c : Size) (x : Lent) : Type 0 where
  pub n_high : c.n ≤ 1024
  pub m_high : c.m ≤ 4096
  pub nodes : EachNode (λ l. c.n ≤ length l) x.nodes
  pub edges : EachEdge (λ l. c.m ≤ length l) x.edges

-- The slices have places for the graph that was read.
abbrev pub Held : Reading → Lent → Type 0
Held told x = (c : Size) → told ≡ Ok c → Places c x

-- The rows of the graph that was read are written, or the refusal's row.
pub data WritesRead (x : Lent) (before : List ℕ) : Reading → Written → List ℕ → Type 0 where
  graph_read : {c : Size} {r : Written} {after : List ℕ} → WritesGraph (held_graph c x) before r after → WritesRead x before (Ok c) r after
  nothing_read : {why : Refusal} {r : Written} {after : List ℕ} → Writes (refusal_bytes why) before r after → WritesRead x before (Err why) r after
