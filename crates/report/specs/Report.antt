-- The rows of a graph by the sets that solve it, and what the call that writes them promises. Definitions alone.
pub mod Laws
use Rattle.std.specs.Prelude.{List, ℕ}
use Rattle.graph.specs.Graph.{Graph, Acceptable, Slices, Content}
use Rattle.graph.specs.Judge.{Judges}
use Rattle.graph.specs.declared.Refusal.{Refusal}
use Rattle.std.specs.Prelude.{Ok, Err}
use Rattle.graph.specs.Refusals.{Written}
use Rattle.refusals.specs.Writes.{Writes}
use Rattle.rows.specs.Result.{result_bytes}

-- The rows of a graph, by the denied and granted sets of a content.
abbrev pub rows_of : Graph → Slices → List ℕ
rows_of g s = result_bytes g.size.n g.nodes.kinds g.nodes.checks s.denied s.granted

-- The rows of a graph, by the sets that solve it, stand at the start of a buffer; or the graph is refused, and nothing is stored.
pub data WritesGraph (g : Graph) (before : List ℕ) : Written → List ℕ → Type 0 where
  rows : {t : Slices} {r : Written} {after : List ℕ} → Acceptable g → Content g t → Writes (rows_of g t) before r after → WritesGraph g before r after
  no_graph : {r : Refusal} → Judges g (Err r) → WritesGraph g before (Err r) before
