-- How the call's answer follows from the solver's, and that it leaves one answer and one content.
use Rattle.std.specs.Prelude.{ℕ, ◌≡◌, refl, List, length}
use Rattle.std.proofs.Common.{ap, subst}
use Rattle.graph.specs.Graph.{Graph, Ranges, Acceptable, Slices, Content}
use Rattle.graph.proofs.Graph.Results.{content_one}
use Rattle.graph.specs.Judge.{Refuses, Judges}
use Rattle.graph.specs.Judge.Laws.{refuses_not, judges_one}
use Rattle.graph.specs.Refusals.{Numbered}
use Rattle.graph.specs.declared.Refusal.{Refusal}
use Rattle.graph.specs.declared.Refusal.TheVariants as why
use Rattle.graph.specs.Refusals.{Judged}
use Rattle.std.specs.Prelude.{Ok, Err}
use Rattle.solver.specs.Solve.{Solves, solved}
use Rattle.solver.specs.Solve as solve
use Rattle.graph.specs.Refusals.{Written}
use Rattle.refusals.specs.Writes.{Writes}
use Rattle.rows.specs.Result.{Long, WritesResult, shape, result}
use Rattle.refusals.specs.Writes.Laws.{writes_one}
use Rattle.report.specs.Report.{rows_of, WritesGraph, rows, no_graph}

same_refusal : {r q : Refusal} → ◌≡◌ {A = Judged} (Err r) (Err q) → r ≡ q
same_refusal e = cc

module _ (g : Graph) where
  rows_long : {t : Slices} → Acceptable g → Content g t → Long g.size.n (length g.nodes.kinds) (length g.nodes.checks) (length t.denied) (length t.granted)
  rows_long acc c = record {
    many = acc.shape.ranges.n_low;
    few = acc.shape.ranges.n_high;
    kinds_long = acc.shape.nodes.kinds;
    checks_long = acc.shape.nodes.checks;
    denied_long = c.denied_stored.long;
    granted_long = c.granted_stored.long;
  }

  result_written : {t : Slices} {r : Written} {before after : List ℕ} → Acceptable g → Content g t → WritesResult g.size.n g.nodes.kinds g.nodes.checks t.denied t.granted before r after
      → WritesGraph g before r after
  result_written acc c (shape d) = absurd (d (rows_long acc c))
  result_written acc c (result _ w) = rows acc c w

  -- where the result slices are as long as they have to be, the solver refuses what the graph is refused for
  graph_refused : {s : Slices} {x : Numbered} → solve.Long g s → solve.SolveRefuses g s x → Refuses g x
  graph_refused l (solve.results d) = absurd (d l)
  graph_refused l (solve.graph _ f) = f

  pub graph_written : {s t : Slices} {r : Written} {before after : List ℕ} → solve.Long g s → Solves g s (Ok tt) t → WritesResult g.size.n g.nodes.kinds g.nodes.checks t.denied t.granted before r after
      → WritesGraph g before r after
  graph_written l (solved _ acc c) w = result_written acc c w

  pub graph_unwritten : {s t : Slices} {r : Refusal} {before : List ℕ} → solve.Long g s → Solves g s (Err r) t → WritesGraph g before (Err r) before
  graph_unwritten l (solve.refused f) = no_graph (Judges.refused (graph_refused l f))

  -- more nodes or edges than a graph may have
  pub too_large : {before : List ℕ} → (Ranges g.size → ⊥) → WritesGraph g before (Err why.Shape) before
  too_large d = no_graph (Judges.refused (Refuses.shape (λ s. d s.ranges)))

  -- a graph that is accepted is not refused
  accepted_only : {r : Refusal} → Judges g (Err r) → Acceptable g → ⊥
  accepted_only (Judges.refused f) acc = refuses_not g f acc

  pub rows_only : {r : Written} {before after : List ℕ} → Acceptable g → WritesGraph g before r after → (t : Slices) × Content g t × Writes (rows_of g t) before r after
  rows_only acc (rows {t} _ c w) = (t, c, w)
  rows_only acc (no_graph j) = absurd (accepted_only j acc)

  -- one answer and one content
  pub graph_one : {before a b : List ℕ} {r q : Written} → WritesGraph g before r a → WritesGraph g before q b → (r ≡ q) × (a ≡ b)
  graph_one {before} (rows _ c w) (rows {r = q} {after = b} _ d v) = writes_one w (subst (λ t. Writes (rows_of g t) before q b) (content_one g d c) v)
  graph_one (rows acc c w) (no_graph j) = absurd (accepted_only j acc)
  graph_one (no_graph j) (rows acc c w) = absurd (accepted_only j acc)
  graph_one (no_graph {r = r} j) (no_graph {r = q} k) = (ap Err (same_refusal (judges_one g j k)), refl)
