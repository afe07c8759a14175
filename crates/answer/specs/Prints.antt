-- The bytes that are printed for a text, and what the call that writes them promises. Definitions alone.
pub mod Parts
pub mod Laws
pub mod Gateway
use Rattle.std.specs.Prelude.{ℕ, ◌≡◌, List}
use Rattle.graph.specs.Graph.{Slices, Content}
use Rattle.graph.specs.Refusals.{Numbered}
use Rattle.graph.specs.declared.Node.{Node}
use Rattle.graph.specs.declared.Edge.{Edge}
use Rattle.text.specs.Text.{Reading}
use Rattle.handover.specs.Handover.{Lent}
use Rattle.text.specs.Text.{Outcome, outcome, reading, read, graph_from, Tells}
use Rattle.text.specs.Text as text
use Rattle.graph.specs.Refusals.{Written}
use Rattle.refusals.specs.Writes.{refusal_row, Writes}
use Rattle.report.specs.Report.{rows_of}

-- What is refused prints the refusal's row, and what is read the rows of its graph, by the sets that solve it.
pub data PrintsFor (o : Outcome) : List ℕ → Type 0 where
  refused : {x : Numbered} → o ≡ text.refused x → PrintsFor o (refusal_row x.number x.place)
  printed : {k : ℕ} {ns : List Node} {es : List Edge} {t : Slices} → o ≡ read k ns es → Content (graph_from k ns es) t → PrintsFor o (rows_of (graph_from k ns es) t)

-- What a text prints.
abbrev pub Prints : List ℕ → List ℕ → Type 0
Prints s = PrintsFor (outcome s)

-- The buffer holds what is printed from its start on, and so many bytes of it; or it is too short for them, and left as it was.
pub record AnswersFor (o : Outcome) (before : List ℕ) (r : Written) (after : List ℕ) : Type 0 where
  pub bytes : List ℕ
  pub prints : PrintsFor o bytes
  pub writes : Writes bytes before r after

abbrev pub Answers : (s before : List ℕ) → Written → List ℕ → Type 0
Answers s = AnswersFor (outcome s)

-- The text is read into the slices, and what was read is answered for.
pub record ReadsAnswers (x : Lent) (s before : List ℕ) (r : Written) (after : List ℕ) (y : Lent) : Type 0 where
  pub told : Reading
  pub tells : Tells (reading x s) x told y
  pub answers : AnswersFor (reading x s) before r after
