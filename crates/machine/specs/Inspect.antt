-- What `full` and `quick` promise. Definitions alone: that each promise leaves one answer is below.
pub mod Laws
pub mod Looking
pub mod Impostors
use Rattle.std.specs.Prelude.{ℕ, ◌<◌, ◌≡◌, List, true, false, length, Result, Ok, Err}
use Rattle.graph.specs.Graph.{Graph, Acceptable}
use Rattle.graph.specs.Refusals.{Numbered, ◌at◌, numbered, Judged}
use Rattle.graph.specs.Judge.{Refuses}
use Rattle.graph.specs.declared.Refusal.{Refusal}
use Rattle.verdict.specs.Verdict.{SetsLong}
use Rattle.frames.specs.Frames.{StackFits}
use Rattle.machine.specs.declared.Inspection.{Inspection}
use Rattle.machine.specs.declared.Inspection.TheVariants as answer
use Rattle.stacks.specs.Machine.{rights_of, Inspected, stack_of, full, quick}

-- An inspection, or why there is none.
abbrev pub Answer : Type 0
Answer = Result Inspection Refusal

-- What an inspection says: passes or fails, and how many frames were looked at.
pub data SaysSo : Inspection → Inspected → Type 0 where
  passes : {n : ℕ} → SaysSo (answer.Passes n) (record { passes = true; looked = n })
  fails : {n : ℕ} → SaysSo (answer.Fails n) (record { passes = false; looked = n })

-- What a call may be asked: of an acceptable graph, with a permission or a node that is low enough, on a stack that fits.
pub record Asks (g : Graph) (low : Type 0) (stack : List ℕ) (height : ℕ) : Type 0 where
  pub acceptable : Acceptable g
  pub below : low
  pub fits : StackFits g.size.n stack height

-- Refusals 1 to 4 as the graph is refused, then 5 for the permission or the node, then 6 for the stack.
pub data AskRefuses (g : Graph) (low : Type 0) (stack : List ℕ) (height : ℕ) : Numbered → Type 0 where
  graph : {x : Numbered} → Refuses g x → AskRefuses g low stack height x
  asked : Acceptable g → (low → ⊥) → AskRefuses g low stack height (5 at 0)
  stack : Acceptable g → low → (StackFits g.size.n stack height → ⊥) → AskRefuses g low stack height (6 at 0)

-- What `full`, `quick` and `step` judge first.
pub data JudgesAsked (g : Graph) (low : Type 0) (stack : List ℕ) (height : ℕ) : Judged → Type 0 where
  may_ask : Asks g low stack height → JudgesAsked g low stack height (Ok tt)
  refused : {r : Refusal} → AskRefuses g low stack height (numbered r) → JudgesAsked g low stack height (Err r)

pub data FullAnswers (g : Graph) (stack : List ℕ) (height p : ℕ) : Answer → Type 0 where
  refused : {r : Refusal} → AskRefuses g (p < g.size.k) stack height (numbered r) → FullAnswers g stack height p (Err r)
  looked : {a : Inspection} → Asks g (p < g.size.k) stack height → SaysSo a (full (rights_of g) p (stack_of stack height)) → FullAnswers g stack height p (Ok a)

-- Refusal 1 also for the denied and granted slices, which are taken as they are.
pub data QuickAnswers (g : Graph) (denied granted stack : List ℕ) (height p : ℕ) : Answer → Type 0 where
  sets : {r : Refusal} → (SetsLong g.size.n (length denied) (length granted) → ⊥) → numbered r ≡ (1 at 0) → QuickAnswers g denied granted stack height p (Err r)
  refused : {r : Refusal} → SetsLong g.size.n (length denied) (length granted) → AskRefuses g (p < g.size.k) stack height (numbered r) → QuickAnswers g denied granted stack height p (Err r)
  looked : {a : Inspection} → SetsLong g.size.n (length denied) (length granted) → Asks g (p < g.size.k) stack height
      → SaysSo a (quick denied granted p (stack_of stack height)) → QuickAnswers g denied granted stack height p (Ok a)
