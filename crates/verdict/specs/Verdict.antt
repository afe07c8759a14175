-- What `verdict` promises. Definitions alone: that the promise leaves one answer is below.
pub mod Laws
pub mod Impostors
use Rattle.std.specs.Prelude.{ℕ, ◌<◌, ◌≡◌, List, true, false, length, get_or, Result, Ok, Err}
use Rattle.sets.specs.Sets.{has}
use Rattle.graph.specs.Graph.{Graph, is_check, check, Acceptable, verdict_of}
use Rattle.graph.specs.Refusals.{Numbered, ◌at◌, numbered}
use Rattle.graph.specs.Judge.{Refuses}
use Rattle.graph.specs.declared.Refusal.{Refusal}
use Rattle.verdict.specs.declared.Finding.{Finding}
use Rattle.verdict.specs.declared.Finding.TheVariants.{Needed, AlwaysPasses, AlwaysFails, NeverReached}

-- A verdict, or why there is none.
abbrev pub Ruling : Type 0
Ruling = Result Finding Refusal

abbrev pub verdict_number : Finding → ℕ
verdict_number Needed = 0
verdict_number AlwaysPasses = 1
verdict_number AlwaysFails = 2
verdict_number NeverReached = 3

-- The denied and granted slices, taken as they are, are N long, by their lengths.
pub record SetsLong (n denied granted : ℕ) : Type 0 where
  pub denied_long : denied ≡ n
  pub granted_long : granted ≡ n

-- Refusal 1 also for the two slices, then as the graph is refused, then 5 for the node, then 7 for one that is no check.
pub data VerdictRefuses (g : Graph) (denied granted : List ℕ) (n : ℕ) : Numbered → Type 0 where
  sets : (SetsLong g.size.n (length denied) (length granted) → ⊥) → VerdictRefuses g denied granted n (1 at 0)
  graph : {x : Numbered} → SetsLong g.size.n (length denied) (length granted) → Refuses g x → VerdictRefuses g denied granted n x
  asked : SetsLong g.size.n (length denied) (length granted) → Acceptable g → (n < g.size.n → ⊥) → VerdictRefuses g denied granted n (5 at 0)
  no_check : SetsLong g.size.n (length denied) (length granted) → Acceptable g → n < g.size.n → is_check g n ≡ false → VerdictRefuses g denied granted n (7 at 0)

pub record VerdictGiven (g : Graph) (denied granted : List ℕ) (n : ℕ) (v : Finding) : Type 0 where
  pub long : SetsLong g.size.n (length denied) (length granted)
  pub acceptable : Acceptable g
  pub below : n < g.size.n
  pub at_check : is_check g n ≡ true
  pub number : verdict_number v ≡ verdict_of (has (get_or denied n 0) (check g n)) (has (get_or granted n 0) (check g n))

pub data Rules (g : Graph) (denied granted : List ℕ) (n : ℕ) : Ruling → Type 0 where
  refused : {r : Refusal} → VerdictRefuses g denied granted n (numbered r) → Rules g denied granted n (Err r)
  given : {v : Finding} → VerdictGiven g denied granted n v → Rules g denied granted n (Ok v)
