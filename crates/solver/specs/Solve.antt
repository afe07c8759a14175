-- What `solve` promises. Definitions alone: that the promise leaves one answer and one content is below.
pub mod Laws
pub mod Impostors
use Rattle.std.specs.Prelude.{ℕ, ◌≡◌, List, length}
use Rattle.graph.specs.Graph.{Graph, Acceptable, Slices, Content, ResultsLong}
use Rattle.graph.specs.Refusals.{Numbered, ◌at◌, numbered}
use Rattle.graph.specs.Judge.{Refuses}
use Rattle.graph.specs.declared.Refusal.{Refusal}
use Rattle.graph.specs.Refusals.{Judged}
use Rattle.std.specs.Prelude.{Ok, Err}
use Rattle.solver.specs.declared.SetPlaces.{SetPlaces}

abbrev pub slices : (denied granted may_out sure_out : List ℕ) → Slices
slices denied granted may_out sure_out = record { denied = denied; granted = granted; may_out = may_out; sure_out = sure_out }

-- What the lent slices hold.
abbrev pub stored : SetPlaces → Slices
stored x = slices x.denied.now x.granted.now x.may.now x.sure.now

-- The places stay those that were lent.
abbrev pub SameSets : SetPlaces → SetPlaces → Type 0
SameSets x z =
    (z.denied.ghost_name ≡ x.denied.ghost_name) × ((z.granted.ghost_name ≡ x.granted.ghost_name) × ((z.may.ghost_name ≡ x.may.ghost_name) × (z.sure.ghost_name ≡ x.sure.ghost_name)))

-- The result slices are as long as they have to be.
abbrev pub Long : Graph → Slices → Type 0
Long g s = ResultsLong g.size.n g.size.m (length s.denied) (length s.granted) (length s.may_out) (length s.sure_out)

-- Refusal 1 also for the result slices; else as the graph is refused.
pub data SolveRefuses (g : Graph) (s : Slices) : Numbered → Type 0 where
  results : (Long g s → ⊥) → SolveRefuses g s (1 at 0)
  graph : {x : Numbered} → Long g s → Refuses g x → SolveRefuses g s x

-- The answer, and what the slices hold after it where they held s before. A refusal stores nothing.
pub data Solves (g : Graph) (s : Slices) : Judged → Slices → Type 0 where
  refused : {r : Refusal} → SolveRefuses g s (numbered r) → Solves g s (Err r) s
  solved : {t : Slices} → Long g s → Acceptable g → Content g t → Solves g s (Ok tt) t
