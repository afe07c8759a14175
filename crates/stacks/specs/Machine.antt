-- Stacks, the two inspections, the steps, and what can be reached. Definitions alone: the laws and
-- demand 3 are in the modules below. A stack is a list of node numbers here, top first, and may be of any height.
pub mod Inspections
pub mod Slices
pub mod Gateway
use Rattle.std.specs.Prelude.{ℕ, zero, suc, ◌<◌, ◌≤◌, ◌≡◌, List, [], ◌∷◌, Bool, true, false, cond, get_or}
use Rattle.sets.specs.Sets.{has}
use Rattle.graph.specs.Graph.{Graph, kind, is_check, check, privileged_by, entry, Leads}

-- The stack that the lowest h places of a slice hold, bottom first there.
pub stack_of : List ℕ → ℕ → List ℕ
stack_of s zero = []
stack_of s (suc h) = get_or s h 0 ∷ stack_of s h

-- ---- The inspections

-- An inspection's answer, and how many frames were looked at, the deciding one included.
pub record Inspected : Type 0 where
  pub passes : Bool
  pub looked : ℕ

-- This frame decides; the frames below decide; past the bottom it passes.
abbrev pub decided : Bool → Inspected
decided b = record { passes = b; looked = 1 }

abbrev pub below : Inspected → Inspected
below a = record { passes = a.passes; looked = suc a.looked }

abbrev pub bottom : Inspected
bottom = record { passes = true; looked = 0 }

-- What full inspection looks at in a frame's node: its privileged mark, and its grants.
pub record Rights : Type 0 where
  pub marks : List ℕ
  pub grants : List ℕ

abbrev pub rights : (marks grants : List ℕ) → Rights
rights marks grants = record { marks = marks; grants = grants }

abbrev pub rights_of : Graph → Rights
rights_of g = rights g.nodes.privileged g.nodes.grants

-- Full inspection for p, from the top: a frame without p in its grants fails; a privileged frame with p passes; else go down.
unfoldable pub full : Rights → ℕ → List ℕ → Inspected
full x p [] = bottom
full x p (n ∷ r) =
    let down = below (full x p r) in
    cond (has (get_or x.grants n 0) p) (cond (privileged_by (get_or x.marks n 0) p) (decided true) down) (decided false)

-- Quick inspection by the denied and granted sets: p in the frame's denied set fails; else p in its granted set passes; else go down.
unfoldable pub quick : (denied granted : List ℕ) → ℕ → List ℕ → Inspected
quick denied granted p [] = bottom
quick denied granted p (n ∷ r) =
    let down = below (quick denied granted p r) in
    cond (has (get_or denied n 0) p) (decided false) (cond (has (get_or granted n 0) p) (decided true) down)

-- ---- The steps

pub data Step (g : Graph) : List ℕ → List ℕ → Type 0 where
  enter : {n : ℕ} → n < g.size.n → entry g n ≡ true → Step g [] (n ∷ [])
  call : {n t : ℕ} {r : List ℕ} → kind g n ≡ 0 → Leads g 0 n t → Step g (n ∷ r) (t ∷ n ∷ r)
  pass : {n t : ℕ} {r : List ℕ} → is_check g n ≡ true → (full (rights_of g) (check g n) (n ∷ r)).passes ≡ true → Leads g 1 n t → Step g (n ∷ r) (t ∷ r)
  back : {u n t : ℕ} {r : List ℕ} → kind g u ≡ 1 → Leads g 1 n t → Step g (u ∷ n ∷ r) (t ∷ r)

-- A stack is reachable if such steps lead to it from the empty stack.
pub data Reachable (g : Graph) : List ℕ → Type 0 where
  empty : Reachable g []
  then : {s t : List ℕ} → Reachable g s → Step g s t → Reachable g t

-- ---- What demand 3 compares

-- The quick answer a agrees with the full answer b: the same, and no more frames looked at.
pub record Agrees (a b : Inspected) : Type 0 where
  pub answer : a.passes ≡ b.passes
  pub frames : a.looked ≤ b.looked
