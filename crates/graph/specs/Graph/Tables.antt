-- The content of a written graph's slices, by computing: what a table has to show. `Graph/Tables` of proofs/ has what it then says of every content.
use Rattle.std.specs.Prelude.{ℕ, suc, ◌≡◌, List, [], ◌∷◌, get_or}
use Rattle.std.proofs.Common.{ap}
use Rattle.graph.specs.Graph.{Graph, Acceptable, denied_set, granted_set, Slices, held}
use Rattle.graph.specs.Graph.Rounds.{written, may_rounds, sure_rounds}
use Rattle.graph.specs.Judge.{judge}
use Rattle.graph.specs.Judge.Laws.{judge_judges, accepted_is}
use Rattle.std.specs.Prelude.{Ok}

-- rounds, one more of each, and the nodes' sets
abbrev pub computed_sets : Graph → Slices → (i j : ℕ) → List (List ℕ)
computed_sets g s i j =
    may_rounds g i ∷ may_rounds g (suc i) ∷ sure_rounds g (held s.may_out) j ∷ sure_rounds g (held s.may_out) (suc j)
    ∷ written g.size.k g.size.n (denied_set g (held s.may_out)) ∷ written g.size.k g.size.n (granted_set g (held s.sure_out)) ∷ []

abbrev pub stored_sets : Slices → List (List ℕ)
stored_sets s = s.may_out ∷ s.may_out ∷ s.sure_out ∷ s.sure_out ∷ s.denied ∷ s.granted ∷ []

-- g is accepted, and its MAY rounds are at rest after i of them, its SURE rounds after j, with what s holds
pub record Computed (g : Graph) (s : Slices) (i j : ℕ) : Type 0 where
  pub accepted : judge g ≡ (Ok tt)
  pub sets : computed_sets g s i j ≡ stored_sets s

module _ (g : Graph) (s : Slices) (i j : ℕ) (c : Computed g s i j) where
  pub computed_accepted : Acceptable g
  computed_accepted = accepted_is (rw c.accepted at (judge_judges g))

  pub nth : (n : ℕ) → get_or (computed_sets g s i j) n [] ≡ get_or (stored_sets s) n []
  nth n = ap (λ (l : List (List ℕ)). get_or l n []) c.sets
