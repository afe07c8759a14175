-- Solvers that the promise shuts out, at the worked gateway: one that always refuses, one that stores nothing or empty sets, one that
-- does a single round and returns; and, at a chain that is listed against the flow, one that does a single pass in place.
use Rattle.std.specs.Prelude.{ℕ, ◌≡◌, refl, List, [], ◌∷◌, get_or}
use Rattle.std.proofs.Common.{sym, ◌∙◌, ap, arith}
use Rattle.graph.specs.Graph.{Slices}
use Rattle.graph.specs.Graph.Gateway.{gateway, gateway_slices, gateway_one_round}
use Rattle.graph.proofs.Graph.Gateway.{gateway_accepted, gateway_one}
use Rattle.graph.specs.Graph.Backwards.{backwards, one_pass, backwards_one_pass}
use Rattle.graph.proofs.Graph.Backwards.{backwards_one}
use Rattle.graph.specs.Graph.Rounds.{may_rounds}
use Rattle.graph.specs.Judge.Laws.{refuses_not}
use Rattle.graph.specs.declared.Refusal.{Refusal}
use Rattle.std.specs.Prelude.{Ok, Err}
use Rattle.solver.specs.Solve.{slices, Long, Solves, refused, solved, SolveRefuses, results, graph}

-- four slices of eight sets
abbrev pub eight : ℕ → List ℕ
eight x = x ∷ x ∷ x ∷ x ∷ x ∷ x ∷ x ∷ x ∷ []

abbrev pub filled : ℕ → Slices
filled x = slices (eight x) (eight x) (eight x) (eight x)

pub filled_long : (x : ℕ) → Long gateway (filled x)
filled_long x = record { denied_long = refl; granted_long = refl; may_long = refl; sure_long = refl }

-- it is not refused
pub never_refused : (s t : Slices) (r : Refusal) → Long gateway s → Solves gateway s (Err r) t → ⊥
never_refused s t r l (refused f) = go f
  where
    go : {x : _} → SolveRefuses gateway s x → ⊥
    go (results d) = d l
    go (graph _ h) = refuses_not gateway h gateway_accepted

-- the content is the worked one
pub solved_so : (s t : Slices) → Solves gateway s (Ok tt) t → t ≡ gateway_slices
solved_so s t (solved l a c) = gateway_one c

-- so it is stored: no slices filled with one set are left as they were, empty sets among them
pub never_left : (x : ℕ) → Solves gateway (filled x) (Ok tt) (filled x) → ⊥
never_left x h =
    let e : filled x ≡ gateway_slices = solved_so (filled x) (filled x) h in
    let a : x ≡ 0 = ap (λ (s : Slices). get_or s.denied 0 0) e in
    let b : x ≡ 1 = ap (λ (s : Slices). get_or s.denied 1 0) e in
    omega arith

-- what a single round from empty sets gives MAY is not it, whatever is stored beside it
pub never_one_round : (s : Slices) (denied granted sure : List ℕ) → Solves gateway s (Ok tt) (slices denied granted (may_rounds gateway 1) sure) → ⊥
never_one_round s denied granted sure h =
    let e : may_rounds gateway 1 ≡ gateway_slices.may_out = ap (λ (t : Slices). t.may_out) (solved_so s _ h) in
    let a : ◌≡◌ {A = ℕ} 0 3 = ap (λ (l : List ℕ). get_or l 2 0) (sym gateway_one_round ∙ e) in
    omega arith

-- nor is what a single pass over the edges gives, in their order and in place
pub never_one_pass : (s : Slices) (denied granted sure : List ℕ) → Solves backwards s (Ok tt) (slices denied granted (one_pass backwards) sure) → ⊥
never_one_pass s denied granted sure (solved l a c) =
    let e : one_pass backwards ≡ 1 ∷ 1 ∷ [] = ap (λ (t : Slices). t.may_out) (backwards_one c) in
    let z : ◌≡◌ {A = ℕ} 0 1 = ap (λ (l : List ℕ). get_or l 0 0) (sym backwards_one_pass ∙ e) in
    omega arith
