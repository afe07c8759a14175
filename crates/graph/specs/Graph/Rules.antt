-- What the rules say of an accepted graph, by its nodes and edges.
use Rattle.std.specs.Prelude.{ℕ, ◌<◌, ◌≡◌, ◌⊎◌, true, eqb, get_or}
use Rattle.std.proofs.Common.{ap, inl, inr, ⊎_elim, arith, eqb-true}
use Rattle.std.proofs.lemmas.Bool.{eqb-false}
use Rattle.truth.specs.Truth.Bools.{by_split}
use Rattle.sets.specs.Sets.{has}
use Rattle.graph.specs.Graph.{Graph, kind, is_check, check, grants, from, to, way, Acceptable}

module _ (g : Graph) (acc : Acceptable g) where
  pub check_low : (n : ℕ) → n < g.size.n → is_check g n ≡ true → check g n < g.size.k
  check_low n l c = (acc.nodes n l).check_below (eqb-true _ 2 c)

  pub grants_low : (n p : ℕ) → n < g.size.n → grants g n p ≡ true → p < g.size.k
  grants_low n p l t = (acc.nodes n l).grants_below p t

  pub from_low : (e : ℕ) → e < g.size.m → from g e < g.size.n
  from_low e l = (acc.edges e l).from_node

  pub to_low : (e : ℕ) → e < g.size.m → to g e < g.size.n
  to_low e l = (acc.edges e l).to_node

  -- an edge is a call edge or a transfer edge
  pub ways_of : (e : ℕ) → e < g.size.m → (way g e ≡ 0) ⊎ (way g e ≡ 1)
  ways_of e l = by_split (eqb (get_or g.edges.ways e 0) 0) (λ t. inl (eqb-true _ 0 t)) (λ f. inr (omega (arith, (acc.edges e l).ends.way_known, eqb-false (get_or g.edges.ways e 0) 0 f)))

  -- the two ends of a transfer edge grant the same
  pub transfer_same : (e : ℕ) → e < g.size.m → way g e ≡ 1 → (p : ℕ) → grants g (from g e) p ≡ grants g (to g e) p
  transfer_same e l c p = ap (λ (s : ℕ). has s p) ((acc.edges e l).ends.transfer_grants c)

  -- a call edge leaves a call node
  pub call_leaves : (e : ℕ) → e < g.size.m → way g e ≡ 0 → kind g (from g e) ≡ 0
  call_leaves e l c = (acc.edges e l).ends.call_leaves c

  -- nothing leaves a return node
  pub return_ends : (e : ℕ) → e < g.size.m → kind g (from g e) ≡ 1 → ⊥
  return_ends e l r =
      ⊎_elim (λ c. omega (arith, call_leaves e l c))
      (λ c. ⊎_elim (λ z. omega arith) (λ z. omega arith) ((acc.edges e l).ends.transfer_leaves c)) (ways_of e l)
