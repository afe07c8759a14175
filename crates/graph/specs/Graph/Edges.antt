-- What call(n) and the out set of an edge hold at least and at most, for both systems: the laws that the crates above cite, with those of `Graph/Edges` of proofs/.
use Rattle.std.specs.Prelude.{ℕ, ◌≡◌, ◌↔◌, false, ◌&&◌}
use Rattle.std.proofs.Common.{arith, eq-eqb, ne_eqb}
use Rattle.std.proofs.Math.Bool.{true}
use Rattle.truth.specs.Truth.Bools.{both, left, right}
use Rattle.graph.specs.Graph.{out_rule, trans_rule, call_rule, Graph, is_check, check, privileged, grants, from, to, way, is_call, System, Outs, in_set, call_set, past_set, out_set}

-- ---- call(n)

module _ (g : Graph) (y : System) (x : Outs) (n p : ℕ) where
  pub call_privileged : privileged g n p ≡ true → (call_set g y x n p ≡ true) ↔ (grants g n p ≡ true)
  unfolding call_set call_rule
  call_privileged v = (λ t. rw v at t, λ t. rw v t)

  pub call_at_least : privileged g n p ≡ false → in_set g y x n p ≡ true → grants g n p ≡ true → call_set g y x n p ≡ true
  unfolding call_set call_rule
  call_at_least v t _ = rw v t

  pub call_at_most : privileged g n p ≡ false → call_set g y x n p ≡ true → in_set g y x n p ≡ true
  unfolding call_set call_rule
  call_at_most v t = rw v at t

-- ---- each kind of edge

module _ (g : Graph) (w : Outs) (y : System) (x : Outs) (e p : ℕ) where
  by_call : way g e ≡ 0 → is_call g e ≡ true
  by_call c = eq-eqb (way g e) 0 c

  by_transfer : way g e ≡ 1 → is_call g e ≡ false
  by_transfer c = ne_eqb (way g e) 0 (λ z. omega (arith, c, z))

  pub call_edge : way g e ≡ 0 → (out_set g w y x e p ≡ true) ↔ ((call_set g y x (from g e) p ≡ true) × (grants g (to g e) p ≡ true))
  unfolding out_set out_rule call_set
  call_edge c = (
    (λ t. let u : call_set g y x (from g e) p && grants g (to g e) p ≡ true = rw (by_call c) at t in (left _ _ u, right (call_set g y x (from g e) p) _ u)),
    λ r. rw (by_call c) (both r.0 r.1),
  )

  -- a transfer edge that leaves no check
  pub transfer_plain : way g e ≡ 1 → is_check g (from g e) ≡ false → (out_set g w y x e p ≡ true) ↔ (in_set g y x (from g e) p ≡ true)
  unfolding out_set out_rule call_rule trans_rule
  transfer_plain c k = ((λ t. rw (by_transfer c, k) at t), λ t. rw (by_transfer c, k) t)

  -- a transfer edge that leaves a privileged check
  pub transfer_privileged : way g e ≡ 1 → is_check g (from g e) ≡ true → privileged g (from g e) (check g (from g e)) ≡ true
      → (out_set g w y x e p ≡ true) ↔ ((grants g (from g e) (check g (from g e)) ≡ true) × (in_set g y x (from g e) p ≡ true))
  unfolding out_set out_rule call_rule trans_rule
  transfer_privileged c k v = (
    (λ t.
        let u : grants g (from g e) (check g (from g e)) && in_set g y x (from g e) p ≡ true = rw (by_transfer c, k, v) at t in
        (left _ _ u, right (grants g (from g e) (check g (from g e))) _ u)),
    λ r. rw (by_transfer c, k, v) (both r.0 r.1),
  )

  -- a transfer edge that leaves an unprivileged check
  pub transfer_past : way g e ≡ 1 → is_check g (from g e) ≡ true → privileged g (from g e) (check g (from g e)) ≡ false
      → (out_set g w y x e p ≡ true) ↔ (past_set g w y x (from g e) p ≡ true)
  unfolding out_set out_rule call_rule trans_rule
  transfer_past c k v = ((λ t. rw (by_transfer c, k, v) at t), λ t. rw (by_transfer c, k, v) t)
