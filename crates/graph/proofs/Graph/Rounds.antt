-- MAY's rounds and SURE's come to rest, at the least and the greatest of all that are closed, and these are the solutions asked for.
use Rattle.graph.specs.Graph.Rounds.{gone, rounds_rest, rest_solves, rest_first, may_rounds, sure_rounds, LeastClosed, GreatestBacked}
use Prim.Native.Nat.{ℕ, suc, ◌*◌, ◌≤◌}
use Rattle.std.specs.Prelude.{◌≡◌, ◌↔◌, ◌&&◌}
use Rattle.std.proofs.Math.Path.{sym, ap}
use Rattle.std.proofs.Common.{◌∙◌}
use mathlib.Core.List.{List}
use Rattle.std.proofs.Math.Bool.{true, false, not}
use Rattle.std.proofs.lemmas.Bool.{not-true}
use Rattle.truth.specs.Truth.Bools.{both, left, right, turned, unturned}
use Rattle.graph.specs.Graph.{Graph, grants, to, Acceptable, may, sure, Outs, out_set, Within, LeastMay, GreatestSure, held}
use Rattle.graph.proofs.Graph.Solutions.{may_mono, sure_mono, may_granted}

module _ (g : Graph) (acc : Acceptable g) where
  may_grows : (x y : Outs) → Within g (gone false x) (gone false y) → Within g (gone false (out_set g x may x)) (gone false (out_set g y may y))
  unfolding gone
  may_grows = may_mono g acc

  pub may_rests : (j : ℕ) × (j ≤ g.size.m * g.size.k) × (may_rounds g (suc j) ≡ may_rounds g j)
  may_rests = rounds_rest g (λ x. out_set g x may x) false may_grows

  pub may_at_rest : (j : ℕ) → may_rounds g (suc j) ≡ may_rounds g j → LeastClosed g (held (may_rounds g j))
  unfolding gone
  may_at_rest j r = record {
    solves = rest_solves g (λ x. out_set g x may x) false may_grows j r;
    least = rest_first g (λ x. out_set g x may x) false may_grows j r;
  }

  pub may_exists : (l : List ℕ) × LeastClosed g (held l)
  may_exists = let r = may_rests in (may_rounds g r.0, may_at_rest r.0 r.2)

  -- the least of the solutions is the least of all that are closed, and the other way round
  pub least_closed : (m : Outs) → LeastMay g m ↔ LeastClosed g m
  least_closed m = (
    (λ h. record {
      solves = h.solves;
      least = λ x c e p l k t. may_exists.1.least x c e p l k (h.least (held may_exists.0) may_exists.1.solves e p l k t);
    }),
    λ h. record { solves = h.solves; least = λ x q. h.least x (λ e p l k t. q e p l k ∙ t) },
  )

  -- the least solution exists
  pub least_exists : (l : List ℕ) × LeastMay g (held l)
  least_exists = (may_exists.0, (least_closed (held may_exists.0)).1 may_exists.1)

  -- the least MAY solution lies within the grants of each edge's to node, transfer loops included
  pub least_granted : (m : Outs) → LeastMay g m → Within g m (λ e p. grants g (to g e) p)
  least_granted m h e p l k t = right (m e p) (grants g (to g e) p) (((least_closed m).0 h).least cut closed e p l k t)
    where
      cut : Outs
      cut e p = m e p && grants g (to g e) p

      closed : Within g (out_set g cut may cut) cut
      closed e p l k t =
          both (h.solves e p l k ∙ may_mono g acc cut m (λ d q _ _ y. left (m d q) (grants g (to g d) q) y) e p l k t)
          (may_granted g acc cut (λ d q _ y. right (m d q) (grants g (to g d) q) y) e p l t)

module _ (g : Graph) (m : Outs) where
  sure_shrinks : (x y : Outs) → Within g (gone true x) (gone true y) → Within g (gone true (out_set g m sure x)) (gone true (out_set g m sure y))
  unfolding gone
  sure_shrinks x y h e p l k t =
      ap not (turned (out_set g m sure y e p) (out_set g m sure x e p) (sure_mono g m y x (λ d q u j. unturned (x d q) (y d q) (h d q u j)) e p l k) (not-true _ t))

  pub sure_rests : (j : ℕ) × (j ≤ g.size.m * g.size.k) × (sure_rounds g m (suc j) ≡ sure_rounds g m j)
  sure_rests = rounds_rest g (out_set g m sure) true sure_shrinks

  pub sure_at_rest : (j : ℕ) → sure_rounds g m (suc j) ≡ sure_rounds g m j → GreatestBacked g m (held (sure_rounds g m j))
  unfolding gone
  sure_at_rest j r = record {
    solves = rest_solves g (out_set g m sure) true sure_shrinks j r;
    greatest = λ x c e p l k. unturned (held (sure_rounds g m j) e p) (x e p) (rest_first g (out_set g m sure) true sure_shrinks j r x (λ d q u i z. ap not (turned (x d q) (out_set g m sure x d q) (c d q u i) (not-true _ z))) e p l k);
  }

  pub sure_exists : (l : List ℕ) × GreatestBacked g m (held l)
  sure_exists = let r = sure_rests in (sure_rounds g m r.0, sure_at_rest r.0 r.2)

  pub greatest_backed : (s : Outs) → GreatestSure g m s ↔ GreatestBacked g m s
  greatest_backed s = (
    (λ h. record {
      solves = h.solves;
      greatest = λ x c e p l k t. h.greatest (held sure_exists.0) sure_exists.1.solves e p l k (sure_exists.1.greatest x c e p l k t);
    }),
    λ h. record { solves = h.solves; greatest = λ x q. h.greatest x (λ e p l k t. sym (q e p l k) ∙ t) },
  )

  -- the greatest solution exists
  pub greatest_exists : (l : List ℕ) × GreatestSure g m (held l)
  greatest_exists = (sure_exists.0, (greatest_backed (held sure_exists.0)).1 sure_exists.1)
