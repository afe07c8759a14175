-- How the work that is left falls.
use Rattle.std.specs.Prelude.{◌≡◌, List, [], ◌∷◌, true, ℕ, zero, suc, ◌+◌, ◌≤◌, ◌<◌, ◌^◌, eqb, length, get_or, set}
use Rattle.std.proofs.Common.{ap, not-suc-le-zero, le_of_suc-le-suc, arith, eqb-true}
use Rattle.std.proofs.lemmas.Bool.{eqb-false, not-true}
use Rattle.truth.specs.Truth.Bools.{by_split}
use Rattle.sets.specs.Sets.{within}
use Rattle.sets.specs.Sets.Order.{join_same, join_more, common_same, common_less}
use Rattle.graph.specs.Graph.{System, may, sure}
use Rattle.flow.specs.Walk.{merge, changes, into, left_one, left}

left_set : (y : System) (l : List ℕ) (b v : ℕ) → b < length l → left y (set l b v) + left_one y (get_or l b 0) ≡ left y l + left_one y v
unfolding left
left_set y [] b v h = absurd (not-suc-le-zero h)
left_set y (x ∷ l) zero v h = omega arith
left_set y (x ∷ l) (suc b) v h = omega (arith, left_set y l b v (le_of_suc-le-suc h))

-- a sum that changes has less left
moves : (y : System) (a v : ℕ) → a < 2 ^ 64 → (merge y a v ≡ a → ⊥) → left_one y (merge y a v) < left_one y a
unfolding merge left_one
moves may a v h d = by_split (within v a) (λ w. absurd (d ((join_same a v).0 w))) (λ w. omega (arith, (join_more a v).0 w))
moves sure a v h d = by_split (within a v) (λ w. absurd (d ((common_same a v).0 w))) (λ w. (common_less a v).0 w)

module _ (y : System) (l : List ℕ) (b v : ℕ) (h : b < length l) (low : get_or l b 0 < 2 ^ 64) where
  pub into_less : changes y l b v ≡ true → left y (into y l b v) < left y l
  into_less c = omega (arith, left_set y l b (merge y (get_or l b 0) v) h, moves y (get_or l b 0) v low (eqb-false _ _ (not-true _ c)))

  pub into_most : left y (into y l b v) ≤ left y l
  into_most =
      by_split (eqb (merge y (get_or l b 0) v) (get_or l b 0))
      (λ e.
      let same : left_one y (merge y (get_or l b 0) v) ≡ left_one y (get_or l b 0) = ap (left_one y) (eqb-true (merge y (get_or l b 0) v) (get_or l b 0) e) in
      omega (arith, left_set y l b (merge y (get_or l b 0) v) h))
      (λ e. omega (arith, left_set y l b (merge y (get_or l b 0) v) h, moves y (get_or l b 0) v low (eqb-false _ _ e)))
