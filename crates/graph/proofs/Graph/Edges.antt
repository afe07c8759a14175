-- What in(n), and what is past an unprivileged check, holds at least and at most, for both systems: the laws that the crates above cite.
use Rattle.std.specs.Prelude.{ℕ, ◌≡◌, ◌↔◌, ◌⊎◌, ◌&&◌, ◌||◌, eqb}
use Rattle.std.proofs.Common.{inl, inr, eqb-true}
use Rattle.std.proofs.Math.Bool.{Bool, true}
use Rattle.std.proofs.lemmas.Bool.{eqb-false}
use Rattle.truth.specs.Truth.{◌⇒◌}
use Rattle.truth.specs.Truth.Bools.{by_split, both, left, right, either, or_left, or_right, given, when}
use Rattle.graph.specs.Graph.{Graph, check, may, sure, Outs, Arrival, arriving, some_arrival, every_arrival, in_set, past_set}
use Rattle.graph.specs.Graph.Arrivals.{Arrives, some_arrives, arrives_some, every_arrives, arrives_every}

-- ---- in(n)

module _ (g : Graph) (x : Outs) (n p : ℕ) where
  pub in_may : (in_set g may x n p ≡ true) ↔ ((a : Arrival) × Arrives g n a × (arriving g x n a p ≡ true))
  unfolding in_set
  in_may = (arrives_some g n (λ a. arriving g x n a p), λ r. some_arrives g n (λ a. arriving g x n a p) r.0 r.1 r.2)

  pub in_sure : (in_set g sure x n p ≡ true) ↔ ((a : Arrival) → Arrives g n a → arriving g x n a p ≡ true)
  unfolding in_set
  in_sure = (arrives_every g n (λ a. arriving g x n a p), every_arrives g n (λ a. arriving g x n a p))

-- ---- past an unprivileged check

module _ (g : Graph) (w x : Outs) (n p : ℕ) where
  pub past_may : (past_set g w may x n p ≡ true) ↔ ((a : Arrival) × Arrives g n a × (arriving g w n a (check g n) ≡ true) × (arriving g x n a p ≡ true))
  unfolding past_set
  past_may = (
    (λ t. let r = arrives_some g n f t in (r.0, r.1, left _ _ r.2, right (arriving g w n r.0 (check g n)) _ r.2)),
    λ r. some_arrives g n f r.0 r.1 (both r.2 r.3),
  )
    where
      f : Arrival → Bool
      f a = arriving g w n a (check g n) && arriving g x n a p

  -- SURE has p past the check where something passes, and p is the check's own or arrives with all that passes
  pub record PastSure : Type 0 where
    pub passing : (a : Arrival) × Arrives g n a × (arriving g w n a (check g n) ≡ true)
    pub held_by_all : (p ≡ check g n → ⊥) → (a : Arrival) → Arrives g n a → arriving g w n a (check g n) ≡ true → arriving g x n a p ≡ true

  pub past_sure : (past_set g w sure x n p ≡ true) ↔ PastSure
  unfolding past_set
  past_sure = (
    (λ t. record {
      passing = arrives_some g n some_passes (left (some_arrival g n some_passes) others t);
      held_by_all = λ d a q. given (arriving g w n a (check g n)) (arriving g x n a p) (arrives_every g n all_hold (not_own d (either (eqb p (check g n)) (every_arrival g n all_hold) (right (some_arrival g n some_passes) others t))) a q);
    }),
    λ r.
        both (some_arrives g n some_passes r.passing.0 r.passing.1 r.passing.2)
        (by_split (eqb p (check g n)) (or_left (every_arrival g n all_hold))
        (λ d. or_right (eqb p (check g n)) (every_arrives g n all_hold (λ a q. when _ _ (r.held_by_all (eqb-false p (check g n) d) a q))))),
  )
    where
      some_passes : Arrival → Bool
      some_passes a = arriving g w n a (check g n)

      all_hold : Arrival → Bool
      all_hold a = arriving g w n a (check g n) ⇒ arriving g x n a p

      others : Bool
      others = eqb p (check g n) || every_arrival g n all_hold

      not_own : (p ≡ check g n → ⊥) → (eqb p (check g n) ≡ true) ⊎ (every_arrival g n all_hold ≡ true) → every_arrival g n all_hold ≡ true
      not_own d (inl e) = absurd (d (eqb-true p (check g n) e))
      not_own d (inr t) = t
