-- The two folds over what arrives at a node say what they seem to say.
use Rattle.std.specs.Prelude.{ℕ, ◌<◌, ◌≡◌, refl, ◌⊎◌, Bool, true, ◌&&◌}
use Rattle.std.proofs.Common.{inl, inr, eqb-true, eq-eqb}
use Rattle.std.proofs.Math.Dec.{eqb}
use Rattle.truth.specs.Truth.{◌⇒◌, some}
use Rattle.truth.specs.Truth.Bools.{both, left, right, either, or_left, or_right, given, when}
use Rattle.truth.specs.Truth.Folds.{some_intro, some_elim, every_intro, every_elim}
use Rattle.graph.specs.Graph.{Graph, entry, grants, to, Outs, Arrival, mark, edge, arriving, some_arrival, every_arrival}

-- a arrives at n
pub data Arrives (g : Graph) (n : ℕ) : Arrival → Type 0 where
  by_mark : entry g n ≡ true → Arrives g n mark
  by_edge : (e : ℕ) → e < g.size.m → to g e ≡ n → Arrives g n (edge e)

module _ (g : Graph) (n : ℕ) (f : Arrival → Bool) where
  pub some_arrives : (a : Arrival) → Arrives g n a → f a ≡ true → some_arrival g n f ≡ true
  unfolding some_arrival
  some_arrives a (by_mark m) t = or_left _ (both m t)
  some_arrives a (by_edge e h q) t =
      or_right (entry g n && f mark) (some_intro g.size.m (λ e. eqb (to g e) n && f (edge e)) e h (both (eq-eqb (to g e) n q) t))

  pub arrives_some : some_arrival g n f ≡ true → (a : Arrival) × Arrives g n a × (f a ≡ true)
  unfolding some_arrival
  arrives_some t = go (either (entry g n && f mark) _ t)
    where
      go : (entry g n && f mark ≡ true) ⊎ (some g.size.m (λ e. eqb (to g e) n && f (edge e)) ≡ true) → (a : Arrival) × Arrives g n a × (f a ≡ true)
      go (inl u) = (mark, by_mark (left (entry g n) (f mark) u), right (entry g n) (f mark) u)
      go (inr u) =
          let r = some_elim g.size.m (λ e. eqb (to g e) n && f (edge e)) u in
          let e = r.0 in
          (edge e, by_edge e r.1 (eqb-true (to g e) n (left (eqb (to g e) n) (f (edge e)) r.2)), right (eqb (to g e) n) (f (edge e)) r.2)

  pub every_arrives : ((a : Arrival) → Arrives g n a → f a ≡ true) → every_arrival g n f ≡ true
  unfolding every_arrival
  every_arrives h =
      both (when (entry g n) (f mark) (λ m. h mark (by_mark m)))
      (every_intro g.size.m (λ e. eqb (to g e) n ⇒ f (edge e)) (λ e l. when (eqb (to g e) n) (f (edge e)) (λ q. h (edge e) (by_edge e l (eqb-true (to g e) n q)))))

  pub arrives_every : every_arrival g n f ≡ true → (a : Arrival) → Arrives g n a → f a ≡ true
  unfolding every_arrival
  arrives_every t a (by_mark m) = given (entry g n) (f mark) (left _ _ t) m
  arrives_every t a (by_edge e h q) =
      given (eqb (to g e) n) (f (edge e)) (every_elim g.size.m (λ e. eqb (to g e) n ⇒ f (edge e)) (right (entry g n ⇒ f mark) _ t) e h) (eq-eqb (to g e) n q)

-- what the out set of an arrival is
pub arriving_mark : (g : Graph) (x : Outs) (n p : ℕ) → arriving g x n mark p ≡ grants g n p
unfolding arriving
arriving_mark g x n p = refl

pub arriving_edge : (g : Graph) (x : Outs) (n e p : ℕ) → arriving g x n (edge e) p ≡ x e p
unfolding arriving
arriving_edge g x n e p = refl
