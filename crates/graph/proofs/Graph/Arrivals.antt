-- The two folds over what arrives at a node grow with what they ask.
use Rattle.graph.specs.Graph.Arrivals.{Arrives, some_arrives, arrives_some, every_arrives, arrives_every}
use Rattle.std.specs.Prelude.{ℕ, ◌≡◌, Bool, true}
use Rattle.graph.specs.Graph.{Graph, Arrival, some_arrival, every_arrival}

module _ (g : Graph) (n : ℕ) (f f' : Arrival → Bool) (h : (a : Arrival) → Arrives g n a → f a ≡ true → f' a ≡ true) where
  pub some_mono : some_arrival g n f ≡ true → some_arrival g n f' ≡ true
  some_mono t =
      let r = arrives_some g n f t in
      some_arrives g n f' r.0 r.1 (h r.0 r.1 r.2)

  pub every_mono : every_arrival g n f ≡ true → every_arrival g n f' ≡ true
  every_mono t = every_arrives g n f' (λ a q. h a q (arrives_every g n f t a q))
