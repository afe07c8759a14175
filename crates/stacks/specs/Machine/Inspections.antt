-- The inspections, a frame at a time.
use Rattle.std.specs.Prelude.{ℕ, ◌≡◌, List, [], ◌∷◌, true, false, get_or}
use Rattle.std.proofs.Math.Path.{refl}
use Rattle.sets.specs.Sets.{has}
use Rattle.graph.specs.Graph.{privileged_by}
use Rattle.stacks.specs.Machine.{Rights, decided, below, bottom, full, quick}

module _ (x : Rights) (p : ℕ) where
  pub full_bottom : full x p [] ≡ bottom
  unfolding full
  full_bottom = refl

  module _ (n : ℕ) (r : List ℕ) where
    pub full_lacks : has (get_or x.grants n 0) p ≡ false → full x p (n ∷ r) ≡ decided false
    unfolding full
    full_lacks a = rw a

    pub full_stops : has (get_or x.grants n 0) p ≡ true → privileged_by (get_or x.marks n 0) p ≡ true → full x p (n ∷ r) ≡ decided true
    unfolding full
    full_stops a v = rw (a, v)

    pub full_below : has (get_or x.grants n 0) p ≡ true → privileged_by (get_or x.marks n 0) p ≡ false → full x p (n ∷ r) ≡ below (full x p r)
    unfolding full
    full_below a v = rw (a, v)

module _ (denied granted : List ℕ) (p : ℕ) where
  pub quick_bottom : quick denied granted p [] ≡ bottom
  unfolding quick
  quick_bottom = refl

  module _ (n : ℕ) (r : List ℕ) where
    pub quick_denies : has (get_or denied n 0) p ≡ true → quick denied granted p (n ∷ r) ≡ decided false
    unfolding quick
    quick_denies d = rw d

    pub quick_grants : has (get_or denied n 0) p ≡ false → has (get_or granted n 0) p ≡ true → quick denied granted p (n ∷ r) ≡ decided true
    unfolding quick
    quick_grants d a = rw (d, a)

    pub quick_below : has (get_or denied n 0) p ≡ false → has (get_or granted n 0) p ≡ false → quick denied granted p (n ∷ r) ≡ below (quick denied granted p r)
    unfolding quick
    quick_below d a = rw (d, a)
