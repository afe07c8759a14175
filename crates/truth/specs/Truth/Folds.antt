-- Laws of `some` and `every`: they say what they seem to say.
use Rattle.std.specs.Prelude.{ℕ, zero, suc, ◌<◌, ◌≡◌, refl, ◌⊎◌, Bool, true, ◌||◌}
use Rattle.std.proofs.Common.{inl, inr, not-suc-le-zero, arith}
use Rattle.std.proofs.lemmas.Bool.{false≢true}
use Rattle.std.proofs.Math.Decide.{ℕ_discrete}
use Rattle.truth.specs.Truth.{some, every}
use Rattle.truth.specs.Truth.Bools.{both, left, right, either, or_left, or_right}

pub some_intro : (n : ℕ) (f : ℕ → Bool) (i : ℕ) → i < n → f i ≡ true → some n f ≡ true
unfolding some
some_intro zero f i h t = absurd (not-suc-le-zero h)
some_intro (suc n) f i h t = go (ℕ_discrete i n) (λ l. some_intro n f i l t)
  where
    go : Dec (i ≡ n) → (i < n → some n f ≡ true) → f n || some n f ≡ true
    go (yes e) rec = or_left (some n f) (rw e at t)
    go (no d) rec = or_right (f n) (rec (omega (arith, d)))

pub some_elim : (n : ℕ) (f : ℕ → Bool) → some n f ≡ true → (i : ℕ) × (i < n) × (f i ≡ true)
unfolding some
some_elim zero f e = absurd (false≢true e)
some_elim (suc n) f e = go (either (f n) (some n f) e) (λ t. some_elim n f t)
  where
    go : (f n ≡ true) ⊎ (some n f ≡ true) → (some n f ≡ true → (i : ℕ) × (i < n) × (f i ≡ true)) → (i : ℕ) × (i < suc n) × (f i ≡ true)
    go (inl t) rec = (n, omega arith, t)
    go (inr t) rec = let r = rec t in (r.0, omega (arith, r.1), r.2)

pub every_intro : (n : ℕ) (f : ℕ → Bool) → ((i : ℕ) → i < n → f i ≡ true) → every n f ≡ true
unfolding every
every_intro zero f h = refl
every_intro (suc n) f h = both (h n (omega arith)) (every_intro n f (λ i l. h i (omega arith)))

pub every_elim : (n : ℕ) (f : ℕ → Bool) → every n f ≡ true → (i : ℕ) → i < n → f i ≡ true
unfolding every
every_elim zero f e i h = absurd (not-suc-le-zero h)
every_elim (suc n) f e i h = go (ℕ_discrete i n) (every_elim n f (right (f n) (every n f) e) i)
  where
    go : Dec (i ≡ n) → (i < n → f i ≡ true) → f i ≡ true
    go (yes q) rec = rw q (left (f n) (every n f) e)
    go (no d) rec = rec (omega (arith, d))
