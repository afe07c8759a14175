-- Lists that a loop fills from the left: the element at each i becomes f i.
use Rattle.std.specs.Prelude.{ℕ, ◌+◌, ◌≤◌, ◌<◌, ◌≡◌, refl, List, length, get_or, set}
use Rattle.std.proofs.Common.{◌∙◌, arith, below_none, below_more, length-set, get_or-set_same, get_or-set_other}

-- one element more
pub set_more : (f : ℕ → ℕ) (s : List ℕ) (i v : ℕ) → i < length s → v ≡ f i → ((j : ℕ) → j < i → get_or s j 0 ≡ f j)
    → (j : ℕ) → j < i + 1 → get_or (set s i v) j 0 ≡ f j
set_more f s i v l e done =
    below_more _ _ (λ j b. get_or-set_other s i j v 0 (λ z. omega arith) ∙ done j b) (get_or-set_same s i v 0 l ∙ e)

-- s is the list s₀ after i of n writes; the rest is as it was
pub record Filled (f : ℕ → ℕ) (n : ℕ) (s₀ s : List ℕ) (i : ℕ) : Type 0 where
  pub within : i ≤ n
  pub long : length s ≡ length s₀
  pub done : (j : ℕ) → j < i → get_or s j 0 ≡ f j
  pub rest : (j : ℕ) → i ≤ j → get_or s j 0 ≡ get_or s₀ j 0

module _ (f : ℕ → ℕ) (n : ℕ) (s₀ : List ℕ) where
  pub filled_none : Filled f n s₀ s₀ 0
  filled_none = record { within = omega arith; long = refl; done = below_none _; rest = λ _ _. refl }

  pub filled_more : (s : List ℕ) (i v : ℕ) → i < n → n ≤ length s₀ → v ≡ f i → Filled f n s₀ s i → Filled f n s₀ (set s i v) (i + 1)
  filled_more s i v l h e w =
      record {
        within = omega arith;
        long = length-set s i v ∙ w.long;
        done = set_more f s i v (omega arith) e w.done;
        rest = λ j h. get_or-set_other s i j v 0 (λ z. omega arith) ∙ w.rest j (omega arith);
      }

  pub filled_all : (s : List ℕ) (i : ℕ) → n ≤ i → Filled f n s₀ s i → (j : ℕ) → j < n → get_or s j 0 ≡ f j
  filled_all s i h w j l = w.done j (omega arith)

  pub filled_rest : (s : List ℕ) (i : ℕ) → Filled f n s₀ s i → (j : ℕ) → n ≤ j → get_or s j 0 ≡ get_or s₀ j 0
  filled_rest s i w j l = w.rest j (omega (arith, w.within))
