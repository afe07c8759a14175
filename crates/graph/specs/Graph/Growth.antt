-- A chain of out sets that only grows is at rest after at most M times K steps.
use Prim.Native.Nat.{ℕ, zero, suc, ◌+◌, ◌*◌, ◌<◌, ◌≤◌, zero-le}
use Rattle.std.specs.Prelude.{◌≡◌, refl, ◌⊎◌, Bool, true, false, not, ◌&&◌}
use Rattle.std.proofs.Common.{ap, le_trans}
use Rattle.std.proofs.Math.Logic.{inl, inr, ⊎_elim}
use native.Mathlib.Omega.{arith}
use Rattle.std.proofs.Math.Decide.{ℕ_discrete}
use Rattle.std.proofs.lemmas.Bool.{not-true}
use Rattle.truth.specs.Truth.{some}
use Rattle.truth.specs.Truth.Bools.{split, by_split, clash, both, left, right}
use Rattle.truth.specs.Truth.Folds.{some_intro, some_elim}
use Rattle.graph.specs.Graph.{Graph, Outs, Within}

-- ---- sums over the numbers below a bound

total : ℕ → (ℕ → ℕ) → ℕ
total zero f = 0
total (suc n) f = total n f + f n

total_le : (n : ℕ) (f f' : ℕ → ℕ) → ((i : ℕ) → i < n → f i ≤ f' i) → total n f ≤ total n f'
unfolding total
total_le zero f f' h = omega arith
total_le (suc n) f f' h = omega (arith, total_le n f f' (λ i l. h i (omega arith)), h n (omega arith))

total_lt : (n : ℕ) (f f' : ℕ → ℕ) → ((i : ℕ) → i < n → f i ≤ f' i) → (i : ℕ) → i < n → f i < f' i → total n f < total n f'
unfolding total
total_lt zero f f' h i l s = omega arith
total_lt (suc n) f f' h i l s = go (ℕ_discrete i n) (λ u. total_lt n f f' (λ i l. h i (omega arith)) i u s)
  where
    go : Dec (i ≡ n) → (i < n → total n f < total n f') → total n f + f n < total n f' + f' n
    go (yes e) rec =
        let b : f n < f' n = rw e at s in
        omega (arith, total_le n f f' (λ i l. h i (omega arith)))
    go (no d) rec = omega (arith, rec (omega (arith, d)), h n (omega arith))

total_bound : (n c : ℕ) (f : ℕ → ℕ) → ((i : ℕ) → i < n → f i ≤ c) → total n f ≤ n * c
unfolding total
total_bound zero c f h = zero-le
total_bound (suc n) c f h = omega (arith, total_bound n c f (λ i l. h i (omega arith)), h n (omega arith))

-- ---- how many edge and permission pairs out sets hold

bit : Bool → ℕ
bit true = 1
bit false = 0

bit_le : (a b : Bool) → (a ≡ true → b ≡ true) → bit a ≤ bit b
unfolding bit
bit_le true b h = rw (h refl) (omega arith)
bit_le false b h = zero-le

bit_lt : (a b : Bool) → a ≡ false → b ≡ true → bit a < bit b
unfolding bit
bit_lt a b e q = rw (e, q) (omega arith)

bit_one : (a : Bool) → bit a ≤ 1
unfolding bit
bit_one true = omega arith
bit_one false = zero-le

size : Graph → Outs → ℕ
size g x = total g.size.m (λ e. total g.size.k (λ p. bit (x e p)))

size_bound : (g : Graph) (x : Outs) → size g x ≤ g.size.m * g.size.k
unfolding size
size_bound g x =
    total_bound g.size.m g.size.k _ (λ e l. le_trans (total_bound g.size.k 1 (λ p. bit (x e p)) (λ p k. bit_one (x e p))) (omega arith))

size_lt : (g : Graph) (x y : Outs) → Within g x y → (e p : ℕ) → e < g.size.m → p < g.size.k → x e p ≡ false → y e p ≡ true → size g x < size g y
unfolding size
size_lt g x y h e p l k f t =
    total_lt g.size.m (λ e. total g.size.k (λ p. bit (x e p))) (λ e. total g.size.k (λ p. bit (y e p)))
    (λ d u. total_le g.size.k (λ p. bit (x d p)) (λ p. bit (y d p)) (λ q j. bit_le (x d q) (y d q) (h d q u j))) e l
    (total_lt g.size.k (λ p. bit (x e p)) (λ p. bit (y e p)) (λ q j. bit_le (x e q) (y e q) (h e q l j)) p k (bit_lt (x e p) (y e p) f t))

-- ---- a step brings something new, or the chain is at rest

news : Graph → Outs → Outs → Bool
news g x y = some g.size.m (λ e. some g.size.k (λ p. y e p && not (x e p)))

no_news : (g : Graph) (x y : Outs) → news g x y ≡ false → Within g y x
unfolding news
no_news g x y f e p l k t =
    by_split (x e p) (λ u. u)
    (λ u. clash (some_intro g.size.m (λ e. some g.size.k (λ p. y e p && not (x e p))) e l (some_intro g.size.k (λ p. y e p && not (x e p)) p k (both t (ap not u)))) f)

some_news : (g : Graph) (x y : Outs) → Within g x y → news g x y ≡ true → size g x < size g y
unfolding news
some_news g x y h t =
    let r = some_elim g.size.m (λ e. some g.size.k (λ p. y e p && not (x e p))) t in
    let q = some_elim g.size.k (λ p. y r.0 p && not (x r.0 p)) r.2 in
    size_lt g x y h r.0 q.0 r.1 q.1 (not-true (x r.0 q.0) (right (y r.0 q.0) (not (x r.0 q.0)) q.2)) (left (y r.0 q.0) (not (x r.0 q.0)) q.2)

module _ (g : Graph) (x : ℕ → Outs) (grows : (i : ℕ) → Within g (x i) (x (suc i))) where
  Rest : ℕ → Type 0
  Rest n = (j : ℕ) × (j < n) × Within g (x (suc j)) (x j)

  rest_or_size : (n : ℕ) → Rest n ⊎ (n ≤ size g (x n))
  unfolding Rest
  rest_or_size zero = inr zero-le
  rest_or_size (suc n) = go (rest_or_size n) (split (news g (x n) (x (suc n))))
    where
      go : Rest n ⊎ (n ≤ size g (x n)) → (news g (x n) (x (suc n)) ≡ true) ⊎ (news g (x n) (x (suc n)) ≡ false) → Rest (suc n) ⊎ (suc n ≤ size g (x (suc n)))
      go (inl r) _ = inl (r.0, omega (arith, r.1), r.2)
      go (inr s) (inl t) = inr (omega (arith, some_news g (x n) (x (suc n)) (grows n) t))
      go (inr s) (inr f) = inl (n, omega arith, no_news g (x n) (x (suc n)) f)

  pub rests : (j : ℕ) × (j ≤ g.size.m * g.size.k) × Within g (x (suc j)) (x j)
  unfolding Rest
  rests =
      ⊎_elim (λ r. (r.0, omega (arith, r.1), r.2)) (λ s. absurd (omega (arith, size_bound g (x (suc (g.size.m * g.size.k))))))
      (rest_or_size (suc (g.size.m * g.size.k)))
