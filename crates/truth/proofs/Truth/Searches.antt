-- What std's searches answer: `find` and `any` over the numbers below n, `all` over a slice. Of the closure each asks what it says of one item.
use Rattle.std.specs.Prelude.{ℕ, ◌≤◌, ◌<◌, Bool, true, false, ◌≡◌, List, length, get_or, take, Option, Some, None, MatchOption, MatchBool, ⊤}
use Rattle.std.specs.Fn.{Called, CalledAt}
use Rattle.std.specs.Iterator.{YieldsThen}
use Rattle.std.specs.List.{FoldsTo, range_with_len, AllWithin, HoldsAt}
use Rattle.std.specs.Slice.Iter.{iter_rest}
use Rattle.std.specs.declared.slice.Iter.{Iter}
use Rattle.std.specs.declared.ops.Range.{Range}
use Rattle.std.proofs.Common.{subst, sym, arith, refl, length-take}
use Rattle.std.proofs.lemmas.List.{get_or-take}
use Rattle.std.proofs.iter.Yields.{fronts, nat_range_steps}
use Rattle.std.proofs.lemmas.Iterator.{YieldsList-from_range, YieldsList-from_slice, cases_from_all, cases_from_any, first_from_Range}
use Rattle.std.proofs.lemmas.List.FromFn.{length-range_with_len, get_or-range_with_len}
use denote.Param.Members.{Mut}
use denote.Ref.{Bor}
use Rattle.truth.specs.Truth.{Says, holds, fails, All, Finds, nowhere}
use Rattle.truth.specs.Truth.Tests.{says_same, stops_at}

-- the numbers below n, as the code writes them
abbrev pub below : ℕ → Range ℕ
below n = record { start = 0; end = n }

-- `(0..n).find(|i| !f(i))`, where the closure is true where P fails
pub finds_below : (P : ℕ → Type 0) {n : ℕ} {F : Type 0} {g : Mut F (Bor ℕ × Unit {0}) Bool} (u : Range ℕ) (f : F) {r : Option ℕ}
    → (xs : List ℕ) × (j : F) × YieldsThen nat_range_steps (below n) xs r u × FoldsTo (λ p x q. CalledAt g p x false q) f xs j × MatchOption r ⊤ (λ x. (h : F) × CalledAt g j x true h)
    → ((i : ℕ) (q : F) → CalledAt g f i true q → P i → ⊥)
    → ((i : ℕ) (q : F) → CalledAt g f i false q → (q ≡ f) × P i)
    → Finds P n r
finds_below P {n} u f {r} ran t e = by r (first_from_Range (below n) u f r (λ i. P i → ⊥) P ran t e)
  where
    by : (r : Option ℕ) → MatchOption r ((k : ℕ) → 0 ≤ k → k < n → P k) (λ i. (0 ≤ i) × (i < n) × (P i → ⊥) × ((k : ℕ) → 0 ≤ k → k < i → P k)) → Finds P n r
    by None h = nowhere (λ k l. h k (omega arith) l)
    by (Some i) h = stops_at (λ k l. h.3 k (omega arith) l) h.1 h.2

-- `(0..n).any(f)`, where the closure is true where P holds
pub any_below : (P : ℕ → Type 0) {n : ℕ} {F : Type 0} {g : Mut F (ℕ × Unit {0}) Bool} (u : Range ℕ) (f : F) {r : Bool}
    → (xs : List ℕ) × (o : Option ℕ) × (j : F) × YieldsThen nat_range_steps (below n) xs o u × FoldsTo (λ p x q. Called g p (x, tt) false q) f xs j × MatchOption o (r ≡ false) (λ x. (r ≡ true) × ((h : F) × Called g j (x, tt) true h))
    → ((i : ℕ) (q : F) → Called g f (i, tt) true q → P i)
    → ((i : ℕ) (q : F) → Called g f (i, tt) false q → (q ≡ f) × (P i → ⊥))
    → Says ((i : ℕ) × (i < n) × P i) r
any_below P {n} u f {r} ran t e = by r (cases_from_any u f r P (λ i. P i → ⊥) ran (YieldsList-from_range 0 n n refl (omega arith)) t e)
  where
    by : (r : Bool) → MatchBool r ((k : ℕ) × (k < length (range_with_len 0 n)) × HoldsAt P (range_with_len 0 n) k) (AllWithin (λ i. P i → ⊥) (range_with_len 0 n) 0 (length (range_with_len 0 n))) → Says ((i : ℕ) × (i < n) × P i) r
    by true (k, l, p) =
        let low : k < n = omega (arith, length-range_with_len 0 n) in
        holds (k, low, subst P (omega (arith, get_or-range_with_len 0 n k 0 low)) (p 0))
    by false h = fails (λ (i, l, p). h i 0 (omega arith) (omega (arith, length-range_with_len 0 n)) (subst P (omega (arith, get_or-range_with_len 0 n i 0 l)) p))

-- `s.iter().all(f)`, where the closure is true where P holds of the item
pub all_of : (P : ℕ → Type 0) {xs : List ℕ} {F : Type 0} {g : Mut F (Bor ℕ × Unit {0}) Bool} {s : Iter ℕ} (u : Iter ℕ) (f : F) {r : Bool} → iter_rest s ≡ xs
    → (ys : List (Bor ℕ)) × (o : Option (Bor ℕ)) × (j : F) × YieldsThen fronts s ys o u × FoldsTo (λ p x q. Called g p (x, tt) true q) f ys j × MatchOption o (r ≡ true) (λ x. (r ≡ false) × ((h : F) × Called g j (x, tt) false h))
    → ((x : Bor ℕ) (q : F) → Called g f (x, tt) true q → (q ≡ f) × P x.now)
    → ((x : Bor ℕ) (q : F) → Called g f (x, tt) false q → P x.now → ⊥)
    → Says (All (λ i. P (get_or xs i 0)) (length xs)) r
all_of P {xs} u f {r} rest ran t e = by r (cases_from_all u f r P (λ x. P x → ⊥) ran (YieldsList-from_slice xs rest) t e)
  where
    by : (r : Bool) → MatchBool r (AllWithin P xs 0 (length xs)) ((k : ℕ) × (k < length xs) × HoldsAt (λ x. P x → ⊥) xs k) → Says (All (λ i. P (get_or xs i 0)) (length xs)) r
    by true h = holds (λ i l. h i 0 (omega arith) l)
    by false (k, l, d) = fails (λ a. d 0 (a k l))

-- of the first n places of a slice, as `s[..n]`
pub all_front : (P : ℕ → Type 0) (xs : List ℕ) {n : ℕ} {r : Bool} → n ≤ length xs → Says (All (λ i. P (get_or (take n xs) i 0)) (length (take n xs))) r → Says (All (λ i. P (get_or xs i 0)) n) r
all_front P xs {n} h s =
    let long : length (take n xs) ≡ n = omega (arith, length-take {A = ℕ}) in
    says_same s
    (λ a i l. subst P (get_or-take n xs i 0 l) (a i (omega (arith, long))))
    (λ a i l. subst P (sym (get_or-take n xs i 0 (omega (arith, long)))) (a i (omega (arith, long))))
