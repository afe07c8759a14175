-- Laws of tests and searches.
use Rattle.std.specs.Prelude.{ℕ, zero, suc, ◌+◌, ◌≤◌, ◌<◌, Bool, true, false, cond, not, ◌&&◌, ◌||◌, ◌≡◌, refl, ◌⊎◌, leb, ltb, eqb, Some, None}
use Rattle.std.proofs.Common.{subst, inl, inr, ⊎_elim, arith, below_more, leb-true, leb-false, ltb-true, ltb-false, eqb-true}
use Rattle.std.proofs.Math.Logic.{dite}
use Rattle.std.proofs.Math.Decide.{dec_lt}
use Rattle.std.proofs.lemmas.Bool.{eqb-false}
use Rattle.truth.specs.Truth.{Says, holds, fails, All, First, Finds, nowhere, found, first}
use Rattle.truth.specs.Truth.Bools.{clash}

-- ---- tests

pub says_true : {P : Type 0} {b : Bool} → Says P b → b ≡ true → P
says_true (holds p) e = p
says_true (fails q) e = clash e refl

pub says_false : {P : Type 0} {b : Bool} → Says P b → b ≡ false → P → ⊥
says_false (holds p) e = clash refl e
says_false (fails q) e = q

pub true_says : {P : Type 0} {b : Bool} → Says P b → P → b ≡ true
true_says (holds p) h = refl
true_says (fails q) h = absurd (q h)

pub false_says : {P : Type 0} {b : Bool} → Says P b → (P → ⊥) → b ≡ false
false_says (holds p) h = absurd (h p)
false_says (fails q) h = refl

-- one truth value is left
pub says_one : {P : Type 0} {a b : Bool} → Says P a → Says P b → a ≡ b
says_one (holds p) (holds q) = refl
says_one (holds p) (fails q) = absurd (q p)
says_one (fails p) (holds q) = absurd (p q)
says_one (fails p) (fails q) = refl

pub says_same : {P Q : Type 0} {b : Bool} → Says P b → (P → Q) → (Q → P) → Says Q b
says_same (holds p) f g = holds (f p)
says_same (fails q) f g = fails (λ x. q (g x))

pub says_by : {P : Type 0} (b : Bool) → (b ≡ true → P) → (b ≡ false → P → ⊥) → Says P b
says_by true f g = holds (f refl)
says_by false f g = fails (g refl)

pub says_no : {P : Type 0} {b : Bool} → b ≡ false → (P → ⊥) → Says P b
says_no {b} e d = says_by b (λ t. clash t e) (λ _. d)

pub le? : (a b : ℕ) → Says (a ≤ b) (leb a b)
le? a b = says_by (leb a b) (leb-true a b) (λ e h. let z = leb-false a b e in omega arith)

pub lt? : (a b : ℕ) → Says (a < b) (ltb a b)
lt? a b = says_by (ltb a b) (ltb-true a b) (λ e h. let z = ltb-false a b e in omega arith)

pub eq? : (a b : ℕ) → Says (a ≡ b) (eqb a b)
eq? a b = says_by (eqb a b) (eqb-true a b) (eqb-false a b)

pub and? : {P Q : Type 0} {a b : Bool} → Says P a → Says Q b → Says (P × Q) (a && b)
and? (holds p) (holds q) = holds (p, q)
and? (holds p) (fails q) = fails (λ x. q x.1)
and? (fails p) s = fails (λ x. p x.0)

pub or? : {P Q : Type 0} {a b : Bool} → Says P a → Says Q b → Says (P ⊎ Q) (a || b)
or? (holds p) s = holds (inl p)
or? (fails p) (holds q) = holds (inr q)
or? (fails p) (fails q) = fails (⊎_elim p q)

pub not? : {P : Type 0} {b : Bool} → Says P b → Says (P → ⊥) (not b)
not? (holds p) = fails (λ d. d p)
not? (fails d) = holds d

-- P where E holds, and Q where it does not
pub if? : {E P Q : Type 0} {e a b : Bool} → Says E e → Says P a → Says Q b → Says ((E → P) × ((E → ⊥) → Q)) (cond e a b)
if? (holds e) s t = says_same s (λ p. ((λ _. p), λ d. absurd (d e))) (λ x. x.0 e)
if? (fails d) s t = says_same t (λ q. ((λ e. absurd (d e)), λ _. q)) (λ x. x.1 d)

-- ---- searches

pub first_all : {P : ℕ → Type 0} {n r : ℕ} → First P n r → n ≤ r → All P n
first_all f h i p = f.before i (omega arith)

pub first_some : {P : ℕ → Type 0} {n r : ℕ} → First P n r → r < n → All P n → ⊥
first_some f h a = f.broken h (a _ h)

pub all_first : {P : ℕ → Type 0} {n r : ℕ} → First P n r → All P n → n ≤ r
all_first {P} {n} {r} f a = dite (dec_lt r n) (λ h. absurd (f.broken h (a r h))) (λ h. omega arith)

-- where P fails somewhere, the search stops before the end
pub first_found : {P : ℕ → Type 0} {n r i : ℕ} → First P n r → i < n → (P i → ⊥) → r < n
first_found {P} {n} {r} {i} f h d = dite (dec_lt r n) (λ l. l) (λ l. absurd (d (f.before i (omega (arith, f.within)))))

pub first_one : {P : ℕ → Type 0} {n r s : ℕ} → First P n r → First P n s → r ≡ s
first_one {P} {n} {r} {s} f g =
    dite (dec_lt r s) (λ h. absurd (f.broken (omega (arith, g.within)) (g.before r h)))
    (λ h. dite (dec_lt s r) (λ k. absurd (g.broken (omega (arith, f.within)) (f.before s k))) (λ k. omega arith))

pub first? : {P : ℕ → Type 0} (f : ℕ → Bool) → ((i : ℕ) → Says (P i) (f i)) → (n : ℕ) → First P n (first f n)
unfolding first
first? f s zero = record { within = omega arith; before = λ i h. absurd (omega arith); broken = λ h x. omega arith }
first? {P} f s (suc n) = step (first f n) (first? f s n) (ltb (first f n) n) (lt? (first f n) n) (f n) (s n)
  where
    step : (r : ℕ) → First P n r → (b : Bool) → Says (r < n) b → (q : Bool) → Says (P n) q → First P (suc n) (cond b r (cond q (suc n) n))
    step r f true (holds h) q t = record { within = omega (arith, f.within); before = f.before; broken = λ _. f.broken h }
    step r f false (fails h) true (holds x) = record {
      within = omega arith;
      before = λ i k. dite (dec_lt i n) (λ l. f.before i (omega (arith, f.within))) (λ l. subst P (omega arith) x);
      broken = λ k _. omega arith;
    }
    step r f false (fails h) false (fails x) = record {
      within = omega arith;
      before = λ i k. f.before i (omega (arith, f.within));
      broken = λ _. x;
    }

-- ---- a search on its way: it has come to i, and P held at every number before

pub record Passed (P : ℕ → Type 0) (n i : ℕ) : Type 0 where
  pub within : i ≤ n
  pub before : All P i

pub passed_none : {P : ℕ → Type 0} {n : ℕ} → Passed P n 0
passed_none = record { within = omega arith; before = λ i h. absurd (omega arith) }

pub passed_more : {P : ℕ → Type 0} {n i : ℕ} → Passed P n i → i < n → P i → Passed P n (i + 1)
passed_more {P} {n} {i} s h p = record { within = omega arith; before = below_more P i s.before p }

pub passed_stop : {P : ℕ → Type 0} {n i : ℕ} → Passed P n i → (P i → ⊥) → First P n i
passed_stop s d = record { within = s.within; before = s.before; broken = λ _. d }

pub passed_end : {P : ℕ → Type 0} {n i : ℕ} → Passed P n i → n ≤ i → First P n i
passed_end s h = record { within = s.within; before = s.before; broken = λ l. absurd (omega arith) }

-- ---- a search that answers with an Option

pub finds_none : {P : ℕ → Type 0} {n : ℕ} → Finds P n None → All P n
finds_none (nowhere a) = a

pub finds_low : {P : ℕ → Type 0} {n r : ℕ} → Finds P n (Some r) → r < n
finds_low (found h f) = h

pub finds_first : {P : ℕ → Type 0} {n r : ℕ} → Finds P n (Some r) → First P n r
finds_first (found h f) = f

-- P fails at what is found
pub finds_broken : {P : ℕ → Type 0} {n r : ℕ} → Finds P n (Some r) → P r → ⊥
finds_broken (found h f) = f.broken h

-- a search that stops at r, having come there
pub stops_at : {P : ℕ → Type 0} {n r : ℕ} → All P r → r < n → (P r → ⊥) → Finds P n (Some r)
stops_at a h d = found h (record { within = omega arith; before = a; broken = λ _. d })
