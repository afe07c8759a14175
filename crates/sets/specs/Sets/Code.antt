-- What the code computes is what the definitions say. For the proofs of this crate's functions, for a crate above that meets
-- the constant `Set::EMPTY`, whose number a caller's proof sees, and for tables that are computed.
use Rattle.std.specs.Prelude.{◌≡◌, refl, ℕ, ◌-◌, ◌*◌, ◌/◌, ◌%◌, ◌^◌, ◌≤◌, ◌<◌, eqb}
use Rattle.std.proofs.Common.{sym, ap, ◌∙◌, le_of_lt, lt-ltb, le-ltb}
use Rattle.std.proofs.Math.Nat.{min-eq_left, min-eq_right}
use Rattle.std.specs.Int.Bits.{bit_and, bit_or, bit_xor}
use Rattle.truth.specs.Truth.Kit.{shl_one}
use Rattle.sets.specs.Sets.{has, empty, all, join, common, without, add, within, same}
use Rattle.sets.specs.declared.Set.{Set}

-- a set is its number: two answers that meet one promise are equal
pub one_set : {a b : Set} {n : ℕ} → a.bits ≡ n → b.bits ≡ n → a ≡ b
one_set {a} {b} p q = λ i. record { bits = (p ∙ sym q) i }

pub empty_code : empty ≡ 0
unfolding empty
empty_code = refl

pub all_code : (k : ℕ) → k < 64 → (1 * 2 ^ k) % 2 ^ 64 - 1 ≡ all k
unfolding all
all_code k h = ap (λ (n : ℕ). n - 1) (shl_one k h) ∙ ap (λ (n : ℕ). 2 ^ n - 1) (sym (min-eq_left (le_of_lt h)))

pub all_code_past : (k : ℕ) → 64 ≤ k → 2 ^ 64 - 1 ≡ all k
unfolding all
all_code_past k h = ap (λ (n : ℕ). 2 ^ n - 1) (sym (min-eq_right h))

pub join_code : (a b : ℕ) → bit_or a b ≡ join a b
unfolding join
join_code a b = refl

pub common_code : (a b : ℕ) → bit_and a b ≡ common a b
unfolding common
common_code a b = refl

pub without_code : (a b : ℕ) → bit_xor a (bit_and a b) ≡ without a b
unfolding without
without_code a b = refl

pub within_code : (a b : ℕ) → eqb (bit_and a b) a ≡ within a b
unfolding within
within_code a b = refl

pub same_code : (a b : ℕ) → eqb a b ≡ same a b
unfolding same
same_code a b = refl

pub has_code : (s p : ℕ) → has s p ≡ eqb (s / 2 ^ p % 2) 1
unfolding has
has_code s p = refl

pub add_code : (s p : ℕ) → p < 64 → bit_or s ((1 * 2 ^ p) % 2 ^ 64) ≡ add s p
unfolding add
add_code s p h = rw (shl_one p h, lt-ltb p 64 h)

pub add_code_past : (s p : ℕ) → 64 ≤ p → s ≡ add s p
unfolding add
add_code_past s p h = rw (le-ltb p 64 h)
