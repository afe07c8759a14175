-- The members of each operation, and that its members are all there is to a set.
use Rattle.std.specs.Prelude.{◌≡◌, Bool, true, cond, ◌&&◌, ◌||◌, not, ◌↔◌, ℕ, zero, suc, ◌+◌, ◌-◌, ◌*◌, ◌/◌, ◌%◌, ◌^◌, ◌≤◌, ◌<◌, min, ltb}
use Rattle.std.proofs.Math.Path.{refl, sym, ap}
use Rattle.std.proofs.Common.{◌∙◌, true≢false, suc-le-suc, one-add, mod-lt, div-one, lt_of_lt_of_le, lt_of_le_of_lt, zero-lt-suc, lt-suc_self, pow-suc, pow_pos, pow_mono, pow-add, shr-shr, lt-ltb, le-ltb, eq-eqb, ne_eqb}
use Rattle.std.proofs.Math.Bool.{false, xor, or-false}
use Rattle.std.proofs.lemmas.Bool.{false≢true}
use Rattle.std.proofs.Math.Nat.{div_self, div-eq_of_lt, zero-div, mul-mod_left}
use Rattle.std.proofs.Math.Decide.{dec_lt}
use native.Mathlib.Omega.{arith}
use Rattle.std.proofs.Math.Dec.{eqb}
use Rattle.std.proofs.Math.Pow.{pow-lt, ones_lt, ones_split, high, low}
use Rattle.std.proofs.lemmas.Nat.{shl-shr, and_shr, or_shr, xor_shr, and_mod, or_mod, xor_mod}
use Rattle.std.specs.Int.Bits.{bit_and, bit_or, bit_xor}
use Rattle.sets.specs.Sets.{has, empty, all, join, common, without, add}

-- ---- digits

-- a fact of all digits is a fact of 0 and 1
on_digit : (P : ℕ → Type 0) → P 0 → P 1 → (x : ℕ) → x < 2 → P x
on_digit P p0 p1 zero h = p0
on_digit P p0 p1 (suc zero) h = p1
on_digit P p0 p1 (suc (suc x)) h = absurd (omega arith)

on_digits : (P : ℕ → ℕ → Type 0) → P 0 0 → P 0 1 → P 1 0 → P 1 1 → (x y : ℕ) → x < 2 → y < 2 → P x y
on_digits P p00 p01 p10 p11 x y hx hy =
    on_digit (λ (x : ℕ). P x y) (on_digit (λ (y : ℕ). P 0 y) p00 p01 y hy) (on_digit (λ (y : ℕ). P 1 y) p10 p11 y hy) x hx

-- an operation that passes through shifts and masks acts on the digits at p
module _ (op : ℕ → ℕ → ℕ) (bop : Bool → Bool → Bool)
    (shr : (a b k : ℕ) → op a b / 2 ^ k ≡ op (a / 2 ^ k) (b / 2 ^ k))
    (cut : (a b k : ℕ) → op a b % 2 ^ k ≡ op (a % 2 ^ k) (b % 2 ^ k))
    (table : (x y : ℕ) → x < 2 → y < 2 → eqb (op x y) 1 ≡ bop (eqb x 1) (eqb y 1)) where
  has_op : (a b p : ℕ) → has (op a b) p ≡ bop (has a p) (has b p)
  unfolding has
  has_op a b p =
      ap (λ (n : ℕ). eqb (n % 2) 1) (shr a b p) ∙ ap (λ (n : ℕ). eqb n 1) (cut (a / 2 ^ p) (b / 2 ^ p) 1)
      ∙ table (a / 2 ^ p % 2) (b / 2 ^ p % 2) (mod-lt (a / 2 ^ p) (zero-lt-suc 1)) (mod-lt (b / 2 ^ p) (zero-lt-suc 1))

-- ---- the members of each operation

pub has_join : (a b p : ℕ) → has (join a b) p ≡ (has a p || has b p)
unfolding join
has_join = has_op bit_or ◌||◌ or_shr or_mod (on_digits (λ (x y : ℕ). eqb (bit_or x y) 1 ≡ (eqb x 1 || eqb y 1)) refl refl refl refl)

pub has_common : (a b p : ℕ) → has (common a b) p ≡ (has a p && has b p)
unfolding common
has_common = has_op bit_and ◌&&◌ and_shr and_mod (on_digits (λ (x y : ℕ). eqb (bit_and x y) 1 ≡ (eqb x 1 && eqb y 1)) refl refl refl refl)

has_xor : (a b p : ℕ) → has (bit_xor a b) p ≡ xor (has a p) (has b p)
unfolding xor
has_xor = has_op bit_xor xor xor_shr xor_mod (on_digits (λ (x y : ℕ). eqb (bit_xor x y) 1 ≡ xor (eqb x 1) (eqb y 1)) refl refl refl refl)

xor_and : (x y : Bool) → xor x (x && y) ≡ (x && not y)
unfolding xor
xor_and true true = refl
xor_and true false = refl
xor_and false y = refl

pub has_without : (a b p : ℕ) → has (without a b) p ≡ (has a p && not (has b p))
unfolding without common
has_without a b p = has_xor a (bit_and a b) p ∙ ap (xor (has a p)) (has_common a b p) ∙ xor_and (has a p) (has b p)

pub has_empty : (p : ℕ) → has empty p ≡ false
unfolding has empty
has_empty p = ap (λ (n : ℕ). eqb (n % 2) 1) (zero-div (2 ^ p))

-- a number of k digits has no member from k on
pub has_past : (k s p : ℕ) → s < 2 ^ k → k ≤ p → has s p ≡ false
unfolding has
has_past k s p h l = ap (λ (n : ℕ). eqb (n % 2) 1) (div-eq_of_lt (lt_of_lt_of_le h (pow_mono l)))

has_ones : (m p : ℕ) → Dec (p < m) → has (2 ^ m - 1) p ≡ ltb p m
unfolding has
has_ones m p (yes h) =
    let j : ℕ = m - suc p in
    let e : m ≡ (j + 1) + p = omega arith in
    ap (λ (n : ℕ). eqb ((2 ^ n - 1) / 2 ^ p % 2) 1) e
    ∙ ap (λ (n : ℕ). eqb (n / 2 ^ p % 2) 1) (ones_split (j + 1) p)
    ∙ ap (λ (n : ℕ). eqb (n % 2) 1) (high (2 ^ (j + 1) - 1) p (ones_lt p))
    ∙ ap (λ (n : ℕ). eqb (n % 2) 1) (ones_split j 1)
    ∙ ap (λ (n : ℕ). eqb n 1) (low (2 ^ j - 1) 1 (ones_lt 1))
    ∙ sym (lt-ltb p m h)
has_ones m p (no h) = has_past m (2 ^ m - 1) p (ones_lt m) (omega arith) ∙ sym (le-ltb p m (omega arith))

pub has_all : (k p : ℕ) → has (all k) p ≡ ltb p (min k 64)
unfolding all
has_all k p = has_ones (min k 64) p (dec_lt p (min k 64))

-- the set of one permission
has_single : (p q : ℕ) → Dec (p < q) → Dec (q < p) → has (2 ^ p) q ≡ eqb p q
unfolding has
has_single p q (yes h) d =
    ap (λ (n : ℕ). eqb (n % 2) 1) (div-eq_of_lt (pow-lt h)) ∙ sym (ne_eqb p q (omega arith))
has_single p q (no h) (yes l) =
    let j : ℕ = p - suc q in
    let e : p ≡ (j + 1) + q = omega arith in
    ap (λ (n : ℕ). eqb (2 ^ n / 2 ^ q % 2) 1) e
    ∙ ap (λ (n : ℕ). eqb (n / 2 ^ q % 2) 1) (pow-add 2 (j + 1) q)
    ∙ ap (λ (n : ℕ). eqb (n % 2) 1) (shl-shr (2 ^ (j + 1)) q)
    ∙ ap (λ (n : ℕ). eqb (n % 2) 1) (pow-add 2 j 1)
    ∙ ap (λ (n : ℕ). eqb n 1) (mul-mod_left (2 ^ j) 2)
    ∙ sym (ne_eqb p q (omega arith))
has_single p q (no h) (no l) =
    let e : p ≡ q = omega arith in
    ap (λ (n : ℕ). eqb (2 ^ n / 2 ^ q % 2) 1) e
    ∙ ap (λ (n : ℕ). eqb (n % 2) 1) (div_self (pow_pos q))
    ∙ sym (eq-eqb p q e)

pub has_add : (s p q : ℕ) → has (add s p) q ≡ (has s q || (ltb p 64 && eqb p q))
unfolding add
has_add s p q = go (ltb p 64)
  where
    go : (t : Bool) → has (cond t (bit_or s (2 ^ p)) s) q ≡ (has s q || (t && eqb p q))
    go true = unfold join in has_join s (2 ^ p) q ∙ ap (λ (t : Bool). has s q || t) (has_single p q (dec_lt p q) (dec_lt q p))
    go false = sym (or-false (has s q))

-- ---- a set is its members

-- the digits of s, first and further ones
pub has_zero : (s : ℕ) → has s 0 ≡ eqb (s % 2) 1
unfolding has
has_zero s = ap (λ (n : ℕ). eqb (n % 2) 1) (div-one s)

pub has_suc : (s p : ℕ) → has s (suc p) ≡ has (s / 2) p
unfolding has
has_suc s p = sym (ap (λ (n : ℕ). eqb (n % 2) 1) (shr-shr s 1 p ∙ ap (λ (k : ℕ). s / 2 ^ k) (one-add p)))

digit_same : (x y : ℕ) → x < 2 → y < 2 → eqb x 1 ≡ eqb y 1 → x ≡ y
digit_same =
    on_digits (λ (x y : ℕ). eqb x 1 ≡ eqb y 1 → x ≡ y) (λ e. refl) (λ e. absurd (false≢true e)) (λ e. absurd (true≢false e)) (λ e. refl)

-- two sets of k digits with the same members below k are one
pub same_below : (k a b : ℕ) → a < 2 ^ k → b < 2 ^ k → ((p : ℕ) → p < k → has a p ≡ has b p) → a ≡ b
same_below zero a b ha hb e = omega arith
same_below (suc k) a b ha hb e =
    let la : a < 2 ^ k * 2 = rw pow-suc at ha in
    let lb : b < 2 ^ k * 2 = rw pow-suc at hb in
    let halves : a / 2 ≡ b / 2 =
    same_below k (a / 2) (b / 2) (omega arith) (omega arith) (λ p h. sym (has_suc a p) ∙ e (suc p) (suc-le-suc h) ∙ has_suc b p) in
    let firsts : a % 2 ≡ b % 2 =
    digit_same (a % 2) (b % 2) (mod-lt a (zero-lt-suc 1)) (mod-lt b (zero-lt-suc 1)) (sym (has_zero a) ∙ e 0 (zero-lt-suc k) ∙ has_zero b) in
    omega arith

lt_pow_self : (k : ℕ) → k < 2 ^ k
lt_pow_self zero = zero-lt-suc zero
lt_pow_self (suc k) = lt_of_le_of_lt (lt_pow_self k) (pow-lt (lt-suc_self k))

-- two sets with the same members are one
pub same_members : (a b : ℕ) → ((p : ℕ) → has a p ≡ has b p) → a ≡ b
same_members a b e =
    let big : a + b < 2 ^ (a + b) = lt_pow_self (a + b) in
    same_below (a + b) a b (omega arith) (omega arith) (λ p h. e p)

-- a set is below 2 ^ k exactly where its members are below k
pub below_members : (k s : ℕ) → (s < 2 ^ k) ↔ ((p : ℕ) → has s p ≡ true → p < k)
below_members k s = (down, up k s)
  where
    down : s < 2 ^ k → (p : ℕ) → has s p ≡ true → p < k
    down h p t = by_dec (dec_lt p k)
      where
        by_dec : Dec (p < k) → p < k
        by_dec (yes l) = l
        by_dec (no l) = absurd (true≢false (sym t ∙ has_past k s p h (omega arith)))

    none : (s : ℕ) → ((p : ℕ) → has s p ≡ true → p < 0) → (b : Bool) (p : ℕ) → has s p ≡ b → b ≡ false
    none s f true p e = absurd (omega (arith, f p e))
    none s f false p e = refl

    up : (k s : ℕ) → ((p : ℕ) → has s p ≡ true → p < k) → s < 2 ^ k
    up zero s f =
        let z : s ≡ empty = same_members s empty (λ p. none s f (has s p) p refl ∙ sym (has_empty p)) in
        let y : empty ≡ 0 = unfold empty in refl in
        omega arith
    up (suc k) s f =
        let h : s / 2 < 2 ^ k = up k (s / 2) (λ p t. omega (arith, f (suc p) (has_suc s p ∙ t))) in
        omega arith
