-- The digits of a number.
use Rattle.std.specs.Prelude.{ℕ, zero, suc, ◌+◌, ◌-◌, ◌*◌, ◌/◌, ◌%◌, ◌^◌, ◌≤◌, ◌<◌, ◌≡◌, refl, List, [], ◌∷◌, ◌++◌, true, false, length, ltb}
use Rattle.std.proofs.Common.{sym, ap, ◌∙◌, pow-suc, mod-eq_of_lt, arith, length-append, lit<, lt-ltb, le-ltb, ltb-true, ltb-false}
use Rattle.std.proofs.Math.Nat.{pow-le-pow_right}
use Rattle.truth.specs.Truth.Bools.{by_split}
use Rattle.io.specs.Digits.{hex_digit_ascii, last_digits, IsDigitCount}
use Rattle.writer.specs.Writer.{decimal_by, decimal}

-- ---- the kit's digits, by the fewest that hold a number, are its decimal

ten_step : (i : ℕ) → 10 ^ suc i ≡ 10 ^ i * 10
ten_step i = pow-suc 10 i

ten_some : (i : ℕ) → 0 < 10 ^ i
ten_some zero = omega arith
ten_some (suc i) = rw (ten_step i) (omega (arith, ten_some i))

module _ (most n : ℕ) where
  one_digit : ltb n 10 ≡ true → decimal_by (suc most) n ≡ hex_digit_ascii n ∷ []
  unfolding decimal_by
  one_digit t = simp t

  more_digits : ltb n 10 ≡ false → decimal_by (suc most) n ≡ decimal_by most (n / 10) ++ (hex_digit_ascii (n % 10) ∷ [])
  unfolding decimal_by
  more_digits t = simp t

pub one_glyph : {d : ℕ} → d < 10 → 48 + d ≡ hex_digit_ascii d
one_glyph {d} h = simp (lt-ltb d 10 h)

pub decimal_1 : {n : ℕ} → n < 10 → decimal n ≡ hex_digit_ascii n ∷ []
decimal_1 {n} h = one_digit 19 n (lt-ltb n 10 h)

two_digits : (most n : ℕ) → 10 ≤ n → n < 100 → decimal_by (suc (suc most)) n ≡ hex_digit_ascii (n / 10) ∷ hex_digit_ascii (n % 10) ∷ []
two_digits most n l h =
    more_digits (suc most) n (le-ltb n 10 l)
    ∙ ap (λ (x : List ℕ). x ++ (hex_digit_ascii (n % 10) ∷ [])) (one_digit most (n / 10) (lt-ltb (n / 10) 10 (omega arith)))

pub decimal_2 : {n : ℕ} → 10 ≤ n → n < 100 → decimal n ≡ hex_digit_ascii (n / 10) ∷ hex_digit_ascii (n % 10) ∷ []
decimal_2 {n} = two_digits 18 n

fewer : (n : ℕ) → n < 100 → decimal_by 18 n ≡ decimal n
fewer n h =
    by_split (ltb n 10)
    (λ t. one_digit 17 n t ∙ sym (one_digit 19 n t))
    (λ t. two_digits 16 n (ltb-false n 10 t) h ∙ sym (two_digits 18 n (ltb-false n 10 t) h))

pub decimal_4 : {n : ℕ} → 100 ≤ n → n < 10000 → decimal n ≡ decimal (n / 100) ++ (hex_digit_ascii (n / 10 % 10) ∷ []) ++ (hex_digit_ascii (n % 10) ∷ [])
decimal_4 {n} l h =
    let e : n / 10 / 10 ≡ n / 100 = omega arith in
    more_digits 19 n (le-ltb n 10 (omega arith))
    ∙ ap (λ (x : List ℕ). x ++ (hex_digit_ascii (n % 10) ∷ []))
    (more_digits 18 (n / 10) (le-ltb (n / 10) 10 (omega arith))
    ∙ ap (λ (x : List ℕ). x ++ (hex_digit_ascii (n / 10 % 10) ∷ [])) (ap (decimal_by 18) e ∙ fewer (n / 100) (omega arith)))

-- a number below ten has one digit, and one above has one digit more than its tenth
fewest_one : (n k : ℕ) → IsDigitCount 10 1 n (suc k) → n < 10 → k ≡ 0
fewest_one n zero f h = refl
fewest_one n (suc k) f h =
    let e : suc (suc k) - 1 ≡ suc k = omega arith in
    let l : 10 ^ suc k ≤ n = rw e at (f.2 (omega arith)) in
    absurd (omega (arith, h, l, ten_step k, ten_some k))

fewest_more : (n k : ℕ) → IsDigitCount 10 1 n (suc k) → 10 ≤ n → IsDigitCount 10 1 (n / 10) k
fewest_more n zero f h = absurd (omega (arith, h, f.1))
fewest_more n (suc k) f h =
    let e : suc (suc k) - 1 ≡ suc k = omega arith in
    let d : suc k - 1 ≡ k = omega arith in
    let l : 10 ^ suc k ≤ n = rw e at (f.2 (omega arith)) in
    (omega arith, omega (arith, f.1, ten_step (suc k)), λ _. rw d (omega (arith, l, ten_step k)))

pub decimal_digits : (most k n : ℕ) → IsDigitCount 10 1 n k → k ≤ most → last_digits 10 k n ≡ decimal_by most n
decimal_digits most zero n f h = absurd (omega (arith, f.0))
decimal_digits zero (suc k) n f h = absurd (omega arith)
decimal_digits (suc most) (suc k) n f h =
    by_split (ltb n 10)
    (λ t. ap (λ (j : ℕ). last_digits 10 (suc j) n) (fewest_one n k f (ltb-true n 10 t)) ∙ ap (λ (d : ℕ). hex_digit_ascii d ∷ []) (mod-eq_of_lt (ltb-true n 10 t)) ∙ sym (one_digit most n t))
    (λ t. ap (λ (l : List ℕ). l ++ (hex_digit_ascii (n % 10) ∷ [])) (decimal_digits most k (n / 10) (fewest_more n k f (ltb-false n 10 t)) (omega arith)) ∙ sym (more_digits most n t))

-- a number of 64 bits has at most 20 digits
pub fewest_short : (n k : ℕ) → IsDigitCount 10 1 n k → n < 18446744073709551616 → k ≤ 20
fewest_short n k f h = by_split (ltb 20 k) (λ t. absurd (go (ltb-true 20 k t))) (λ t. ltb-false 20 k t)
  where
    go : 20 < k → ⊥
    go l =
        let m : 20 ≤ k - 1 = omega arith in
        let p : 10 ^ 20 ≤ 10 ^ (k - 1) = pow-le-pow_right (lit< tt) m in
        omega (arith, p, f.2 (omega arith), h)

-- ---- how long a number is

pub decimal_short : (most n : ℕ) → length (decimal_by most n) ≤ most
unfolding decimal_by
decimal_short zero n = omega arith
decimal_short (suc most) n =
    by_split (ltb n 10)
    (λ t. simp t (omega arith))
    (λ t. simp t (omega (arith, decimal_short most (n / 10), length-append (decimal_by most (n / 10)) (hex_digit_ascii (n % 10) ∷ []))))

pub short_decimal : (n : ℕ) → n < 100 → length (decimal n) ≤ 2
short_decimal n h =
    by_split (ltb n 10)
    (λ t. rw (decimal_1 (ltb-true n 10 t)) (omega arith))
    (λ t. rw (decimal_2 (ltb-false n 10 t) h) (omega arith))
