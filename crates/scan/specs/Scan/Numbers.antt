-- How a number goes on from one digit to the next, and how large it can be.
use Rattle.std.specs.Prelude.{ℕ, zero, suc, ◌+◌, ◌-◌, ◌*◌, ◌^◌, ◌≤◌, ◌<◌, ◌≡◌, List, [], ◌∷◌, length, drop, true, false, ltb, eqb, Some, None}
use Rattle.std.proofs.Common.{add-one, pow-suc, add-zero, zero-add, drop_of_length-le, lit<}
use Rattle.std.proofs.Math.Nat.{pow-le-pow_right}
use Rattle.std.specs.Char.{is_ascii_digit}
use Rattle.std.proofs.lemmas.Bool.{and_parts}
use native.Mathlib.Omega.{arith}
use Rattle.std.proofs.Math.ListN.{get_or}
use Rattle.std.proofs.Math.Seq.{drop-cons}
use borrow.Author.Tests.{le-leb, lt-leb, lt-ltb, le-ltb, eq-eqb, ne_eqb, leb-true, ltb-false}
use Rattle.truth.specs.Truth.Bools.{by_split}
use Rattle.scan.specs.Scan.{digits_from, number_of}

module _ (v : ℕ) (l : List ℕ) (i : ℕ) where
  pub digits_step : i < length l → is_ascii_digit (get_or l i 0) ≡ true → digits_from v (drop i l) ≡ digits_from (v * 10 + (get_or l i 0 - 48)) (drop (i + 1) l)
  unfolding digits_from
  digits_step h d = rw (add-one, drop-cons l i 0) (simp d)

  pub digits_not : i < length l → is_ascii_digit (get_or l i 0) ≡ false → digits_from v (drop i l) ≡ None
  unfolding digits_from
  digits_not h d = rw (drop-cons l i 0) (simp d)

  pub digits_low : i < length l → get_or l i 0 < 48 → digits_from v (drop i l) ≡ None
  digits_low h lo = digits_not h (simp (lt-leb _ _ lo))

  pub digits_high : i < length l → 57 < get_or l i 0 → digits_from v (drop i l) ≡ None
  digits_high h hi =
      let lo : 48 ≤ get_or l i 0 = omega arith in
      digits_not h (simp (le-leb _ _ lo, lt-leb _ _ hi))

  pub digits_out : length l ≤ i → digits_from v (drop i l) ≡ Some v
  unfolding digits_from
  digits_out h = rw (drop_of_length-le l)

ten_le : {i j : ℕ} → i ≤ j → 10 ^ i ≤ 10 ^ j
ten_le h = pow-le-pow_right (lit< tt) h

pub ten_small : (i : ℕ) → i ≤ 17 → 10 ^ i ≤ 100000000000000000
ten_small i h = ten_le h

pub ten_step : (i : ℕ) → 10 ^ (i + 1) ≡ 10 ^ i * 10
ten_step i = rw (add-one, pow-suc)

module _ (most : ℕ) (l : List ℕ) where
  pub number_none : length l ≡ 0 → number_of most l ≡ None
  unfolding number_of
  number_none h = simp h

  module _ (p : length l ≡ 0 → ⊥) where
    pub number_long : most < length l → number_of most l ≡ None
    unfolding number_of
    number_long h = simp (ne_eqb _ _ p, lt-ltb _ _ h)

    module _ (o : length l ≤ most) where
      pub number_longest : 18 < length l → number_of most l ≡ None
      unfolding number_of
      number_longest h = simp (ne_eqb _ _ p, le-ltb _ _ o, lt-ltb _ _ h)

      module _ (q : length l ≤ 18) where
        pub number_zero : get_or l 0 0 ≡ 48 → length l ≡ 1 → number_of most l ≡ Some 0
        unfolding number_of
        number_zero z h = simp (ne_eqb _ _ p, le-ltb _ _ o, le-ltb _ _ q, z, eq-eqb _ _ h)

        pub number_needless : get_or l 0 0 ≡ 48 → (length l ≡ 1 → ⊥) → number_of most l ≡ None
        unfolding number_of
        number_needless z h = simp (ne_eqb _ _ p, le-ltb _ _ o, le-ltb _ _ q, z, ne_eqb _ _ h)

        pub number_digits : (get_or l 0 0 ≡ 48 → ⊥) → number_of most l ≡ digits_from 0 l
        unfolding number_of
        number_digits z = simp (ne_eqb _ _ p, le-ltb _ _ o, le-ltb _ _ q, ne_eqb _ _ z)

pub digit_most : (b : ℕ) → is_ascii_digit b ≡ true → b ≤ 57
digit_most b d = leb-true b 57 (and_parts _ _ d).1

never : {P : Type 0} (v : ℕ) → None ≡ Some v → P
never v e = let z : ◌≡◌ {A = ℕ} 0 1 = cc in absurd (omega arith)

digits_bound : (l : List ℕ) (u v i : ℕ) → u < 10 ^ i → digits_from u l ≡ Some v → v < 10 ^ (i + length l)
unfolding digits_from
digits_bound [] u v i h e =
    let p : u ≡ v = cc in
    rw (add-zero) (rw p at h)
digits_bound (b ∷ l) u v i h e =
    by_split (is_ascii_digit b)
    (λ d.
    let q : i + suc (length l) ≡ i + 1 + length l = omega arith in
    rw q (digits_bound l (u * 10 + (b - 48)) v (i + 1) (rw (ten_step i) (omega (arith, digit_most b d))) (simp d at e)))
    (λ d. never v (simp d at e))

-- a number is below the power of ten that its digits give
number_bound : (most : ℕ) (l : List ℕ) (v : ℕ) → number_of most l ≡ Some v → (v < 10 ^ length l) × ((length l ≤ most) × (length l ≤ 18))
unfolding number_of
number_bound most l v e =
    by_split (eqb (length l) 0) (λ a. never v (simp a at e))
    (λ a. by_split (ltb most (length l)) (λ b. never v (simp (a, b) at e))
    (λ b. by_split (ltb 18 (length l)) (λ d. never v (simp (a, b, d) at e))
    (λ d. (
      by_split (eqb (get_or l 0 0) 48)
          (λ z. by_split (eqb (length l) 1)
          (λ o. let f : Some 0 ≡ Some v = simp (a, b, d, z, o) at e in let p : 0 ≡ v = cc in rw (← p) (pow_positive (length l)))
          (λ o. never v (simp (a, b, d, z, o) at e)))
          (λ z. rw zero-add at (digits_bound l 0 v 0 (lit< tt) (simp (a, b, d, z) at e))),
      (ltb-false most (length l) b, ltb-false 18 (length l) d),
    ))))
  where
    pow_positive : (i : ℕ) → 0 < 10 ^ i
    pow_positive zero = lit< tt
    pow_positive (suc i) = rw pow-suc (omega (arith, pow_positive i))

pub number_small : (most : ℕ) (l : List ℕ) (v : ℕ) → number_of most l ≡ Some v → v < 10 ^ most
number_small most l v e =
    let b = number_bound most l v e in
    omega (arith, b.0, ten_le b.1.0)

pub number_fits : (most : ℕ) (l : List ℕ) (v : ℕ) → number_of most l ≡ Some v → v < 1000000000000000000
number_fits most l v e =
    let b = number_bound most l v e in
    omega (arith, b.0, ten_le b.1.1)
