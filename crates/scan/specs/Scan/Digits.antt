-- Digits met one by one: the number that they say, and a list of such numbers.
use Rattle.std.specs.Prelude.{ℕ, ◌+◌, ◌-◌, ◌*◌, ◌^◌, ◌≤◌, ◌<◌, ◌≡◌, refl, length, get_or, eqb, Some}
use Rattle.std.proofs.Math.Path.{ap}
use Rattle.std.proofs.Common.{sym, ◌∙◌, arith}
use mathlib.Core.List.{List, [], ◌∷◌, ◌++◌, append_assoc}
use Rattle.std.proofs.Math.ListN.{length-append}
use Rattle.std.specs.Int.Bits.{bit_or}
use Rattle.std.specs.Char.{is_ascii_digit}
use Rattle.std.specs.Cmp.Derive.{both_true}
use Rattle.std.proofs.lemmas.Option.{none-some, same_Some}
use borrow.Author.Tests.{le-leb, le-ltb, eqb-true, eqb-false, ne_eqb}
use Rattle.truth.specs.Truth.Bools.{by_split}
use Rattle.scan.specs.Scan.{digits_from, number_of, words, ascending, members_of}
use Rattle.scan.specs.Scan.Numbers.{number_none, number_zero, number_needless, number_digits}
use Rattle.scan.specs.Scan.Lists.{list_some}
use Rattle.scan.specs.Scan.Bare.{Bare, none, byte, calm_above, calm_space, bare_then}

-- From `at` up to e stand the digits w.
pub data Digital (s : List ℕ) : ℕ → List ℕ → ℕ → Type 0 where
  end : {at : ℕ} → Digital s at [] at
  digit : {at p d e : ℕ} {w : List ℕ} → p ≡ at + 1 → get_or s at 0 ≡ d + 48 → d ≤ 9 → Digital s p w e → Digital s at ((d + 48) ∷ w) e

pub digital_bare : {s : List ℕ} {at e : ℕ} {w : List ℕ} → Digital s at w e → Bare s at w e
digital_bare end = none
digital_bare (digit i q h r) = byte i q (calm_above (omega arith)) (digital_bare r)

-- ---- numbers

-- digits, and then more
digits_more : (w l : List ℕ) (u : ℕ) {v : ℕ} → digits_from u w ≡ Some v → digits_from u (w ++ l) ≡ digits_from v l
unfolding digits_from
digits_more [] l u e = ap (λ x. digits_from x l) (same_Some _ _ e)
digits_more (b ∷ w) l u e =
    by_split (is_ascii_digit b)
    (λ d. simp d (digits_more w l (u * 10 + (b - 48)) (simp d at e)))
    (λ d. absurd (none-some _ (simp d at e)))

digit_last : (v : ℕ) {d u : ℕ} → d ≤ 9 → v * 10 + d ≡ u → digits_from v ((d + 48) ∷ []) ≡ Some u
unfolding digits_from
digit_last v {d} h e =
    let lo : 48 ≤ d + 48 = omega arith in
    let hi : d + 48 ≤ 57 = omega arith in
    simp (both_true (le-leb _ _ lo) (le-leb _ _ hi)) (ap Some (omega (arith, e)))

-- a number of one digit
pub number_one : {d : ℕ} → d ≤ 9 → number_of 4 ((d + 48) ∷ []) ≡ Some d
number_one {d} h =
    by_split (eqb d 0)
    (λ t. let z = eqb-true d 0 t in number_zero 4 ((d + 48) ∷ []) (λ e. omega (arith, e)) (omega arith) (omega arith) (omega (arith, z)) refl ∙ ap Some (sym z))
    (λ t. number_digits 4 ((d + 48) ∷ []) (λ e. omega (arith, e)) (omega arith) (omega arith) (λ e. eqb-false d 0 t (omega (arith, e))) ∙ digit_last 0 h (omega arith))

-- a number that is not 0, and one digit more
pub number_more : (w : List ℕ) {v d : ℕ} → number_of 4 w ≡ Some v → 0 < v → length w ≤ 3 → d ≤ 9 → number_of 4 (w ++ (d + 48) ∷ []) ≡ Some (v * 10 + d)
number_more [] e z m h = absurd (none-some _ (sym (number_none 4 [] refl) ∙ e))
number_more (b ∷ w) {v} {d} e z m h =
    let some : length (b ∷ w) ≡ 0 → ⊥ = λ p. omega (arith, p) in
    by_split (eqb b 48)
    (λ t. by_split (eqb (length w) 0)
    (λ u. let n = eqb-true _ _ u in absurd (omega (arith, z, same_Some 0 v (sym (number_zero 4 (b ∷ w) some (omega arith) (omega arith) (eqb-true b 48 t) (omega (arith, n))) ∙ e))))
    (λ u. absurd (none-some _ (sym (number_needless 4 (b ∷ w) some (omega arith) (omega arith) (eqb-true b 48 t) (λ p. eqb-false _ _ u (omega (arith, p)))) ∙ e))))
    (λ t.
    let l = length-append w ((d + 48) ∷ []) in
    number_digits 4 (b ∷ (w ++ (d + 48) ∷ [])) (λ p. omega (arith, p)) (omega (arith, l)) (omega (arith, l)) (eqb-false b 48 t)
    ∙ digits_more (b ∷ w) _ 0 (sym (number_digits 4 (b ∷ w) some (omega arith) (omega arith) (eqb-false b 48 t)) ∙ e) ∙ digit_last v h refl)

module _ {a : ℕ} (h : a ≤ 9) where
  pub number_1 : number_of 4 ((a + 48) ∷ []) ≡ Some a
  number_1 = number_one h

  module _ (p : 0 < a) {b : ℕ} (i : b ≤ 9) where
    pub number_2 : number_of 4 ((a + 48) ∷ (b + 48) ∷ []) ≡ Some (a * 10 + b)
    number_2 = number_more ((a + 48) ∷ []) number_1 p (omega arith) i

    module _ {c : ℕ} (j : c ≤ 9) where
      pub number_3 : number_of 4 ((a + 48) ∷ (b + 48) ∷ (c + 48) ∷ []) ≡ Some (a * 100 + b * 10 + c)
      number_3 = number_more ((a + 48) ∷ (b + 48) ∷ []) number_2 (omega (arith, p)) (omega arith) j ∙ ap Some (omega arith)

      pub number_4 : {d : ℕ} → d ≤ 9 → number_of 4 ((a + 48) ∷ (b + 48) ∷ (c + 48) ∷ (d + 48) ∷ []) ≡ Some (a * 1000 + b * 100 + c * 10 + d)
      number_4 k = number_more ((a + 48) ∷ (b + 48) ∷ (c + 48) ∷ []) number_3 (omega (arith, p)) (omega arith) k ∙ ap Some (omega arith)

pub digital_more : {s : List ℕ} {at e p d : ℕ} {w : List ℕ} → Digital s at w e → p ≡ e + 1 → get_or s e 0 ≡ d + 48 → d ≤ 9 → Digital s at (w ++ (d + 48) ∷ []) p
digital_more end j q h = digit j q h end
digital_more (digit i p k r) j q h = digit i p k (digital_more r j q h)

-- ---- lists

words_one : {s : List ℕ} {at e : ℕ} {w : List ℕ} → Digital s at w e → words w ≡ w ∷ []
unfolding words
words_one end = refl
words_one (digit {d = d} i q h r) = simp (ne_eqb (d + 48) 32 (λ e. omega (arith, e))) (rw (words_one r) refl)

words_then : {s : List ℕ} {at e : ℕ} {w : List ℕ} (l : List ℕ) → Digital s at w e → words (w ++ 32 ∷ l) ≡ w ∷ words l
unfolding words
words_then l end = refl
words_then l (digit {d = d} i q h r) = simp (ne_eqb (d + 48) 32 (λ e. omega (arith, e))) (rw (words_then l r) refl)

-- A list of numbers that begins at a position, read as far as another: the bytes between, and that what may follow them goes on from the set so far.
pub record Listing (s : List ℕ) (at i low set : ℕ) : Type 0 where
  pub bytes : List ℕ
  pub stand : Bare s at bytes i
  pub goes : (l : List ℕ) → ascending 4 0 0 (words (bytes ++ l)) ≡ ascending 4 low set (words l)

pub listing_start : {s : List ℕ} {at : ℕ} → Listing s at at 0 0
listing_start = record { bytes = []; stand = none; goes = λ l. refl }

module _ {s : List ℕ} {at i low set : ℕ} (g : Listing s at i low set) {e v : ℕ} {w : List ℕ} (r : Digital s i w e) (n : number_of 4 w ≡ Some v) (h : low ≤ v) where
  pub listing_next : {p : ℕ} → p ≡ e + 1 → get_or s e 0 ≡ 32 → Listing s at p (v + 1) (bit_or set (2 ^ v))
  unfolding ascending
  listing_next {p} j q = record {
    bytes = g.bytes ++ (w ++ 32 ∷ []);
    stand = bare_then g.stand (bare_then (digital_bare r) (byte j q calm_space none));
    goes = λ l.
        ap (λ (x : List ℕ). ascending 4 0 0 (words x)) (append_assoc g.bytes (w ++ 32 ∷ []) l ∙ ap (λ (x : List ℕ). g.bytes ++ x) (append_assoc w (32 ∷ []) l))
        ∙ g.goes (w ++ 32 ∷ l) ∙ ap (ascending 4 low set) (words_then l r) ∙ simp (n, le-ltb _ _ h);
  }

  pub listing_last : (0 < length w) → (members_of 4 (g.bytes ++ w) ≡ Some (bit_or set (2 ^ v)))
  unfolding ascending
  listing_last k =
      list_some 4 (g.bytes ++ w) (λ z. omega (arith, z, length-append g.bytes w))
      ∙ g.goes w ∙ ap (ascending 4 low set) (words_one r) ∙ simp (n, le-ltb _ _ h)
