-- How a list goes on from one word to the next, and its set as 64 bits.
use Rattle.std.specs.Prelude.{ℕ, suc, ◌+◌, ◌-◌, ◌*◌, ◌^◌, ◌%◌, ◌≤◌, ◌<◌, ◌≡◌, refl, cond, not, List, [], ◌∷◌, length, take, drop, eqb, ltb, Option, Some, None}
use Rattle.std.proofs.Common.{ap, sym, ◌∙◌, le_trans, arith, add-one, drop-drop, pow_mono}
use Rattle.std.proofs.Math.ListN.{drop_of_length-le}
use Rattle.std.proofs.Math.Seq.{drop-cons}
use Rattle.std.specs.List.{prefix_len}
use Rattle.std.specs.Int.Bits.{bit_or, or_add_and}
use Rattle.std.proofs.lemmas.Nat.{and_le_l, and_le_r, or_lt}
use Rattle.std.proofs.Math.Pow.{pow-lt}
use borrow.Author.Tests.{lt-ltb, le-ltb, ltb-true, ltb-false}
use Rattle.truth.specs.Truth.Bools.{by_split}
use Rattle.truth.specs.Truth.Kit.{shl_one}
use denote.Ref.{Bor}
use Rattle.std.specs.Iterator.{AlwaysYields}
use Rattle.scan.specs.declared.Listed.{Listed}
use Rattle.scan.specs.declared.Listed.TheVariants.{Held, Beyond}
use Rattle.scan.specs.Scan.{space, part_of, number_of, words, ascending, members_of, listed, held_of}

-- a set as 64 bits with one member more
abbrev pub with_member : Listed → ℕ → Listed
with_member (Held bits) v = cond (ltb v 64) (Held (bit_or bits (2 ^ v))) Beyond
with_member Beyond v = Beyond

or_ge_l : (a b : ℕ) → a ≤ bit_or a b
or_ge_l a b = omega (arith, or_add_and a b, and_le_r a b)

or_ge_r : (a b : ℕ) → b ≤ bit_or a b
or_ge_r a b = omega (arith, or_add_and a b, and_le_l a b)

-- the 64 bits of a set with one member more
pub held_with : (x v : ℕ) → with_member (listed x) v ≡ listed (bit_or x (2 ^ v))
held_with x v =
    by_split (ltb x (2 ^ 64))
    (λ a. by_split (ltb v 64)
    (λ b. simp (a, b, lt-ltb (bit_or x (2 ^ v)) (2 ^ 64) (or_lt 64 x (2 ^ v) (ltb-true x (2 ^ 64) a) (pow-lt (ltb-true v 64 b)))))
    (λ b. simp (a, b, le-ltb (bit_or x (2 ^ v)) (2 ^ 64) (le_trans (pow_mono (ltb-false v 64 b)) (or_ge_r x (2 ^ v))))))
    (λ a. simp (a, le-ltb (bit_or x (2 ^ v)) (2 ^ 64) (le_trans (ltb-false x (2 ^ 64) a) (or_ge_l x (2 ^ v)))))

-- what a set and a number give, by the kind of set
module _ {set : Listed} {bits v : ℕ} where
  pub with_low : set ≡ Held bits → v < 64 → with_member set v ≡ Held (bit_or bits ((1 * 2 ^ v) % 18446744073709551616))
  with_low e h = rw (e, shl_one v h) (simp (lt-ltb _ _ h))

  pub with_high : set ≡ Held bits → 64 ≤ v → with_member set v ≡ Beyond
  with_high e h = rw e (simp (le-ltb _ _ h))

-- How long the first word of a list is.
abbrev pub word : List ℕ → ℕ
word l = prefix_len (λ b. not (eqb b space)) l

-- the words after the first, where the first ends
abbrev rest : List ℕ → List (List ℕ)
rest [] = []
rest (b ∷ l) = words l

words_split : (l : List ℕ) → words l ≡ take (word l) l ∷ rest (drop (word l) l)
unfolding words
words_split [] = refl
words_split (b ∷ l) =
    by_split (eqb b 32)
    (λ t. simp t)
    (λ t. let n : suc (word l) ≡ 1 + word l = omega arith in simp t (rw (words_split l) (ap (λ (i : ℕ). take i (b ∷ l) ∷ rest (drop i (b ∷ l))) n)))

module _ (most : ℕ) (s : List ℕ) (at e low x : ℕ) (p : e ≡ at + word (drop at s)) where
  words_at : words (drop at s) ≡ part_of s at e ∷ rest (drop e s)
  words_at =
      let q : e - at ≡ word (drop at s) = omega arith in
      words_split (drop at s) ∙ rw (drop-drop, q, ← p)

  pub list_not : number_of most (part_of s at e) ≡ None → ascending most low x (words (drop at s)) ≡ None
  unfolding ascending
  list_not n = rw words_at (simp n)

  module _ (v : ℕ) (n : number_of most (part_of s at e) ≡ Some v) where
    pub list_low : v < low → ascending most low x (words (drop at s)) ≡ None
    unfolding ascending
    list_low h = rw words_at (simp (n, lt-ltb _ _ h))

    pub list_last : low ≤ v → length s ≤ e → ascending most low x (words (drop at s)) ≡ Some (bit_or x (2 ^ v))
    unfolding ascending
    list_last h k = rw (words_at, drop_of_length-le s k) (simp (n, le-ltb _ _ h))

    pub list_next : low ≤ v → e < length s → ascending most low x (words (drop at s)) ≡ ascending most (v + 1) (bit_or x (2 ^ v)) (words (drop (e + 1) s))
    unfolding ascending
    list_next h k = rw (words_at, add-one e, drop-cons s e 0) (simp (n, le-ltb _ _ h))

pub list_none : (most : ℕ) (l : List ℕ) → length l ≡ 0 → members_of most l ≡ Some 0
unfolding members_of
list_none most [] h = refl
list_none most (b ∷ l) h = absurd (omega arith)

pub list_some : (most : ℕ) (l : List ℕ) → (length l ≡ 0 → ⊥) → members_of most l ≡ ascending most 0 0 (words l)
unfolding members_of
list_some most [] h = absurd (h refl)
list_some most (b ∷ l) h = refl

-- A list of which some words are read: the set of their numbers, and that the words that are left, as steps yield them, lead to the list's own.
module _ {S : Type 0} (steps : S → Option (Bor (List ℕ)) → S → Type 0) (most : ℕ) (s : List ℕ) where
  pub record Going (from : S) (set : Listed) (low : ℕ) : Type 0 where
    pub so_far : ℕ
    pub held : set ≡ listed so_far
    pub left : List (List ℕ)
    pub yields : AlwaysYields steps (λ w. w.now) from left
    pub goes : ascending most low so_far left ≡ members_of most s

module _ {S : Type 0} {steps : S → Option (Bor (List ℕ)) → S → Type 0} {most : ℕ} {s : List ℕ} where
  pub going_start : {from : S} → (length s ≡ 0 → ⊥) → AlwaysYields steps (λ w. w.now) from (words s) → Going steps most s from (Held 0) 0
  going_start h y = record { so_far = 0; held = refl; left = words s; yields = y; goes = sym (list_some most s h) }

  module _ {from on : S} {set : Listed} {low : ℕ} where
    pub going_end : Going steps most s from set low → steps from None on → held_of (members_of most s) ≡ Some set
    unfolding ascending
    going_end g k = by g.left g.yields g.goes
      where
        by : (left : List (List ℕ)) → AlwaysYields steps (λ w. w.now) from left → ascending most low g.so_far left ≡ members_of most s → held_of (members_of most s) ≡ Some set
        by [] y e = ap held_of (sym e) ∙ ap Some (sym g.held)
        by (w ∷ ws) y e = absurd (y.0 on k)

    module _ (g : Going steps most s from set low) {word : Bor (List ℕ)} (k : steps from (Some word) on) where
      -- the words that are left after this one
      record Next : Type 0 where
        left : List (List ℕ)
        yields : AlwaysYields steps (λ w. w.now) on left
        goes : ascending most low g.so_far (word.now ∷ left) ≡ members_of most s

      next : Next
      next = by g.left g.yields g.goes
        where
          by : (left : List (List ℕ)) → AlwaysYields steps (λ w. w.now) from left → ascending most low g.so_far left ≡ members_of most s → Next
          by [] y e = absurd (y word on k)
          by (w ∷ ws) y e = let h = y.1 word on k in record { left = ws; yields = h.1; goes = ap (λ (v : List ℕ). ascending most low g.so_far (v ∷ ws)) h.0 ∙ e }

      pub going_not : number_of most word.now ≡ None → held_of (members_of most s) ≡ None
      unfolding ascending
      going_not n = ap held_of {y = None} (sym next.goes ∙ simp n)

      module _ {v : ℕ} (n : number_of most word.now ≡ Some v) where
        pub going_low : v < low → held_of (members_of most s) ≡ None
        unfolding ascending
        going_low h = ap held_of {y = None} (sym next.goes ∙ simp (n, lt-ltb _ _ h))

        pub going_next : low ≤ v → Going steps most s on (with_member set v) (v + 1)
        unfolding ascending
        going_next h = record {
          so_far = bit_or g.so_far (2 ^ v);
          held = ap (λ (x : Listed). with_member x v) g.held ∙ held_with g.so_far v;
          left = next.left;
          yields = next.yields;
          goes = sym (simp (n, le-ltb _ _ h)) ∙ next.goes;
        }
