-- The members of a set, and numbers with one space between.
use Rattle.std.specs.Prelude.{ℕ, zero, suc, ◌+◌, ◌-◌, ◌*◌, ◌^◌, ◌≤◌, ◌<◌, ◌≡◌, refl, List, [], ◌∷◌, ◌++◌, true, false, length, get_or, take, drop}
use Rattle.std.proofs.Common.{sym, ap, ◌∙◌, append-nil, append_assoc, add-zero, arith, length-append}
use Rattle.std.specs.Int.Count.{count_leading_zeros}
use Rattle.std.proofs.lemmas.Nat.{leading_length}
use Rattle.std.proofs.Math.Nat.{sub-zero}
use Rattle.truth.specs.Truth.Bools.{by_split}
use Rattle.truth.specs.Truth.Kit.{take_sets}
use Rattle.sets.specs.Sets.{has}
use Rattle.sets.specs.Sets.Members.{has_past}
use Rattle.writer.specs.Writer.{decimal, Puts, Adds}
use Rattle.writer.specs.declared.Writer.{Writer}
use Rattle.writer.specs.Writer.Places.{take_more, puts_count, adds_as, adds_then}
use Rattle.writer.specs.Writer.Numbers.{short_decimal}
use Rattle.members.specs.Members.{members_from, after_first, spaced, set_bytes}

-- ---- the members of a set

-- no member stands above a set's highest digit
members_past : (s top p count : ℕ) → s < 2 ^ top → top ≤ p → members_from s p count ≡ []
unfolding members_from
members_past s top p zero h l = refl
members_past s top p (suc count) h l = simp (has_past top s p h l) (members_past s top (p + 1) count h (omega arith))

members_split : (s p a b : ℕ) → members_from s p a ++ members_from s (p + a) b ≡ members_from s p (a + b)
unfolding members_from
members_split s p zero b =
    let z : b ≡ 0 + b = omega arith in
    ap (λ i. members_from s i b) (add-zero p) ∙ ap (members_from s p) z
members_split s p (suc a) b =
    let e : p + suc a ≡ p + 1 + a = omega arith in
    let z : suc a + b ≡ suc (a + b) = omega arith in
    let r : members_from s (p + 1) a ++ members_from s (p + suc a) b ≡ members_from s (p + 1) (a + b) =
    ap (λ i. members_from s (p + 1) a ++ members_from s i b) e ∙ members_split s (p + 1) a b in
    by_split (has s p)
    (λ t. rw z (simp t (ap (λ l. p ∷ l) r)))
    (λ t. rw z (simp t r))

module _ (s p : ℕ) where
  next : members_from s 0 p ++ members_from s p 1 ≡ members_from s 0 (p + 1)
  next =
      let z : p ≡ 0 + p = omega arith in
      ap (λ i. members_from s 0 p ++ members_from s i 1) z ∙ members_split s 0 p 1

  pub members_with : has s p ≡ true → members_from s 0 p ++ (p ∷ []) ≡ members_from s 0 (p + 1)
  unfolding members_from
  members_with t = ap (λ l. members_from s 0 p ++ l) (simp t refl) ∙ next

  pub members_same : has s p ≡ false → members_from s 0 p ≡ members_from s 0 (p + 1)
  unfolding members_from
  members_same t = sym (append-nil (members_from s 0 p)) ∙ ap (λ l. members_from s 0 p ++ l) (simp t refl) ∙ next

pub members_all : (s top : ℕ) → s < 2 ^ 64 → top ≡ 64 - count_leading_zeros 64 s → members_from s 0 top ≡ members_from s 0 64
members_all s top h e =
    let t = leading_length 64 s h in
    let d : t.0 ≡ top = omega (arith, t.1, e) in
    let z : top + (64 - top) ≡ 64 = omega (arith, e) in
    sym (append-nil (members_from s 0 top)) ∙ ap (λ l. members_from s 0 top ++ l) (sym (members_past s top (0 + top) (64 - top) (rw d at t.2) (omega arith)))
    ∙ members_split s 0 top (64 - top) ∙ ap (members_from s 0) z

-- ---- numbers with spaces between

after_more : (ps : List ℕ) (q : ℕ) → after_first ps ++ (32 ∷ decimal q) ≡ after_first (ps ++ (q ∷ []))
unfolding after_first
after_more [] q = ap (λ l. 32 ∷ l) (sym (append-nil (decimal q)))
after_more (p ∷ ps) q = ap (λ l. 32 ∷ l) (append_assoc (decimal p) (after_first ps) (32 ∷ decimal q) ∙ ap (λ l. decimal p ++ l) (after_more ps q))

-- one more number of a list, with a space before it
pub after_next : {u v w x : Writer} (list : List ℕ) (i : ℕ) → i < length list → Adds (after_first (take i list)) u v → Adds (32 ∷ []) v w → Adds (decimal (get_or list i 0)) w x
    → Adds (after_first (take (i + 1) list)) u x
after_next list i h a b c = adds_as (after_more (take i list) (get_or list i 0) ∙ ap after_first (take_more list i h)) (adds_then a (adds_then b c))

-- ---- how long a set is

after_short : (set p count : ℕ) → p + count ≤ 64 → length (after_first (members_from set p count)) ≤ count * 3
unfolding after_first members_from
after_short set p zero h = omega arith
after_short set p (suc count) h =
    let i = after_short set (p + 1) count (omega arith) in
    by_split (has set p)
    (λ t. simp t (omega (arith, i, short_decimal p (omega arith), length-append (decimal p) (after_first (members_from set (p + 1) count)))))
    (λ t. simp t (omega (arith, i)))

spaced_after : (l : List ℕ) → length (spaced l) ≤ length (after_first l)
unfolding after_first
spaced_after [] = omega arith
spaced_after (p ∷ l) = omega arith

pub set_short : (set : ℕ) → length (set_bytes set) ≤ 192
set_short set = omega (arith, spaced_after (members_from set 0 64), after_short set 0 64 (omega arith))

-- ---- how many members there are, and how a list of them reads

pub members_few : (s p count : ℕ) → length (members_from s p count) ≤ count
unfolding members_from
members_few s p zero = omega arith
members_few s p (suc count) = by_split (has s p) (λ t. simp t (omega (arith, members_few s (p + 1) count))) (λ t. simp t (omega (arith, members_few s (p + 1) count)))

-- each run of members, and the next of them
pub members_more : (s p count : ℕ) → members_from s p count ++ members_from s (p + count) 1 ≡ members_from s p (suc count)
members_more s p count = let e : count + 1 ≡ suc count = omega arith in members_split s p count 1 ∙ ap (members_from s p) e

pub spaced_by : (l : List ℕ) → (length l ≡ 0 → ⊥) → decimal (get_or l 0 0) ++ after_first (drop 1 l) ≡ spaced l
spaced_by [] h = absurd (h refl)
spaced_by (p ∷ l) h = refl

pub spaced_none : (l : List ℕ) → length l ≡ 0 → spaced l ≡ []
spaced_none [] h = refl
spaced_none (p ∷ l) h = absurd (omega arith)

-- what is listed is read back
pub listed : (set : ℕ) {r : ℕ} {l m : List ℕ} → length l ≡ 64 → Puts (members_from set 0 64) l 0 r m → (r ≤ 64) × (take (r - 0) (drop 0 m) ≡ members_from set 0 64)
listed set {r} {l} {m} h p =
    let v = members_from set 0 64 in
    let e : r ≡ length v = puts_count p (omega (arith, members_few set 0 64)) in
    (omega (arith, e, members_few set 0 64), ap (λ i. take i m) (sub-zero r ∙ e) ∙ ap (take (length v)) p.content ∙ take_sets l v (omega (arith, members_few set 0 64, h)))
