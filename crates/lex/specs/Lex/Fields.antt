-- How fields go on from one position of a text to the next.
use Rattle.std.specs.Prelude.{ℕ, ◌+◌, ◌≤◌, ◌<◌, ◌≡◌, List, length, get_or, drop, Option, Some, None, option_and_then}
use Rattle.std.proofs.Common.{ap}
use borrow.Author.Tests.{le-leb, lt-leb, lt-ltb, le-ltb, eq-eqb, ne_eqb}
use Rattle.scan.specs.declared.Class.TheVariants.{Plain, Inside}
use Rattle.scan.specs.Scan.{run}
use Rattle.lex.specs.declared.Mark.{Mark}
use Rattle.lex.specs.declared.Mark.TheVariants.{Comma, RowEnd}
use Rattle.lex.specs.declared.Lexed.{Lexed}
use Rattle.lex.specs.Lex.{part, lexed, followed, quoted_at, plain_at, field_at, marked, before_at, comma_at, last_at}

module _ (s : List ℕ) (b e a : ℕ) where
  pub followed_end : length s ≤ a → followed s b e a ≡ Some (lexed (part b e a) RowEnd)
  unfolding followed
  followed_end h = simp (le-leb _ _ h)

  pub followed_comma : a < length s → get_or s a 0 ≡ 44 → followed s b e a ≡ Some (lexed (part b e (a + 1)) Comma)
  unfolding followed
  followed_comma h p = simp (lt-leb _ _ h, eq-eqb _ _ p)

  pub followed_row : a < length s → get_or s a 0 ≡ 13 → get_or s (a + 1) 0 ≡ 10 → followed s b e a ≡ Some (lexed (part b e (a + 2)) RowEnd)
  unfolding followed
  followed_row h p q = simp (lt-leb _ _ h, p, q)

  pub followed_bare : a < length s → get_or s a 0 ≡ 13 → (get_or s (a + 1) 0 ≡ 10 → ⊥) → followed s b e a ≡ None
  unfolding followed
  followed_bare h p q = simp (lt-leb _ _ h, p, ne_eqb _ _ q)

  pub followed_else : a < length s → (get_or s a 0 ≡ 44 → ⊥) → (get_or s a 0 ≡ 13 → ⊥) → followed s b e a ≡ None
  unfolding followed
  followed_else h p q = simp (lt-leb _ _ h, ne_eqb _ _ p, ne_eqb _ _ q)

module _ (s : List ℕ) (b e : ℕ) where
  pub quoted_yes : e ≡ b + run Inside (drop b s) → e < length s → quoted_at s b ≡ followed s b e (e + 1)
  unfolding quoted_at
  quoted_yes p h = rw p (simp (lt-ltb _ _ (rw p at h)))

  pub quoted_no : e ≡ b + run Inside (drop b s) → length s ≤ e → quoted_at s b ≡ None
  unfolding quoted_at
  quoted_no p h = simp (le-ltb _ _ (rw p at h))

  pub field_quoted : get_or s b 0 ≡ 34 → field_at s b ≡ quoted_at s (b + 1)
  unfolding field_at
  field_quoted p = simp p

  pub field_plain : (get_or s b 0 ≡ 34 → ⊥) → e ≡ b + run Plain (drop b s) → field_at s b ≡ followed s b e e
  unfolding field_at plain_at
  field_plain q p = rw p (simp (ne_eqb _ _ q))

pub before_of : (m : Mark) (s : List ℕ) (b : ℕ) {x : Option Lexed} → field_at s b ≡ x → before_at m s b ≡ option_and_then (λ (y : Lexed). marked m y.mark y.part) x
unfolding before_at
before_of m s b e = ap (option_and_then (λ (y : Lexed). marked m y.mark y.part)) e

pub comma_of : (s : List ℕ) (b : ℕ) {x : Option Lexed} → field_at s b ≡ x → comma_at s b ≡ option_and_then (λ (y : Lexed). marked Comma y.mark y.part) x
comma_of s b e = before_of Comma s b e

pub last_of : (s : List ℕ) (b : ℕ) {x : Option Lexed} → field_at s b ≡ x → last_at s b ≡ option_and_then (λ (y : Lexed). marked RowEnd y.mark y.part) x
last_of s b e = before_of RowEnd s b e
