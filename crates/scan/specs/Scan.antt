-- Runs of bytes, parts of a text, decimal numbers, and ascending lists of them. Definitions alone. A text is a list of bytes.
pub mod Runs
pub mod Numbers
pub mod Lists
pub mod Bare
pub mod Digits
use Rattle.std.specs.Prelude.{ℕ, ◌+◌, ◌-◌, ◌*◌, ◌^◌, List, [], ◌∷◌, Bool, true, false, cond, not, length, get_or, take, drop, eqb, ltb, Option, Some, None, option_map, option_and_then}
use Rattle.std.specs.Char.{is_ascii_digit}
use Rattle.std.specs.List.{prefix_len, slice_split}
use Rattle.std.specs.Int.Bits.{bit_or}
use Rattle.scan.specs.declared.At.{At}
use Rattle.scan.specs.declared.Class.{Class}
use Rattle.scan.specs.declared.Class.TheVariants.{Plain, Inside, Word}
use Rattle.scan.specs.declared.Listed.{Listed}
use Rattle.scan.specs.declared.Listed.TheVariants.{Held, Beyond}

-- ---- Bytes by their names

abbrev pub quote : ℕ
quote = 34

abbrev pub comma : ℕ
comma = 44

abbrev pub cr : ℕ
cr = 13

abbrev pub lf : ℕ
lf = 10

abbrev pub space : ℕ
space = 32

abbrev pub nought : ℕ
nought = 48

-- What was read, and the position past it.
abbrev pub read_to : {X : Type 0} → X → (next : ℕ) → At X
read_to x next = record { value = x; next = next }

-- ---- Runs and parts

-- What a field without quotes may hold, what stands between quotes, and what stands between the spaces of a list.
abbrev pub belongs : Class → ℕ → Bool
belongs Plain b = cond (eqb b quote) false (cond (eqb b comma) false (cond (eqb b cr) false (not (eqb b lf))))
belongs Inside b = not (eqb b quote)
belongs Word b = not (eqb b space)

-- How many bytes of a class a list begins with.
unfoldable pub run : Class → List ℕ → ℕ
run c l = prefix_len (belongs c) l

-- The part of a text from start up to end.
abbrev pub part_of : List ℕ → (start end : ℕ) → List ℕ
part_of s start end = take (end - start) (drop start s)

-- ---- Numbers

-- The digits of a list, after digits that say v.
unfoldable pub digits_from : ℕ → List ℕ → Option ℕ
digits_from v [] = Some v
digits_from v (b ∷ l) = cond (is_ascii_digit b) (digits_from (v * 10 + (b - nought)) l) None

-- A number has at most so many digits, whatever is allowed.
abbrev pub most_digits : ℕ
most_digits = 18

-- A decimal number of at most so many digits, with no needless zeros: one that begins with 0 is 0 itself.
unfoldable pub number_of : (most : ℕ) → List ℕ → Option ℕ
number_of most l =
    cond (eqb (length l) 0) None
    (cond (ltb most (length l)) None
    (cond (ltb most_digits (length l)) None
    (cond (eqb (get_or l 0 0) nought) (cond (eqb (length l) 1) (Some 0) None) (digits_from 0 l))))

-- ---- Lists

-- The words of a list between its spaces.
unfoldable pub words : List ℕ → List (List ℕ)
words l = slice_split (λ b. eqb b space) l

-- The numbers that words name, strictly ascending and none below low, joined to the set x: a set is the number with those bits, of any size.
unfoldable pub ascending : (most low x : ℕ) → List (List ℕ) → Option ℕ
ascending most low x [] = Some x
ascending most low x (w ∷ ws) = option_and_then (λ v. cond (ltb v low) None (ascending most (v + 1) (bit_or x (2 ^ v)) ws)) (number_of most w)

-- Strictly ascending numbers, one space between; an empty list names no number.
unfoldable pub members_of : (most : ℕ) → List ℕ → Option ℕ
members_of most [] = Some 0
members_of most (b ∷ l) = ascending most 0 0 (words (b ∷ l))

-- A set as 64 bits, where it has no member at 64 or above.
abbrev pub listed : ℕ → Listed
listed x = cond (ltb x (2 ^ 64)) (Held x) Beyond

abbrev pub held_of : Option ℕ → Option Listed
held_of = option_map listed
