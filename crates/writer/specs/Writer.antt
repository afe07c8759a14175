-- Bytes at a place of a lent buffer, numbers among them. Definitions alone.
pub mod Places
pub mod Numbers
use Rattle.std.specs.Prelude.{ℕ, zero, suc, ◌+◌, ◌/◌, ◌%◌, ◌≡◌, ◌≤◌, List, [], ◌∷◌, ◌++◌, cond, length, ltb, min}
use Rattle.std.proofs.lemmas.List.Edits.{sets}
use Rattle.io.specs.Digits.{hex_digit_ascii}
use Rattle.writer.specs.declared.Writer.{Writer}

-- ---- Bytes

-- A number in decimal; 20 digits hold every number of 64 bits.
unfoldable pub decimal_by : (most n : ℕ) → List ℕ
decimal_by zero n = []
decimal_by (suc most) n = cond (ltb n 10) (hex_digit_ascii n ∷ []) (decimal_by most (n / 10) ++ (hex_digit_ascii (n % 10) ∷ []))

abbrev pub decimal : ℕ → List ℕ
decimal = decimal_by 20

-- ---- Places

-- The largest number of 64 bits. No slice has a byte there, and it stands for every place beyond it.
abbrev pub last_place : ℕ
last_place = 18446744073709551615

abbrev pub place_of : ℕ → ℕ
place_of n = min n last_place

-- Bytes were written from a place on, those that the buffer has places for, and the place after them all is the answer.
pub record Puts (bytes before : List ℕ) (at r : ℕ) (after : List ℕ) : Type 0 where
  pub answer : r ≡ place_of (at + length bytes)
  pub content : after ≡ sets before at bytes

-- What every writer is, by its types: its place and its buffer's length are numbers of 64 bits.
pub record IsWriter (w : Writer) : Type 0 where
  pub place : w.at ≤ last_place
  pub buffer : length w.out.now ≤ last_place

-- A writer put bytes at its place, and still has the buffer that it was lent.
pub record Adds (bytes : List ℕ) (before after : Writer) : Type 0 where
  pub writer : IsWriter before
  pub puts : Puts bytes before.out.now before.at after.at after.out.now
  pub same : after.out.ghost_name ≡ before.out.ghost_name
