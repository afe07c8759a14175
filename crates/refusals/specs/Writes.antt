-- The bytes that a refusal is printed as, and what a call promises that writes bytes at the start of a buffer. Definitions alone. 44 is the comma, 13 CR, 10 LF.
pub mod Laws
use Rattle.std.specs.Prelude.{ℕ, ◌≤◌, List, [], ◌∷◌, ◌++◌, length}
use Rattle.std.proofs.lemmas.List.Edits.{sets}
use Rattle.writer.specs.Writer.{decimal}
use Rattle.graph.specs.Refusals.{numbered}
use Rattle.graph.specs.declared.Refusal.{Refusal}
use Rattle.graph.specs.declared.Refusal.TheVariants as why
use Rattle.graph.specs.Refusals.{Written}
use Rattle.std.specs.Prelude.{Ok, Err}

-- "refused,".
abbrev pub refused_bytes : List ℕ
refused_bytes = 114 ∷ 101 ∷ 102 ∷ 117 ∷ 115 ∷ 101 ∷ 100 ∷ 44 ∷ []

abbrev pub refusal_row : (number place : ℕ) → List ℕ
refusal_row number place = refused_bytes ++ decimal number ++ 44 ∷ decimal place ++ 13 ∷ 10 ∷ []

abbrev pub refusal_bytes : Refusal → List ℕ
refusal_bytes r = refusal_row (numbered r).number (numbered r).place

-- Bytes at the start of a buffer, and how many; or refusal 10 where it is too short for them, and nothing stored.
pub data Writes (bytes before : List ℕ) : Written → List ℕ → Type 0 where
  written : length bytes ≤ length before → Writes bytes before (Ok (length bytes)) (sets before 0 bytes)
  too_short : (length bytes ≤ length before → ⊥) → Writes bytes before (Err why.NoRoom) before
