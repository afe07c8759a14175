-- A set as bytes: its members as a list of numbers. Definitions alone. 32 is the space.
pub mod Laws
use Rattle.std.specs.Prelude.{ℕ, zero, suc, ◌+◌, List, [], ◌∷◌, ◌++◌, cond}
use Rattle.sets.specs.Sets.{has}
use Rattle.writer.specs.Writer.{decimal}

-- The members of a set from p on, so many numbers looked at, lowest first.
unfoldable pub members_from : (set p count : ℕ) → List ℕ
members_from set p zero = []
members_from set p (suc count) = cond (has set p) (p ∷ members_from set (p + 1) count) (members_from set (p + 1) count)

-- Numbers with one space between.
unfoldable pub after_first : List ℕ → List ℕ
after_first [] = []
after_first (p ∷ ps) = 32 ∷ decimal p ++ after_first ps

abbrev pub spaced : List ℕ → List ℕ
spaced [] = []
spaced (p ∷ ps) = decimal p ++ after_first ps

abbrev pub set_bytes : ℕ → List ℕ
set_bytes set = spaced (members_from set 0 64)
