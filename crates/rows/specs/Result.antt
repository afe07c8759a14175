-- The bytes that a result is printed as, and what the call that writes them promises. Definitions alone. 44 is the comma, 13 CR, 10 LF.
pub mod Shown
pub mod Rows
pub mod Calls
use Rattle.std.specs.Prelude.{ℕ, zero, suc, ◌+◌, ◌≤◌, ◌≡◌, List, [], ◌∷◌, ◌++◌, cond, length, get_or, eqb}
use Rattle.sets.specs.Sets.{has}
use Rattle.writer.specs.Writer.{decimal}
use Rattle.members.specs.Members.{set_bytes}
use Rattle.graph.specs.Graph.{verdict_of}
use Rattle.graph.specs.declared.Refusal.TheVariants as why
use Rattle.graph.specs.Refusals.{Written}
use Rattle.std.specs.Prelude.{Ok, Err}
use Rattle.refusals.specs.Writes.{Writes}

-- ---- Rows

-- The verdict of a check (kind 2); empty at any other node.
abbrev pub verdict_bytes : (kind check denied granted : ℕ) → List ℕ
verdict_bytes kind check denied granted = cond (eqb kind 2) (decimal (verdict_of (has denied check) (has granted check))) []

abbrev pub row_bytes : (node kind check denied granted : ℕ) → List ℕ
row_bytes node kind check denied granted =
    decimal node ++ 44 ∷ set_bytes denied ++ 44 ∷ set_bytes granted ++ 44 ∷ verdict_bytes kind check denied granted ++ 13 ∷ 10 ∷ []

-- "node,denied,granted,verdict".
abbrev pub header_bytes : List ℕ
header_bytes =
    110 ∷ 111 ∷ 100 ∷ 101 ∷ 44 ∷ 100 ∷ 101 ∷ 110 ∷ 105 ∷ 101 ∷ 100 ∷ 44 ∷ 103 ∷ 114 ∷ 97 ∷ 110 ∷ 116 ∷ 101 ∷ 100 ∷ 44 ∷ 118 ∷ 101 ∷ 114 ∷ 100 ∷ 105 ∷ 99 ∷ 116 ∷ 13 ∷ 10 ∷ []

-- The rows of so many nodes, from node i on.
unfoldable pub rows_from : (kinds checks denied granted : List ℕ) (i count : ℕ) → List ℕ
rows_from kinds checks denied granted i zero = []
rows_from kinds checks denied granted i (suc count) =
    row_bytes i (get_or kinds i 0) (get_or checks i 0) (get_or denied i 0) (get_or granted i 0) ++ rows_from kinds checks denied granted (i + 1) count

abbrev pub result_bytes : (n : ℕ) (kinds checks denied granted : List ℕ) → List ℕ
result_bytes n kinds checks denied granted = header_bytes ++ rows_from kinds checks denied granted 0 n

-- ---- The call

-- Every slice has an entry for each of 1 to 1,024 nodes.
pub record Long (n kinds checks denied granted : ℕ) : Type 0 where
  pub many : 1 ≤ n
  pub few : n ≤ 1024
  pub kinds_long : kinds ≡ n
  pub checks_long : checks ≡ n
  pub denied_long : denied ≡ n
  pub granted_long : granted ≡ n

-- Refusal 1 for the slices' lengths comes first.
pub data WritesResult (n : ℕ) (kinds checks denied granted before : List ℕ) : Written → List ℕ → Type 0 where
  shape : (Long n (length kinds) (length checks) (length denied) (length granted) → ⊥) → WritesResult n kinds checks denied granted before (Err why.Shape) before
  result : {r : Written} {after : List ℕ} → Long n (length kinds) (length checks) (length denied) (length granted) → Writes (result_bytes n kinds checks denied granted) before r after
      → WritesResult n kinds checks denied granted before r after
