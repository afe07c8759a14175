-- How long a row is, and rows one after another.
use Prim.Native.Nat.{ℕ, zero, suc, ◌+◌, ◌*◌, ◌≤◌}
use Rattle.std.specs.Prelude.{◌≡◌, length, get_or, eqb}
use Rattle.std.proofs.Math.Path.{sym, ap}
use Rattle.std.proofs.Common.{◌∙◌, add-one, add-zero, eq-eqb, ne_eqb}
use mathlib.Core.List.{List, [], ◌∷◌, ◌++◌, append-nil, append_assoc}
use native.Mathlib.Omega.{arith}
use Rattle.std.proofs.Math.ListN.{length-append}
use Rattle.truth.specs.Truth.Bools.{by_split}
use Rattle.sets.specs.Sets.{has}
use Rattle.graph.specs.Graph.{verdict_of}
use Rattle.writer.specs.declared.Writer.{Writer}
use Rattle.writer.specs.Writer.{decimal, last_place, Puts, IsWriter, Adds}
use Rattle.writer.specs.Writer.Places.{puts_none, puts_then, puts_as, adds_none, adds_then, adds_as}
use Rattle.writer.specs.Writer.Numbers.{decimal_short}
use Rattle.members.specs.Members.{set_bytes}
use Rattle.members.specs.Members.Laws.{set_short}
use Rattle.rows.specs.declared.shown.Shown.{Shown}
use Rattle.rows.specs.Result.Shown.{shown_bytes}
use Rattle.rows.specs.Result.{verdict_bytes, row_bytes, header_bytes, rows_from, result_bytes}

pub verdict_short : (kind check denied granted : ℕ) → length (verdict_bytes kind check denied granted) ≤ 20
verdict_short kind check denied granted = by_split (eqb kind 2) (λ t. simp t (decimal_short 20 _)) (λ t. simp t (omega arith))

pub verdict_none : (kind check denied granted : ℕ) → (kind ≡ 2 → ⊥) → verdict_bytes kind check denied granted ≡ []
verdict_none kind check denied granted h = simp (ne_eqb kind 2 h)

pub verdict_some : (kind check denied granted : ℕ) → kind ≡ 2 → verdict_bytes kind check denied granted ≡ decimal (verdict_of (has denied check) (has granted check))
verdict_some kind check denied granted h = simp (eq-eqb kind 2 h)

pub row_short : (node kind check denied granted : ℕ) → length (row_bytes node kind check denied granted) ≤ 429
row_short node kind check denied granted =
    let n = decimal node in
    let d : List ℕ = 44 ∷ set_bytes denied in
    let g : List ℕ = 44 ∷ set_bytes granted in
    let v : List ℕ = 44 ∷ verdict_bytes kind check denied granted in
    omega (
      arith,
      length-append (n ++ d ++ g ++ v) (13 ∷ 10 ∷ []),
      length-append (n ++ d ++ g) v,
      length-append (n ++ d) g,
      length-append n d,
      decimal_short 20 node,
      set_short denied,
      set_short granted,
      verdict_short kind check denied granted,
    )

-- ---- rows, one after another

module _ (kinds checks denied granted : List ℕ) where
  abbrev row_at : ℕ → List ℕ
  row_at i = row_bytes i (get_or kinds i 0) (get_or checks i 0) (get_or denied i 0) (get_or granted i 0)

  rows_more : (i count : ℕ) → rows_from kinds checks denied granted i count ++ row_at (i + count) ≡ rows_from kinds checks denied granted i (suc count)
  unfolding rows_from
  rows_more i zero = ap row_at (add-zero i) ∙ sym (append-nil (row_at i))
  rows_more i (suc count) =
      let e : i + suc count ≡ i + 1 + count = omega arith in
      append_assoc (row_at i) (rows_from kinds checks denied granted (i + 1) count) (row_at (i + suc count))
      ∙ ap (λ l. row_at i ++ l) (ap (λ j. rows_from kinds checks denied granted (i + 1) count ++ row_at j) e ∙ rows_more (i + 1) count)

  -- rows of the nodes below i, and one more
  pub rows_none : {w : Writer} → IsWriter w → Adds (rows_from kinds checks denied granted 0 0) w w
  unfolding rows_from
  rows_none = adds_none

  pub rows_next : {u v w : Writer} (i : ℕ) → Adds (rows_from kinds checks denied granted 0 i) u v
      → Adds (row_bytes i (get_or kinds i 0) (get_or checks i 0) (get_or denied i 0) (get_or granted i 0)) v w → Adds (rows_from kinds checks denied granted 0 (i + 1)) u w
  rows_next i a b =
      let z : i ≡ 0 + i = omega arith in
      let e : rows_from kinds checks denied granted 0 i ++ row_at i ≡ rows_from kinds checks denied granted 0 (i + 1) =
      ap (λ j. rows_from kinds checks denied granted 0 i ++ row_at j) z ∙ rows_more 0 i ∙ ap (rows_from kinds checks denied granted 0) (sym (add-one i)) in
      adds_as e (adds_then a b)

  rows_short : (i count : ℕ) → length (rows_from kinds checks denied granted i count) ≤ count * 429
  unfolding rows_from
  rows_short i zero = omega arith
  rows_short i (suc count) =
      omega (
        arith,
        length-append (row_at i) (rows_from kinds checks denied granted (i + 1) count),
        row_short i (get_or kinds i 0) (get_or checks i 0) (get_or denied i 0) (get_or granted i 0),
        rows_short (i + 1) count,
      )

  pub result_short : (n : ℕ) → length (result_bytes n kinds checks denied granted) ≤ n * 429 + 29
  result_short n = omega (arith, length-append header_bytes (rows_from kinds checks denied granted 0 n), rows_short 0 n)

pub shown_short : (s : Shown) → length (shown_bytes s) ≤ s.n * 429 + 29
shown_short s = result_short s.kinds.now s.checks.now s.sets.denied.now s.sets.granted.now s.n

-- ---- the same of bytes at a place of a buffer

module _ (kinds checks denied granted : List ℕ) where
  pub rowing_start : {l : List ℕ} {from : ℕ} → from ≤ last_place → Puts (rows_from kinds checks denied granted 0 0) l from from l
  unfolding rows_from
  rowing_start h = puts_none h

  pub rowing_more : {l m n : List ℕ} {from next next' : ℕ} (i : ℕ) → length l ≤ last_place → Puts (rows_from kinds checks denied granted 0 i) l from next m
      → Puts (row_bytes i (get_or kinds i 0) (get_or checks i 0) (get_or denied i 0) (get_or granted i 0)) m next next' n → Puts (rows_from kinds checks denied granted 0 (i + 1)) l from next' n
  rowing_more i short r p =
      let z : 0 + i ≡ i = omega arith in
      let e : rows_from kinds checks denied granted 0 i ++ row_at kinds checks denied granted i ≡ rows_from kinds checks denied granted 0 (i + 1) =
      ap (λ j. rows_from kinds checks denied granted 0 i ++ row_at kinds checks denied granted j) (sym z) ∙ rows_more kinds checks denied granted 0 i ∙ ap (rows_from kinds checks denied granted 0) (sym (add-one i)) in
      puts_as e (puts_then short r p)

  pub rowing_end : {l m : List ℕ} {from next : ℕ} (i n : ℕ) → Puts (rows_from kinds checks denied granted 0 i) l from next m → i ≡ n → Puts (rows_from kinds checks denied granted 0 n) l from next m
  rowing_end i n r e = puts_as (ap (rows_from kinds checks denied granted 0) e) r
