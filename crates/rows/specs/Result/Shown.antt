-- What the calls for parts of a result say of the slices that they are lent together. What `write_result` promises does not need them.
use Rattle.std.specs.Prelude.{ℕ, List}
use Rattle.rows.specs.declared.shown.Shown.{Shown}
use Rattle.rows.specs.Result.{rows_from, result_bytes}

-- The rows of the first i nodes.
abbrev pub shown_rows : Shown → ℕ → List ℕ
shown_rows s i = rows_from s.kinds.now s.checks.now s.sets.denied.now s.sets.granted.now 0 i

abbrev pub shown_bytes : Shown → List ℕ
shown_bytes s = result_bytes s.n s.kinds.now s.checks.now s.sets.denied.now s.sets.granted.now
