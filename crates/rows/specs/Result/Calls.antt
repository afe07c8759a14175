-- The call leaves one answer and one content.
use Rattle.std.specs.Prelude.{ℕ, ◌≡◌, refl, List}
use Rattle.graph.specs.Refusals.{Written}
use Rattle.refusals.specs.Writes.Laws.{writes_one}
use Rattle.rows.specs.Result.{WritesResult, shape, result}

pub result_one : {n : ℕ} {k c d g before a b : List ℕ} {r s : Written} → WritesResult n k c d g before r a → WritesResult n k c d g before s b → (r ≡ s) × (a ≡ b)
result_one (shape x) (shape y) = (refl, refl)
result_one (shape x) (result l y) = absurd (x l)
result_one (result l x) (shape y) = absurd (y l)
result_one (result l x) (result m y) = writes_one x y
