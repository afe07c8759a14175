-- Laws of searches that rest on others.
use Rattle.std.specs.Prelude.{ℕ, Option, Some, ◌≡◌, refl}
use Rattle.std.proofs.Common.{ap}
use Rattle.truth.specs.Truth.{Finds, nowhere, found}
use Rattle.truth.specs.Truth.Tests.{first_one, first_some}

-- one answer is left
pub finds_one : {P : ℕ → Type 0} {n : ℕ} {a b : Option ℕ} → Finds P n a → Finds P n b → a ≡ b
finds_one (nowhere a) (nowhere b) = refl
finds_one (nowhere a) (found h f) = absurd (first_some f h a)
finds_one (found h f) (nowhere a) = absurd (first_some f h a)
finds_one (found h f) (found k g) = ap Some (first_one f g)
