-- What the tests of this crate's code say.
use Prim.Native.Nat.{ℕ, ◌<◌, ◌^◌}
use mathlib.Core.Bool.{Bool, true}
use mathlib.Core.Path.{◌≡◌, sym, ap, ◌∙◌}
use Rattle.truth.specs.Truth.{Says}
use Rattle.truth.specs.Truth.Bools.{clash}
use Rattle.truth.specs.Truth.Tests.{says_by}
use Rattle.sets.specs.Sets.{has, all, within}
use Rattle.sets.proofs.Sets.Order.{within_all}

-- a set within all k has its members below k
pub within_says : (k s : ℕ) {a : ℕ} {b : Bool} → s < 2 ^ 64 → a ≡ all k → b ≡ within s a → Says ((p : ℕ) → has s p ≡ true → p < k) b
within_says k s {a} {b} h e w =
    let f : b ≡ within s (all k) = w ∙ ap (within s) e in
    says_by b (λ t. (within_all k s h).0 (sym f ∙ t)) (λ t x. clash ((within_all k s h).1 x) (sym f ∙ t))
