-- What the set of all K comes to beside another.
use Rattle.std.specs.Prelude.{◌≡◌, true, ◌↔◌, ℕ, ◌^◌, ◌<◌, min}
use Rattle.std.proofs.Common.{sym, ◌∙◌, arith, lt-ltb, ltb-true}
use Rattle.sets.specs.Sets.{has, all, within}
use Rattle.sets.specs.Sets.Members.{has_all, below_members}
use Rattle.sets.specs.Sets.Order.{within_members}

-- to lie within all k is to have no member at k or above, for a set of 64
pub within_all : (k a : ℕ) → a < 2 ^ 64 → (within a (all k) ≡ true) ↔ ((p : ℕ) → has a p ≡ true → p < k)
within_all k a h = (
  (λ w p t. let l = ltb-true p (min k 64) (sym (has_all k p) ∙ (within_members a (all k)).0 w p t) in omega arith),
  λ f. (within_members a (all k)).1 (λ p t. has_all k p ∙ lt-ltb p (min k 64) (omega (arith, f p t, (below_members 64 a).0 h p t))),
)
