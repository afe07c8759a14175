-- The set that has just the permissions of a test, as a number: how a set that is described becomes one that is stored.
use Rattle.std.specs.Prelude.{◌≡◌, refl, Bool, true, false, cond, ℕ, zero, suc, ◌+◌, ◌*◌, ◌/◌, ◌%◌, ◌^◌, ◌<◌, eqb}
use Rattle.std.proofs.Common.{ap, ap₂, ◌∙◌, not-suc-le-zero, le_of_suc-le-suc, arith, eq-eqb, ne_eqb}
use Rattle.sets.specs.Sets.{has}
use Rattle.sets.specs.Sets.Members.{has_zero, has_suc}

-- the set of those below k that have f
unfoldable pub pack : ℕ → (ℕ → Bool) → ℕ
pack zero f = 0
pack (suc k) f = cond (f 0) 1 0 + 2 * pack k (λ p. f (suc p))

digit_odd : (b : Bool) (x : ℕ) → eqb ((cond b 1 0 + 2 * x) % 2) 1 ≡ b
digit_odd true x = eq-eqb ((1 + 2 * x) % 2) 1 (omega arith)
digit_odd false x = ne_eqb ((0 + 2 * x) % 2) 1 (λ e. omega arith)

digit_half : (b : Bool) (x : ℕ) → (cond b 1 0 + 2 * x) / 2 ≡ x
digit_half true x = omega arith
digit_half false x = omega arith

digit_lt : (b : Bool) → cond b 1 0 < 2
digit_lt true = omega arith
digit_lt false = omega arith

pub pack_lt : (k : ℕ) (f : ℕ → Bool) → pack k f < 2 ^ k
unfolding pack
pack_lt zero f = omega arith
pack_lt (suc k) f = omega (arith, pack_lt k (λ p. f (suc p)), digit_lt (f 0))

pub has_pack : (k : ℕ) (f : ℕ → Bool) (p : ℕ) → p < k → has (pack k f) p ≡ f p
unfolding pack
has_pack zero f p h = absurd (not-suc-le-zero h)
has_pack (suc k) f zero h = has_zero (cond (f 0) 1 0 + 2 * pack k (λ p. f (suc p))) ∙ digit_odd (f 0) (pack k (λ p. f (suc p)))
has_pack (suc k) f (suc p) h =
    has_suc (cond (f 0) 1 0 + 2 * pack k (λ p. f (suc p))) p
    ∙ ap (λ (x : ℕ). has x p) (digit_half (f 0) (pack k (λ p. f (suc p))))
    ∙ has_pack k (λ p. f (suc p)) p (le_of_suc-le-suc h)

-- tests that agree below k have one set
pub pack_same : (k : ℕ) (f f' : ℕ → Bool) → ((p : ℕ) → p < k → f p ≡ f' p) → pack k f ≡ pack k f'
unfolding pack
pack_same zero f f' h = refl
pack_same (suc k) f f' h =
    ap₂ (λ (b : Bool) (n : ℕ). cond b 1 0 + 2 * n) (h 0 (omega arith)) (pack_same k (λ p. f (suc p)) (λ p. f' (suc p)) (λ p l. h (suc p) (omega arith)))
