-- What a test, a search and a fold over numbers answer. Definitions alone: their laws are in the modules below.
pub mod Bools
pub mod Tests
pub mod Folds
pub mod Kit
use Rattle.std.specs.Prelude.{ℕ, zero, suc, ◌≤◌, ◌<◌, Bool, true, false, cond, ◌&&◌, ◌||◌, ltb, Option, Some, None}

-- b is true where P holds, and false where it does not.
pub data Says (P : Type 0) : Bool → Type 0 where
  holds : P → Says P true
  fails : (P → ⊥) → Says P false

-- P holds at every number below n.
abbrev pub All : (ℕ → Type 0) → ℕ → Type 0
All P n = (i : ℕ) → i < n → P i

-- r is the first number below n at which P fails, or n where there is none.
pub record First (P : ℕ → Type 0) (n r : ℕ) : Type 0 where
  pub within : r ≤ n
  pub before : (i : ℕ) → i < r → P i
  pub broken : r < n → P r → ⊥

-- What a search over the numbers below n answers: the first at which P fails, or none where P holds at them all.
pub data Finds (P : ℕ → Type 0) (n : ℕ) : Option ℕ → Type 0 where
  nowhere : All P n → Finds P n None
  found : {r : ℕ} → r < n → First P n r → Finds P n (Some r)

-- The first number below n at which f is false, or n where there is none: First, as a computation.
unfoldable pub first : (ℕ → Bool) → ℕ → ℕ
first f zero = zero
first f (suc n) = cond (ltb (first f n) n) (first f n) (cond (f n) (suc n) n)

-- If a then b.
abbrev pub ◌⇒◌ : Bool → Bool → Bool
true ⇒ b = b
false ⇒ b = true

infixr 25 ◌⇒◌
-- Some number below n has f; every number below n has f.
unfoldable pub some : ℕ → (ℕ → Bool) → Bool
some zero f = false
some (suc n) f = f n || some n f

unfoldable pub every : ℕ → (ℕ → Bool) → Bool
every zero f = true
every (suc n) f = f n && every n f
