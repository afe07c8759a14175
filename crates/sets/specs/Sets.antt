-- A permission set is a number: permission p is a member where its binary digit p is 1.
-- Definitions alone. Nothing here unfolds outside this module and those below it: a crate above has the laws.
pub mod Members
pub mod Order
pub mod Pack
pub mod Code
use Rattle.std.specs.Prelude.{Bool, cond, ℕ, ◌-◌, ◌/◌, ◌%◌, ◌^◌, min, ltb, eqb}
use Rattle.std.specs.Int.Bits.{bit_and, bit_or, bit_xor}

pub has : ℕ → ℕ → Bool
has s p = eqb (s / 2 ^ p % 2) 1

pub empty : ℕ
empty = 0

-- the permissions below k; all 64 where k is above 64
pub all : ℕ → ℕ
all k = 2 ^ min k 64 - 1

pub join : ℕ → ℕ → ℕ
join a b = bit_or a b

pub common : ℕ → ℕ → ℕ
common a b = bit_and a b

-- a less its common part with b
pub without : ℕ → ℕ → ℕ
without a b = bit_xor a (bit_and a b)

-- s and p, where a set has room for p
pub add : ℕ → ℕ → ℕ
add s p = cond (ltb p 64) (bit_or s (2 ^ p)) s

-- a lies within b: their common part is a
pub within : ℕ → ℕ → Bool
within a b = eqb (bit_and a b) a

pub same : ℕ → ℕ → Bool
same a b = eqb a b
