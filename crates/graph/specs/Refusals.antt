-- The refusals: the number and the place that go with each. Definitions alone.
pub mod Laws
use Rattle.std.specs.Prelude.{ℕ, Result, ⊤}
use Rattle.graph.specs.declared.Refusal.{Refusal}
use Rattle.graph.specs.declared.Refusal.TheVariants.{Shape, Node, Edge, NoEntry, Asked, Stack, NotACheck, NoRule, Denied, NoRoom, Row, TooLong}

-- A refusal's number, and its place: 0 where none is named.
pub record Numbered : Type 0 where
  pub number : ℕ
  pub place : ℕ

abbrev pub ◌at◌ : (number place : ℕ) → Numbered
number at place = record { number = number; place = place }

infix 30 ◌at◌
abbrev pub numbered : Refusal → Numbered
numbered Shape = 1 at 0
numbered (Node i) = 2 at i
numbered (Edge e) = 3 at e
numbered NoEntry = 4 at 0
numbered Asked = 5 at 0
numbered Stack = 6 at 0
numbered NotACheck = 7 at 0
numbered NoRule = 8 at 0
numbered Denied = 9 at 0
numbered NoRoom = 10 at 0
numbered (Row i) = 11 at i
numbered TooLong = 12 at 0

-- What a call answers that gives nothing but its consent, and one that says how many bytes it wrote; or else why it refuses.
abbrev pub Judged : Type 0
Judged = Result ⊤ Refusal

abbrev pub Written : Type 0
Written = Result ℕ Refusal
