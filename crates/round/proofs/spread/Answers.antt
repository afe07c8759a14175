use Rattle.truth.specs.Truth.Tests.{says_true, says_false}
use Rattle.round.specs.Round.{spread, unspread}
use Rattle.round.proofs.spread.Goals as goal

pub spread_all-requires : goal.spread_all-requires
spread_all-requires c = says_true c.can_spread-can.ensures c.if-can.true

pub returns-then-can : goal.returns-then-can
returns-then-can c = rw c.if-can.true (spread (says_true c.can_spread-can.ensures c.if-can.true) c.spread_all.ensures)

pub returns-else-can : goal.returns-else-can
returns-else-can c = rw c.if-can.false (unspread (says_false c.can_spread-can.ensures c.if-can.false))
