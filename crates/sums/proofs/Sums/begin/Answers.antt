-- The sums begin only where there is room for them.
use Rattle.truth.specs.Truth.Tests.{says_true, says_false}
use Rattle.sums.specs.Sums.{begun, kept}
use Rattle.sums.proofs.Sums.begin.Goals as goal

pub begin_all-requires : goal.begin_all-requires
begin_all-requires c = says_true c.have_room-room.ensures c.if-room.true

pub returns-then-room-clause-begun : goal.returns-then-room-clause-begun
returns-then-room-clause-begun c = rw c.if-room.true (begun (says_true c.have_room-room.ensures c.if-room.true) c.begin_all.ensures.begun)

pub returns-else-room-clause-begun : goal.returns-else-room-clause-begun
returns-else-room-clause-begun c = rw c.if-room.false (kept (says_false c.have_room-room.ensures c.if-room.false))
