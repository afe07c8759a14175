use Rattle.truth.specs.Truth.Tests.{says_same, says_no, says_true, says_false}
use Rattle.round.proofs.can_spread.Goals as goal

pub returns-then-have_room : goal.returns-then-have_room
returns-then-have_room c =
    says_same c.ends_low.ensures (λ l. record { room = says_true c.have_room.ensures c.if-have_room.true; low = l }) (λ p. p.low)

pub returns-else-have_room : goal.returns-else-have_room
returns-else-have_room c = says_no c.if-have_room.false (λ p. says_false c.have_room.ensures c.if-have_room.false p.room)
