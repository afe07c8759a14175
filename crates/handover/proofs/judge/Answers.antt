use Rattle.std.proofs.Common.{subst}
use Rattle.truth.specs.Truth.{Says}
use Rattle.truth.specs.Truth.Tests.{says_true, says_false}
use Rattle.graph.specs.Graph.{Graph}
use Rattle.graph.specs.Judge.{Judges}
use Rattle.handover.specs.Handover.{lists_lent, Room, bare, judged}
use Rattle.handover.specs.Handover.Laws.{room_says, range_refuses}
use Rattle.handover.proofs.judge.Goals.{After-has_room}
use Rattle.handover.proofs.judge.Goals as goal

module _ (c : After-has_room) where
  room : Says (Room (lists_lent c.args.held.now)) c.has_room.result
  room = room_says (lists_lent c.args.held.now) c.lengths.ensures c.lengths-2.ensures c.has_room.ensures

pub returns-then-not-has_room : goal.returns-then-not-has_room
returns-then-not-has_room c = bare (says_false (room (goal.at.returns-then-not-has_room c).After-has_room) c.if-not-has_room.true)

pub returns-then-not-in_range : goal.returns-then-not-in_range
returns-then-not-in_range c =
    judged (says_true (room (goal.at.returns-then-not-in_range c).After-has_room) c.if-not-has_room.false) (range_refuses _ _ (says_false c.in_range.ensures c.if-not-in_range.true))

pub first_places-requires : goal.first_places-requires
first_places-requires c =
    (says_true c.in_range.ensures c.if-not-in_range.false, says_true (room (goal.at.first_places-requires c).After-has_room) c.if-not-has_room.false)

pub returns : goal.returns
returns c =
    judged (says_true (room (goal.at.returns c).After-has_room) c.if-not-has_room.false) (subst (λ (g : Graph). Judges g c.check.result) c.first_places.ensures c.check.ensures)
