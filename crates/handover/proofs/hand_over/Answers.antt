-- Lengths are looked at and the graph is judged before anything is stored: a refusal finds the places as they were, and what is accepted has the
-- lengths and counts that the copies ask for.
use Rattle.std.proofs.lemmas.Result.{err_from_is_err_and}
use Rattle.truth.specs.Truth.{Says}
use Rattle.truth.specs.Truth.Tests.{says_true, says_false}
use Rattle.handover.specs.Handover.{lists_lent, places, Room, cramped, refused, accepted}
use Rattle.handover.specs.Handover.Laws.{room_says, held_fine, Fine}
use Rattle.handover.proofs.hand_over.Goals.{After-has_room, In_ok-judge}
use Rattle.handover.proofs.hand_over.Goals as goal

module _ (c : After-has_room) where
  room : Says (Room (places c.args.into.now)) c.has_room.result
  room = room_says (places c.args.into.now) c.lengths.ensures c.lengths-2.ensures c.has_room.ensures

-- what is known once the graph was accepted
module _ (c : In_ok-judge) where
  fine : Fine c.args.held.now.size (lists_lent c.args.held.now)
  fine = held_fine c.in_ok-judge.ensures

pub returns-then-not-has_room-clause-handed : goal.returns-then-not-has_room-clause-handed
returns-then-not-has_room-clause-handed c = cramped (says_false (room (goal.at.returns-then-not-has_room-clause-handed c).After-has_room) c.if-not-has_room.true)

pub returns-in_err-judge-clause-handed : goal.returns-in_err-judge-clause-handed
returns-in_err-judge-clause-handed c =
    let p = err_from_is_err_and c.from_residual.result c.from_residual.ensures.1 in
    rw (p.1, p.2) (refused (says_true (room (goal.at.returns-in_err-judge-clause-handed c).After-has_room) c.if-not-has_room.false) c.in_err-judge.ensures)

pub store_nodes-requires : goal.store_nodes-requires
store_nodes-requires c =
    let f = fine (goal.at.store_nodes-requires c).In_ok-judge in
    record { counted = f.ranges.n_high; room = (says_true (room (goal.at.store_nodes-requires c).After-has_room) c.if-not-has_room.false).nodes; full = f.room.nodes }

pub store_edges-requires : goal.store_edges-requires
store_edges-requires c =
    let f = fine (goal.at.store_edges-requires c).In_ok-judge in
    record { counted = f.ranges.m_high; room = (says_true (room (goal.at.store_edges-requires c).After-has_room) c.if-not-has_room.false).edges; full = f.room.edges }

pub returns-clause-handed : goal.returns-clause-handed
returns-clause-handed c =
    accepted (says_true (room (goal.at.returns-clause-handed c).After-has_room) c.if-not-has_room.false) c.in_ok-judge.ensures (record { nodes = c.store_nodes.ensures.stored; edges = c.store_edges.ensures.stored })
