use Rattle.truth.specs.Truth.Tests.{says_true, says_false}
use Rattle.worklist.specs.Worklist.{kept}
use Rattle.worklist.specs.Worklist.Linking.{links_by}
use Rattle.worklist.proofs.EdgeLists.link.Goals as goal

pub link_all-requires : goal.link_all-requires
link_all-requires c = says_true c.can_link-can.ensures c.if-can.true

pub returns-then-can-clause-linked : goal.returns-then-can-clause-linked
returns-then-can-clause-linked c = rw c.if-can.true (links_by _ _ _ _ (says_true c.can_link-can.ensures c.if-can.true) c.link_all.ensures.linked)

pub returns-else-can-clause-linked : goal.returns-else-can-clause-linked
returns-else-can-clause-linked c = rw c.if-can.false (kept (says_false c.can_link-can.ensures c.if-can.false))
