use Rattle.truth.specs.Truth.Tests.{says_same, says_true, says_false}
use Rattle.extent.proofs.has_room.Goals as goal

pub returns-then-nodes_long : goal.returns-then-nodes_long
returns-then-nodes_long c = says_same c.edges_long.ensures (λ e. (says_true c.nodes_long.ensures c.if-nodes_long.true, e)) (λ h. h.1)

pub returns-else-nodes_long : goal.returns-else-nodes_long
returns-else-nodes_long c = says_same c.nodes_long.ensures (λ e. absurd (says_false c.nodes_long.ensures c.if-nodes_long.false e)) (λ h. h.0)
