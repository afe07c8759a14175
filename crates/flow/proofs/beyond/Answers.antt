use Rattle.flow.proofs.Walk.Sums.{trans_plain}
use Rattle.flow.proofs.beyond.Goals as goal

pub returns-then-node-ne-KIND_CHECK : goal.returns-then-node-ne-KIND_CHECK
returns-then-node-ne-KIND_CHECK c = trans_plain _ _ _ _ _ _ c.if-node-ne-KIND_CHECK.true

pub returns : goal.returns
returns c = rw (← c.passed.ensures) c.moved.ensures
