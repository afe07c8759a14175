use Rattle.std.proofs.Common.{rules}
use Rattle.members.specs.Members.{after_first}
use Rattle.writer.specs.Writer.Places.{adds_none}
use Rattle.members.specs.Members.Laws.{after_next}
use Rattle.members.proofs.put_rest.Goals as goal

pub loop-p-init : goal.loop-p-init
unfolding after_first
loop-p-init c = adds_none (search rules)

pub loop-p-preserved : goal.loop-p-preserved
loop-p-preserved c = after_next _ _ c.loop-p-test.true c.loop-p.invariant c.put.ensures c.put_number.ensures
