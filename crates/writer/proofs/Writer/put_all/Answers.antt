use Rattle.writer.specs.Writer.Places.{adds_next}
use Rattle.writer.proofs.Writer.put_all.Goals as goal

pub loop-b-preserved : goal.loop-b-preserved
loop-b-preserved c = adds_next _ _ c.loop-b-test.true c.loop-b.invariant c.put.ensures
