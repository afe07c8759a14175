use Rattle.writer.specs.Writer.Places.{adds_then}
use Rattle.rows.proofs.put_set_field.Goals as goal

pub returns : goal.returns
returns c = adds_then c.put.ensures c.put_set.ensures
