use Rattle.writer.specs.Writer.Places.{adds_then}
use Rattle.rows.proofs.put_result.Goals as goal

pub returns : goal.returns
returns c = adds_then c.put_all.ensures c.put_rows.ensures
