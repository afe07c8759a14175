-- A row has at most 429 bytes, so the count is far below the largest place.
use Rattle.std.proofs.Common.{arith, refl}
use Rattle.writer.specs.Writer.Places.{adds_count}
use Rattle.rows.specs.Result.Rows.{shown_short}
use Rattle.rows.proofs.count_result.Goals as goal

pub returns : goal.returns
returns c = adds_count c.put_result.ensures refl (omega (arith, shown_short c.args.shown.now, c.args.shown.now.long.few))
