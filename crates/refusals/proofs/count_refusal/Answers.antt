-- The row has at most 51 bytes, so the count is far below the largest place.
use Rattle.std.proofs.Common.{arith, refl}
use Rattle.writer.specs.Writer.Places.{adds_count}
use Rattle.graph.specs.Refusals.{numbered}
use Rattle.refusals.specs.Writes.Laws.{refusal_short}
use Rattle.refusals.proofs.count_refusal.Goals as goal

pub returns : goal.returns
returns c =
    let row = numbered c.args.why in
    adds_count c.put_refusal.ensures refl (omega (arith, refusal_short row.number row.place))
