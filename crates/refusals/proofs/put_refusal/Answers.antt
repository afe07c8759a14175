-- The parts of a row stand one after another: the word, the number, the place, the row's end.
use Rattle.std.proofs.Common.{ap}
use Rattle.writer.specs.Writer.{decimal}
use Rattle.writer.specs.Writer.Places.{adds_as, adds_then}
use Rattle.refusals.proofs.put_refusal.Goals as goal

pub returns : goal.returns
returns c =
    let number = adds_as (ap decimal c.number.ensures) c.put_number.ensures in
    let place = adds_as (ap decimal c.place.ensures) c.put_number-2.ensures in
    adds_then (adds_then (adds_then c.put_all.ensures number) (adds_then c.put.ensures place)) c.put_all-2.ensures
