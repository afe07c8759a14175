-- The parts of a row stand one after another: the number, the two sets, the verdict, the row's end.
use Rattle.writer.specs.Writer.Places.{adds_then}
use Rattle.rows.proofs.put_row.Goals as goal

pub returns : goal.returns
returns c =
    let sets = adds_then (adds_then c.put_number.ensures c.put_set_field.ensures) c.put_set_field-2.ensures in
    adds_then (adds_then sets (adds_then c.put.ensures c.put_verdict.ensures)) c.put_all.ensures
