-- Three or four digits are the one or two of the hundreds, and two more.
use Rattle.std.proofs.Common.{sym}
use Rattle.writer.specs.Writer.Places.{adds_as, adds_then}
use Rattle.writer.specs.Writer.Numbers.{decimal_4}
use Rattle.writer.proofs.Writer.put_middle.Goals as goal

pub returns : goal.returns
returns c =
    adds_as (sym (decimal_4 c.requires.0 c.requires.1))
    (adds_then (adds_then c.put_short.ensures c.put_digit.ensures) c.put_digit-2.ensures)
