use Rattle.std.proofs.Common.{sym}
use Rattle.writer.specs.Writer.Places.{adds_as, adds_then}
use Rattle.writer.specs.Writer.Numbers.{decimal_1, decimal_2}
use Rattle.writer.proofs.Writer.put_short.Goals as goal

pub returns-then-n-lt10 : goal.returns-then-n-lt10
returns-then-n-lt10 c = adds_as (sym (decimal_1 c.if-n-lt10.true)) c.put_digit.ensures

pub returns-else-n-lt10 : goal.returns-else-n-lt10
returns-else-n-lt10 c =
    adds_as (sym (decimal_2 c.if-n-lt10.false c.requires)) (adds_then c.put_digit-else-n-lt10.ensures c.put_digit-else-n-lt10-2.ensures)
