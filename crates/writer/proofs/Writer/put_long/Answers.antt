use Rattle.std.proofs.Common.{rules, ◌∙◌}
use Rattle.writer.specs.Writer.Places.{adds_as}
use Rattle.writer.specs.Writer.Numbers.{decimal_digits, fewest_short}
use Rattle.writer.proofs.Writer.put_long.Goals as goal

pub returns : goal.returns
returns c =
    let d = c.decimal-count.ensures in
    adds_as (d.digits ∙ decimal_digits 20 _ _ d.len (fewest_short _ _ d.len (search rules))) c.put_all.ensures
