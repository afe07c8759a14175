-- The first number, and the others with a space before each.
use Rattle.std.proofs.Common.{rules, sym, ap}
use Rattle.members.specs.Members.{spaced}
use Rattle.writer.specs.Writer.Places.{adds_none, adds_as, adds_then}
use Rattle.std.proofs.lemmas.List.{nil_from_length}
use Rattle.members.proofs.put_list.Goals as goal

pub returns-in-Some : goal.returns-in-Some
returns-in-Some c = adds_as (ap spaced (sym c.in-Some.ensures.cases.0)) (adds_then c.put_number.ensures c.put_rest.ensures)

pub returns-in_default : goal.returns-in_default
returns-in_default c = adds_as (ap spaced (sym (nil_from_length _ c.in_default.ensures.cases))) (adds_none (search rules))
