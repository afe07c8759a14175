use Rattle.std.proofs.Common.{rules, refl}
use Rattle.truth.specs.Truth.Tests.{says_true, says_false}
use Rattle.rows.specs.Result.{shape, result}
use Rattle.refusals.specs.Writes.{too_short}
use Rattle.refusals.specs.Writes.Laws.{writes_added}
use Rattle.rows.proofs.write_result.Goals as goal

pub returns-then-not-is_long : goal.returns-then-not-is_long
returns-then-not-is_long c = shape (says_false c.is_long.ensures c.if-not-is_long.true)

pub returns-then-not-has_room : goal.returns-then-not-has_room
returns-then-not-has_room c = result (says_true c.is_long.ensures c.if-not-is_long.false) (too_short (says_false c.has_room.ensures c.if-not-has_room.true))

pub returns : goal.returns
returns c =
    result (says_true c.is_long.ensures c.if-not-is_long.false) (writes_added c.put_result.ensures refl (search rules) (says_true c.has_room.ensures c.if-not-has_room.false))
