use Rattle.std.proofs.Common.{arith}
use Rattle.truth.specs.Truth.Tests.{says_same, le?}
use Rattle.rows.specs.Result.Rows.{shown_short}
use Rattle.rows.proofs.has_room.Goals as goal

pub returns-then-shown-places : goal.returns-then-shown-places
returns-then-shown-places c = says_same (le? _ _) (λ h. omega (arith, h, shown_short c.args.shown.now)) (λ _. c.if-shown-places.true)

pub returns-else-shown-places : goal.returns-else-shown-places
returns-else-shown-places c = says_same (le? _ _) (λ h. omega (arith, h, c.count_result.ensures)) (λ h. omega (arith, h, c.count_result.ensures))
