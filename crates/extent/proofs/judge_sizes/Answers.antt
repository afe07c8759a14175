use Rattle.truth.specs.Truth.Tests.{says_true, says_false}
use Rattle.extent.specs.Extent.{cramped, long, fit}
use Rattle.extent.proofs.judge_sizes.Goals as goal

pub returns-then-not-has_room : goal.returns-then-not-has_room
returns-then-not-has_room c = cramped (says_false c.has_room.ensures c.if-not-has_room.true)

pub returns-then-text-gt-MOST_BYTES : goal.returns-then-text-gt-MOST_BYTES
returns-then-text-gt-MOST_BYTES c = long (says_true c.has_room.ensures c.if-not-has_room.false) c.if-text-gt-MOST_BYTES.true

pub returns : goal.returns
returns c = fit (says_true c.has_room.ensures c.if-not-has_room.false) c.if-text-gt-MOST_BYTES.false
