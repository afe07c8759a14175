use Rattle.sets.specs.Sets.Code.{has_code}
use Rattle.sets.specs.Sets.Members.{has_past}
use native.Mathlib.Omega.{arith}
use mathlib.Core.Path.{sym}
use Rattle.sets.proofs.Set.has.Goals as goal

pub returns-then-p-lt-LIMIT : goal.returns-then-p-lt-LIMIT
returns-then-p-lt-LIMIT c = sym (has_code _ _)

pub returns-else-p-lt-LIMIT : goal.returns-else-p-lt-LIMIT
returns-else-p-lt-LIMIT c = sym (has_past 64 _ _ (omega arith) c.if-p-lt-LIMIT.false)
