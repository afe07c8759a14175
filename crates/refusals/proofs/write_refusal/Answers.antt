-- The row is counted first, and written where there is room for it.
use Rattle.std.proofs.Common.{rules, arith, refl}
use Rattle.refusals.specs.Writes.Laws.{writes_none, writes_added}
use Rattle.refusals.proofs.write_refusal.Goals as goal

pub returns-then-out-needed : goal.returns-then-out-needed
returns-then-out-needed c = writes_none c.count_refusal-needed.ensures c.if-out-needed.true

pub returns : goal.returns
returns c = writes_added c.put_refusal.ensures refl (search rules) (omega arith)
