use Rattle.sets.specs.Sets.Code.{add_code, add_code_past}
use Rattle.sets.proofs.Set.add.Goals as goal

pub returns-then-p-lt-LIMIT : goal.returns-then-p-lt-LIMIT
returns-then-p-lt-LIMIT c = add_code _ _ c.if-p-lt-LIMIT.true

pub returns-else-p-lt-LIMIT : goal.returns-else-p-lt-LIMIT
returns-else-p-lt-LIMIT c = add_code_past _ _ c.if-p-lt-LIMIT.false
