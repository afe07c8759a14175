use Rattle.std.proofs.Common.{◌∙◌}
use Rattle.sets.specs.Sets.Code.{empty_code, same_code}
use Rattle.sets.proofs.Set.is_empty.Goals as goal

pub returns : goal.returns
returns c = rw empty_code (c.eq.ensures ∙ same_code _ _)
