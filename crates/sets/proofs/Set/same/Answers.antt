use Rattle.std.proofs.Common.{◌∙◌}
use Rattle.sets.specs.Sets.Code.{same_code}
use Rattle.sets.proofs.Set.same.Goals as goal

pub returns : goal.returns
returns c = c.eq.ensures ∙ same_code _ _
