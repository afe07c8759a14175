use Rattle.sets.specs.Sets.Code.{common_code}
use Rattle.sets.proofs.Set.common.Goals as goal

pub returns : goal.returns
returns c = common_code _ _
