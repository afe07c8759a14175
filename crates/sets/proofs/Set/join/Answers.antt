use Rattle.sets.specs.Sets.Code.{join_code}
use Rattle.sets.proofs.Set.join.Goals as goal

pub returns : goal.returns
returns c = join_code _ _
