use Rattle.sets.specs.Sets.Code.{within_code}
use Rattle.sets.proofs.Set.within.Goals as goal

pub returns : goal.returns
returns c = within_code _ _
