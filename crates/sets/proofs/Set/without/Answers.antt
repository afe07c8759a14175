use Rattle.sets.specs.Sets.Code.{without_code}
use Rattle.sets.proofs.Set.without.Goals as goal

pub returns : goal.returns
returns c = without_code _ _
