use Rattle.flow.specs.Walk.{merge}
use Rattle.flow.proofs.merge.Goals as goal

pub returns-in-May : goal.returns-in-May
unfolding merge
returns-in-May c = rw c.in-May.is c.join.ensures

pub returns-in-Sure : goal.returns-in-Sure
unfolding merge
returns-in-Sure c = rw c.in-Sure.is c.common.ensures
