use Rattle.flow.specs.Walk.{start}
use mathlib.Core.Path.{sym}
use Rattle.sets.specs.Sets.Code.{empty_code}
use Rattle.flow.proofs.start.Goals as goal

pub returns-in-May : goal.returns-in-May
unfolding start
returns-in-May c = rw c.in-May.is (sym empty_code)

pub returns-in-Sure : goal.returns-in-Sure
unfolding start
returns-in-Sure c = rw c.in-Sure.is c.all.ensures
