use Rattle.flow.specs.Walk.{judged_num}
use Rattle.flow.proofs.judged.Goals as goal

pub returns-in-May : goal.returns-in-May
unfolding judged_num
returns-in-May c = rw c.in-May.is

pub returns-in-Sure : goal.returns-in-Sure
unfolding judged_num
returns-in-Sure c = rw c.in-Sure.is
