use Rattle.flow.specs.Walk.{past_num}
use mathlib.Core.Path.{sym, ◌∙◌}
use Rattle.sets.specs.Sets.Code.{empty_code}
use Rattle.flow.proofs.passed.Goals as goal

pub returns-in-May : goal.returns-in-May
unfolding past_num
returns-in-May c = rw c.in-May.is

pub returns-in-Sure : goal.returns-in-Sure
unfolding past_num
returns-in-Sure c = rw (c.in-Sure.is, sym c.has.ensures ∙ c.if-has.true) c.add.ensures

pub returns-in-Sure-2 : goal.returns-in-Sure-2
unfolding past_num
returns-in-Sure-2 c = rw (c.in-Sure-2.is, sym c.has.ensures ∙ c.if-has.false) (sym empty_code)
