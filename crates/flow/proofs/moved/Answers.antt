use Rattle.flow.specs.Walk.{trans_num}
use borrow.Author.Tests.{eq-eqb, ne_eqb}
use mathlib.Core.Path.{sym, ◌∙◌}
use Rattle.sets.specs.Sets.Code.{empty_code}
use Rattle.flow.proofs.moved.Goals as goal

pub returns-then-node-ne-KIND_CHECK : goal.returns-then-node-ne-KIND_CHECK
unfolding trans_num
returns-then-node-ne-KIND_CHECK c = rw (ne_eqb _ 2 c.if-node-ne-KIND_CHECK.true)

pub returns-then-not-is_privileged : goal.returns-then-not-is_privileged
unfolding trans_num
returns-then-not-is_privileged c = rw (eq-eqb _ 2 c.if-node-ne-KIND_CHECK.false, sym c.is_privileged.ensures ∙ c.if-not-is_privileged.true)

pub returns-then-has : goal.returns-then-has
unfolding trans_num
returns-then-has c = rw (eq-eqb _ 2 c.if-node-ne-KIND_CHECK.false, sym c.is_privileged.ensures ∙ c.if-not-is_privileged.false, sym c.has.ensures ∙ c.if-has.true)

pub returns-else-has : goal.returns-else-has
unfolding trans_num
returns-else-has c = rw (eq-eqb _ 2 c.if-node-ne-KIND_CHECK.false, sym c.is_privileged.ensures ∙ c.if-not-is_privileged.false, sym c.has.ensures ∙ c.if-has.false) (sym empty_code)
