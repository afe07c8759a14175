use borrow.Author.Tests.{eq-eqb, ne_eqb}
use Rattle.flow.proofs.counts.Goals as goal

pub returns-then-kind-eq-KIND_CHECK : goal.returns-then-kind-eq-KIND_CHECK
returns-then-kind-eq-KIND_CHECK c = rw (eq-eqb _ 2 c.if-kind-eq-KIND_CHECK.true, ← c.judged.ensures) c.has.ensures

pub returns-else-kind-eq-KIND_CHECK : goal.returns-else-kind-eq-KIND_CHECK
returns-else-kind-eq-KIND_CHECK c = rw (ne_eqb _ 2 c.if-kind-eq-KIND_CHECK.false)
