use Rattle.flow.specs.Walk.{start_past}
use mathlib.Core.Path.{sym, ◌∙◌}
use borrow.Author.Tests.{eq-eqb, ne_eqb}
use Rattle.flow.proofs.first_passing.Goals.{else-entry-eq-MARKED-via-then-entry-eq-MARKED+else-has, else-entry-eq-MARKED-via-else-entry-eq-MARKED}
use Rattle.flow.proofs.first_passing.Goals as goal

pub returns-then-has : goal.returns-then-has
unfolding start_past
returns-then-has c = rw (eq-eqb _ 1 c.if-entry-eq-MARKED.true, sym c.has.ensures ∙ c.if-has.true)

pub returns-else-entry-eq-MARKED : goal.returns-else-entry-eq-MARKED
unfolding start_past
returns-else-entry-eq-MARKED c =
    elim c.else-entry-eq-MARKED.branch [
      | else-entry-eq-MARKED-via-then-entry-eq-MARKED+else-has w ↦ rw (eq-eqb _ 1 w.if-entry-eq-MARKED.true, sym w.has.ensures ∙ w.if-has.false) c.start.ensures
      | else-entry-eq-MARKED-via-else-entry-eq-MARKED w ↦ rw (ne_eqb _ 1 w.if-entry-eq-MARKED.false) c.start.ensures
    ]
