-- Where the edges can't be sent, or the sums can't begin, nothing is stored; else the loop sends all.
use mathlib.Core.Path.{sym, ◌∙◌}
use Rattle.truth.specs.Truth.Bools.{clash}
use Rattle.truth.specs.Truth.Tests.{says_true, says_false}
use Rattle.round.specs.Round.{unsent}
use Rattle.round.specs.Round.Laws.{unbegun_by, gathered_by}
use Rattle.round.proofs.gather.Goals.{then-can_gather, else-can_gather}
use Rattle.round.proofs.gather.Goals as goal

pub gather_all-requires : goal.gather_all-requires
gather_all-requires c =
    elim c.if-can_gather.branch [
      | then-can_gather w ↦ says_true c.can_gather.ensures w.if-can_gather.true
      | else-can_gather w ↦ clash c.if-begun.true (w.begun-is ∙ w.if-can_gather.false)
    ]

pub returns-then-begun-clause-gathered : goal.returns-then-begun-clause-gathered
returns-then-begun-clause-gathered c =
    elim c.if-can_gather.branch [
      | then-can_gather w ↦ rw c.if-begun.true
          (gathered_by _ _ _ _ _ _ _ _ (says_true c.can_gather.ensures w.if-can_gather.true) (sym w.begun-is ∙ c.if-begun.true) w.begin-begun.ensures.begun
          (rw w.sums-is at c.gather_all.ensures.ins) (rw w.sums-is at c.gather_all.ensures.past))
      | else-can_gather w ↦ clash c.if-begun.true (w.begun-is ∙ w.if-can_gather.false)
    ]

pub returns-else-begun-clause-gathered : goal.returns-else-begun-clause-gathered
returns-else-begun-clause-gathered c =
    elim c.if-can_gather.branch [
      | then-can_gather w ↦ rw (c.if-begun.false, w.sums-is) (unbegun_by _ _ _ _ _ _ (sym w.begun-is ∙ c.if-begun.false) w.begin-begun.ensures.begun)
      | else-can_gather w ↦ rw (c.if-begun.false, w.sums-is) (unsent (says_false c.can_gather.ensures w.if-can_gather.false))
    ]
