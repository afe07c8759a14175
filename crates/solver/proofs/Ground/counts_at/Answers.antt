use Rattle.flow.specs.Walk.{judged_num}
use Rattle.solver.proofs.Ground.counts_at.Goals.{in-May, in-Sure}
use Rattle.solver.proofs.Ground.counts_at.Goals as goal

-- MAY doesn't look at `wide`
pub returns : goal.returns
unfolding judged_num
returns c =
    elim c.match-self.branch [
      | in-May w ↦ rw w.in-May.is (rw w.in-May.is at c.counts.ensures)
      | in-Sure w ↦ rw w.wide-is at c.counts.ensures
    ]
