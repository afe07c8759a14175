-- The rows of the nodes before this one are put.
use Rattle.writer.specs.Writer.{Adds}
use Rattle.rows.specs.Result.Shown.{shown_rows}
use Rattle.rows.proofs.put_rows.Given as goal

abbrev pub invariant-loop-node : goal.invariant-loop-node
invariant-loop-node l = Adds (shown_rows l.shown l.node) l.initial.out l.out
