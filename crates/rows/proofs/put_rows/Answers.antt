use Rattle.std.proofs.Common.{rules}
use Rattle.rows.specs.Result.Rows.{rows_none, rows_next}
use Rattle.rows.proofs.put_rows.Goals as goal

pub loop-node-init : goal.loop-node-init
loop-node-init c = rows_none _ _ _ _ (search rules)

pub loop-node-preserved : goal.loop-node-preserved
loop-node-preserved c = rows_next _ _ _ _ c.loop-node.node c.loop-node.invariant c.put_row.ensures
