use Rattle.std.proofs.Common.{sym, arith}
use Rattle.records.specs.Records.Rows.{lead_low}
use Rattle.shortcuts.proofs.read_node.Goals as goal

pub overflow_cast-value : goal.overflow_cast-value
overflow_cast-value c = omega (arith, (lead_low _ _ _ (sym c.in_ok-lead.ensures)).kind_low)

pub overflow_cast-value-in-Held : goal.overflow_cast-value-in-Held
overflow_cast-value-in-Held c = omega (arith, (lead_low _ _ _ (sym c.in_ok-lead.ensures)).check_low)

pub overflow_cast-value-in-Held-3 : goal.overflow_cast-value-in-Held-3
overflow_cast-value-in-Held-3 c = omega (arith, (lead_low _ _ _ (sym c.in_ok-lead.ensures)).marks_low)
