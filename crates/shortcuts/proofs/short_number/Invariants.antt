-- The digits read so far are a number.
use Rattle.scan.specs.Scan.{read_to}
use Rattle.shortcuts.specs.Shortcuts.Short.{Numeral}
use Rattle.shortcuts.proofs.short_number.Given as goal

abbrev pub invariant-loop-next : goal.invariant-loop-next
invariant-loop-next l = Numeral l.s l.at (read_to l.value l.next)
