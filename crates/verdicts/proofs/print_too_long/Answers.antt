use Rattle.std.proofs.Common.{rules}
use Rattle.answer.specs.Prints.Laws.{long_answers, long_part, long_fit}
use Rattle.verdicts.proofs.print_too_long.Goals as goal

pub unreachable-requires : goal.unreachable-requires
unreachable-requires g c = long_fit (long_answers (rw c.in_default.is at c.write_refusal.ensures)) (search rules)

pub print_for_long-requires : goal.print_for_long-requires
print_for_long-requires g c = long_part (long_answers (rw c.in-Ok.is at c.write_refusal.ensures))
