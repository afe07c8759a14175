use Rattle.answer.specs.Prints.Laws.{answers_part, answers_fit}
use Rattle.verdicts.proofs.print_from.Goals as goal

pub returns-in_default-clause-long_enough : goal.returns-in_default-clause-long_enough
returns-in_default-clause-long_enough g c = λ long. absurd (answers_fit c.args.text.now (rw c.in_default.is at c.answer_text.ensures) long)

pub print-requires : goal.print-requires
print-requires g c = answers_part (rw c.in-Ok.is at c.answer_text.ensures)
