-- What was read is handed on with the places that hold it.
use Rattle.answer.specs.Prints.Laws.{tells_held, reads_answers}
use Rattle.answer.proofs.write_answer.Goals as goal

pub write_read-requires : goal.write_read-requires
write_read-requires c = tells_held c.args.text.now c.read-reading.ensures.tells

pub returns-clause-answers : goal.returns-clause-answers
returns-clause-answers c = reads_answers c.args.text.now c.read-reading.ensures.tells c.write_read.ensures
