use Rattle.answer.specs.Prints.Laws.{roomy_answers}
use Rattle.verdicts.proofs.answer_text.Goals as goal

pub returns : goal.returns
returns c =
    let room = c.places-into.ensures.room in
    roomy_answers (record { nodes = room.0; edges = room.1 }) c.write_answer.ensures.answers
