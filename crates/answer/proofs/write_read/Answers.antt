use Rattle.answer.specs.Prints.Parts.{graph_read, nothing_read}
use Rattle.answer.proofs.write_read.Goals as goal

pub returns-in-Ok : goal.returns-in-Ok
returns-in-Ok c = rw c.in-Ok.is (graph_read (rw c.first_places.ensures at c.write_graph.ensures))

pub returns-in-Err : goal.returns-in-Err
returns-in-Err c = rw c.in-Err.is (nothing_read c.write_refusal.ensures)
