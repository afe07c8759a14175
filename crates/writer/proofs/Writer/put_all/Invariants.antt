-- The bytes before this one are put.
use Rattle.std.proofs.Common.{take}
use Rattle.writer.specs.Writer.{Adds}
use Rattle.writer.proofs.Writer.put_all.Given as goal

abbrev pub invariant-loop-b : goal.invariant-loop-b
invariant-loop-b l = Adds (take l.b-index l.bytes) l.initial.self l.self
