-- The numbers before this one are put, a space before each.
use Rattle.std.proofs.Common.{take}
use Rattle.writer.specs.Writer.{Adds}
use Rattle.members.specs.Members.{after_first}
use Rattle.members.proofs.put_rest.Given as goal

abbrev pub invariant-loop-p : goal.invariant-loop-p
invariant-loop-p l = Adds (after_first (take l.p-index l.list)) l.initial.out l.out
