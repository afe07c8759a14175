-- The members below p are listed.
use Rattle.std.proofs.Common.{◌≤◌}
use Rattle.writer.specs.Writer.{Puts}
use Rattle.members.specs.Members.{members_from}
use Rattle.members.proofs.list_members.Given as goal

abbrev pub invariant-loop-p : goal.invariant-loop-p
invariant-loop-p l = Puts (members_from l.set 0 l.p) l.initial.list 0 l.count l.list × (l.count ≤ l.p)
