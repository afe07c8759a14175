-- The sums are what the edges below e make of them, and keep their lengths.
use mathlib.Core.Path.{◌≡◌}
use Rattle.graph.specs.Lent.{lent}
use Rattle.flow.specs.Walk.{system_of}
use Rattle.sums.specs.Sums.{SameSums}
use Rattle.round.specs.Round.{ins_to, past_to}
use Rattle.round.proofs.gather_all.Given as goal

abbrev pub invariant-loop-e : goal.invariant-loop-e
invariant-loop-e l = record {
  slices : SameSums l.initial.sums l.sums;
  ins : l.sums.ins.now ≡ ins_to (lent l.graph) (system_of l.system) l.out l.e l.initial.sums.ins.now;
  past : l.sums.past.now ≡ past_to (lent l.graph) (system_of l.system) l.wide l.out l.e l.initial.sums.past.now;
}
