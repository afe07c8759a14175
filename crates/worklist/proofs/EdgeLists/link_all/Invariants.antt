-- The edges below e are linked.
use mathlib.Core.Path.{◌≡◌}
use lib.ListN.{length}
use Rattle.worklist.specs.Worklist.{lists, link_to, SameLists}
use Rattle.worklist.proofs.EdgeLists.link_all.Given as goal

abbrev pub invariant-loop-e : goal.invariant-loop-e
invariant-loop-e l = record {
  head_long : length l.self.head.now ≡ length l.initial.self.head.now;
  prev_long : length l.self.prev.now ≡ length l.initial.self.prev.now;
  slices : SameLists l.initial.self l.self;
  linked : lists l.self.head.now l.self.prev.now ≡ link_to l.froms l.e (lists l.initial.self.head.now l.initial.self.prev.now);
}
