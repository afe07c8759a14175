-- Both sums are written for the nodes below i, and the rest is as it was.
use lib.ListN.{get_or}
use Rattle.worklist.specs.Worklist.Filled.{Filled}
use Rattle.flow.specs.Walk.{system_of, start_ins, start_past}
use Rattle.sums.specs.Sums.{SameSums}
use Rattle.sums.proofs.Sums.begin_all.Given as goal

abbrev pub invariant-loop-i : goal.invariant-loop-i
invariant-loop-i l =
    let x = l.nodes in record {
      slices : SameSums l.initial.self l.self;
      ins : Filled (λ j. start_ins (system_of l.system) l.k (get_or x.entries.now j 0) (get_or x.grants.now j 0)) l.n l.initial.self.ins.now l.self.ins.now l.i;
      past : Filled (λ j. start_past (system_of l.system) l.k (get_or x.entries.now j 0) (get_or x.grants.now j 0) (get_or x.checks.now j 0)) l.n l.initial.self.past.now l.self.past.now l.i;
    }
