use Rattle.scan.specs.Scan.Lists.{Going}
use Rattle.scan.proofs.list.Given as goal

abbrev pub invariant-loop-word : goal.invariant-loop-word
invariant-loop-word l = Going goal.iterator-loop-word.next_gives l.most l.s l.word-iterator l.set l.low
