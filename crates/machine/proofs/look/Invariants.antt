-- The loop's invariant: the answer from here is the answer from the start.
use Rattle.machine.specs.Inspect.Looking.{Looking}
use Rattle.machine.proofs.look.Given as goal

abbrev pub invariant-loop-i : goal.invariant-loop-i
invariant-loop-i g l = Looking g.rule l.stack l.height l.i
