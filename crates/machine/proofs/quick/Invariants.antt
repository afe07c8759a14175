use Rattle.stacks.specs.Machine.{quick}
use Rattle.machine.proofs.quick.Given as goal

abbrev pub ghost-look : goal.ghost-look
ghost-look a = quick a.decide.0.now.denied.now a.decide.0.now.granted.now a.decide.1.now
