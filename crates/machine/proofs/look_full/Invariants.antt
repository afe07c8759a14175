use Rattle.stacks.specs.Machine.{rights, full}
use Rattle.machine.proofs.look_full.Given as goal

abbrev pub ghost-look : goal.ghost-look
ghost-look a = full (rights a.decide.0.now.privileged.now a.decide.0.now.grants.now) a.decide.1.now
