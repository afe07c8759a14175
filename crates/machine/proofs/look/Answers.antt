use Rattle.std.proofs.Common.{arith}
use Rattle.machine.specs.Inspect.Looking.{looking_start, node_passes, node_fails, node_below, looking_end}
use Rattle.machine.proofs.look.Goals as goal

pub loop-i-init : goal.loop-i-init
loop-i-init g c = looking_start _ _ _

pub returns : goal.returns
returns g c = looking_end c.loop-i.invariant c.loop-i-test.false c.requires.1.1.no_frame

pub returns-in-Some-true : goal.returns-in-Some-true
returns-in-Some-true g c =
    node_passes c.loop-i.invariant c.loop-i-test.true
    (c.requires.1.1.answered _ (omega arith) _ (rw c.in-Some-true.field-0-test at c.in-Some-true.ensures))

pub returns-in-Some-false : goal.returns-in-Some-false
returns-in-Some-false g c =
    node_fails c.loop-i.invariant c.loop-i-test.true
    (c.requires.1.1.answered _ (omega arith) _ (rw c.in-Some-false.field-0-test at c.in-Some-false.ensures))

pub loop-i-preserved : goal.loop-i-preserved
loop-i-preserved g c =
    node_below c.loop-i.invariant c.loop-i-test.true
    (c.requires.1.1.answered _ (omega arith) _ c.in-None.ensures)
