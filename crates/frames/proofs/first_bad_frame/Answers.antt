use Rattle.std.proofs.Common.{arith}
use Rattle.truth.specs.Truth.Tests.{passed_none, passed_more, passed_stop}
use Rattle.frames.proofs.first_bad_frame.Goals as goal

pub loop-i-init : goal.loop-i-init
loop-i-init c = passed_none

pub returns-then-n-from : goal.returns-then-n-from
returns-then-n-from c = passed_stop c.loop-i.invariant (λ h. omega (arith, h, c.if-n-from.true, c.from.ensures))

pub loop-i-preserved : goal.loop-i-preserved
loop-i-preserved c = passed_more c.loop-i.invariant c.loop-i-test.true (omega (arith, c.if-n-from.false, c.from.ensures))

pub returns : goal.returns
returns c = record { within = omega arith; before = λ i l. c.loop-i.invariant.before i (omega (arith, l, c.loop-i-test.false)); broken = λ l. absurd (omega (arith, l)) }
