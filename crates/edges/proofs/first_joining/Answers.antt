use Rattle.std.proofs.Common.{arith}
use Rattle.truth.specs.Truth.Tests.{passed_none, passed_more, passed_stop, says_true, says_false}
use Rattle.edges.proofs.first_joining.Goals as goal

pub loop-e-init : goal.loop-e-init
loop-e-init c = passed_none

pub returns-then-joins : goal.returns-then-joins
returns-then-joins c = passed_stop c.loop-e.invariant (λ d. d (says_true c.joins.ensures c.if-joins.true))

pub loop-e-preserved : goal.loop-e-preserved
loop-e-preserved c = passed_more c.loop-e.invariant c.loop-e-test.true (says_false c.joins.ensures c.if-joins.false)

pub returns : goal.returns
returns c = record { within = omega arith; before = λ i l. c.loop-e.invariant.before i (omega (arith, l, c.loop-e-test.false)); broken = λ l. absurd (omega (arith, l)) }
