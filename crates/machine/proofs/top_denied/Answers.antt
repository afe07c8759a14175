use Rattle.std.proofs.Common.{arith}
use Rattle.truth.specs.Truth.{holds, fails}
use Rattle.truth.specs.Truth.Bools.{clash}
use Rattle.truth.specs.Truth.Tests.{says_same, eq?}
use Rattle.machine.specs.Steps.Parts.{passes_says, fails_says}
use Rattle.machine.proofs.top_denied.Goals as goal

pub returns-then-height-eq0 : goal.returns-then-height-eq0
returns-then-height-eq0 c = fails (λ d. omega (arith, d.framed))

pub returns-in-Fails : goal.returns-in-Fails
returns-in-Fails c = holds (record { framed = omega arith; at_check = c.if-nodes-top-eq-KIND_CHECK.true; fails = fails_says c.in-Fails.ensures })

pub returns-in_default : goal.returns-in_default
returns-in_default c = fails (λ d. clash (passes_says c.in_default.ensures) d.fails)

pub returns-else-nodes-top-eq-KIND_CHECK : goal.returns-else-nodes-top-eq-KIND_CHECK
returns-else-nodes-top-eq-KIND_CHECK c = says_same (eq? _ _) (λ e. absurd (c.if-nodes-top-eq-KIND_CHECK.false e)) (λ d. d.at_check)
