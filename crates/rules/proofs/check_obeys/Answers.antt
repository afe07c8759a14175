use Rattle.truth.specs.Truth.Tests.{says_same, lt?, eq?}
use Rattle.rules.proofs.check_obeys.Goals as goal

pub returns-then-kind-eq-KIND_CHECK : goal.returns-then-kind-eq-KIND_CHECK
returns-then-kind-eq-KIND_CHECK c = rw c.from.ensures (says_same (lt? _ _) (λ l. ((λ _. l), λ d. absurd (d c.if-kind-eq-KIND_CHECK.true))) (λ x. x.0 c.if-kind-eq-KIND_CHECK.true))

pub returns-else-kind-eq-KIND_CHECK : goal.returns-else-kind-eq-KIND_CHECK
returns-else-kind-eq-KIND_CHECK c = says_same (eq? _ _) (λ e. ((λ t. absurd (c.if-kind-eq-KIND_CHECK.false t)), λ _. e)) (λ x. x.1 c.if-kind-eq-KIND_CHECK.false)
