use Rattle.truth.specs.Truth.Tests.{says_same, eq?}
use Rattle.verdict.proofs.sets_long.Goals as goal

pub returns-then-denied-n : goal.returns-then-denied-n
returns-then-denied-n c = says_same (eq? _ _) (λ e. record { denied_long = c.if-denied-n.true; granted_long = e }) (λ p. p.granted_long)

pub returns-else-denied-n : goal.returns-else-denied-n
returns-else-denied-n c = says_same (eq? _ _) (λ e. absurd (c.if-denied-n.false e)) (λ p. p.denied_long)
