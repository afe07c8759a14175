use Rattle.truth.specs.Truth.Tests.{says_same, eq?}
use Rattle.shortcuts.proofs.ends_row.Goals as goal

pub returns-then-s-at-eq13 : goal.returns-then-s-at-eq13
returns-then-s-at-eq13 c = says_same (eq? _ _) (λ h. record { cr = c.if-s-at-eq13.true; lf = h }) (λ r. r.lf)

pub returns-else-s-at-eq13 : goal.returns-else-s-at-eq13
returns-else-s-at-eq13 c = says_same (eq? _ _) (λ h. absurd (c.if-s-at-eq13.false h)) (λ r. r.cr)
