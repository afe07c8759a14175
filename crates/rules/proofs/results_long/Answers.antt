use borrow.Author.Rules.{rules}
use borrow.Author.Tests.{tests}
use Rattle.truth.specs.Truth.Tests.{says_same, says_no, eq?}
use Rattle.rules.proofs.results_long.Goals as goal

pub returns-then-may-m : goal.returns-then-may-m
returns-then-may-m c = let h = c.if-may-m.true in says_same (eq? _ _) (λ s. record { denied_long = h.0; granted_long = h.1; may_long = h.2; sure_long = s }) (λ x. x.sure_long)

pub returns-else-may-m : goal.returns-else-may-m
returns-else-may-m c = says_no (search rules) (λ x. search (rules, tests))
