use borrow.Author.Rules.{rules}
use borrow.Author.Tests.{tests}
use Rattle.truth.specs.Truth.Tests.{says_same, says_no, eq?}
use Rattle.rules.proofs.nodes_long.Goals as goal

pub returns-then-long-n-4 : goal.returns-then-long-n-4
returns-then-long-n-4 c = let (k, l, p, e) = c.if-long-n-4.true in says_same (eq? _ _) (λ g. record { kinds = k; checks = l; privileged = p; entries = e; grants = g }) (λ x. x.grants)

pub returns-else-long-n-4 : goal.returns-else-long-n-4
returns-else-long-n-4 c = says_no (search rules) (λ x. search (rules, tests))
