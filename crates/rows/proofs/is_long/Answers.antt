use Rattle.std.proofs.Common.{rules}
use Rattle.truth.specs.Truth.Tests.{says_same, says_no, eq?}
use borrow.Author.Tests.{tests}
use Rattle.rows.proofs.is_long.Goals as goal

pub returns-then-denied-n : goal.returns-then-denied-n
returns-then-denied-n c =
    let (many, few, k, s, d) = c.if-denied-n.true in
    says_same (eq? _ _) (λ g. record { many = many; few = few; kinds_long = k; checks_long = s; denied_long = d; granted_long = g }) (λ x. x.granted_long)

pub returns-else-denied-n : goal.returns-else-denied-n
returns-else-denied-n c = says_no (search rules) (λ x. search (rules, tests))
