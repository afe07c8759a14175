use borrow.Author.Rules.{rules}
use borrow.Author.Tests.{tests}
use Rattle.truth.specs.Truth.Tests.{says_same, says_no, eq?}
use Rattle.rules.proofs.edges_long.Goals as goal

pub returns-then-long-m-2 : goal.returns-then-long-m-2
returns-then-long-m-2 c = let h = c.if-long-m-2.true in says_same (eq? _ _) (λ w. record { froms = h.0; tos = h.1; ways = w }) (λ x. x.ways)

pub returns-else-long-m-2 : goal.returns-else-long-m-2
returns-else-long-m-2 c = says_no (search rules) (λ x. search (rules, tests))
