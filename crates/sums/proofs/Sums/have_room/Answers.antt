use borrow.Author.Rules.{rules}
use borrow.Author.Tests.{tests}
use Rattle.truth.specs.Truth.Tests.{says_same, says_no, le?}
use Rattle.sums.proofs.Sums.have_room.Goals as goal

pub returns-then-n-nodes-2 : goal.returns-then-n-nodes-2
returns-then-n-nodes-2 c =
    says_same (le? _ _)
    (λ e. record { ins_long = search (rules, tests); past_long = search (rules, tests); checks_long = search (rules, tests); entries_long = search (rules, tests); grants_long = e })
    (λ p. p.grants_long)

pub returns-else-n-nodes-2 : goal.returns-else-n-nodes-2
returns-else-n-nodes-2 c = says_no c.if-n-nodes-2.false (λ p. search (rules, tests))
