use borrow.Author.Rules.{rules}
use borrow.Author.Tests.{tests}
use Rattle.truth.specs.Truth.Tests.{says_same, says_no, le?}
use Rattle.round.proofs.have_room.Goals as goal

pub returns-then-m-graph : goal.returns-then-m-graph
returns-then-m-graph c =
    says_same (le? _ _)
    (λ e. record { checks_long = search (rules, tests); privileged_long = search (rules, tests); grants_long = search (rules, tests); any_long = search (rules, tests); ins_long = search (rules, tests); past_long = search (rules, tests); tos_long = search (rules, tests); ways_long = search (rules, tests); out_long = e })
    (λ p. p.out_long)

pub returns-else-m-graph : goal.returns-else-m-graph
returns-else-m-graph c = says_no c.if-m-graph.false (λ p. search (rules, tests))
