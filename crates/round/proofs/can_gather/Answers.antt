use borrow.Author.Rules.{rules}
use borrow.Author.Tests.{tests}
use Rattle.truth.specs.Truth.Tests.{says_same, says_no}
use Rattle.round.proofs.can_gather.Goals as goal

pub returns-then-tos-out : goal.returns-then-tos-out
returns-then-tos-out c =
    says_same c.all_below.ensures
    (λ p. record { few = search (rules, tests); checks_long = search (rules, tests); wide_long = search (rules, tests); out_long = search (rules, tests); ends = p }) (λ p. p.ends)

pub returns-else-tos-out : goal.returns-else-tos-out
returns-else-tos-out c = says_no c.if-tos-out.false (λ p. search (rules, tests))
