use borrow.Author.Rules.{rules}
use borrow.Author.Tests.{tests}
use Rattle.truth.specs.Truth.Tests.{says_same, says_no, says_true, says_false}
use Rattle.round.proofs.ends_low.Goals as goal

pub returns-then-all_below : goal.returns-then-all_below
returns-then-all_below c =
    says_same c.all_below-then-all_below.ensures (λ p. record { few = search (rules, tests); starts = search (rules, says_true); ends = p }) (λ p. p.ends)

pub returns-else-all_below : goal.returns-else-all_below
returns-else-all_below c = says_no c.if-all_below.false (λ p. search (rules, says_false, tests))
