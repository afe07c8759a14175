use borrow.Author.Rules.{rules}
use borrow.Author.Tests.{tests}
use Rattle.truth.specs.Truth.Tests.{says_same, says_no}
use Rattle.worklist.proofs.EdgeLists.can_link.Goals as goal

pub returns-then-froms-self : goal.returns-then-froms-self
returns-then-froms-self c =
    says_same c.all_below.ensures (λ p. record { room = search (rules, tests); few = search (rules, tests); starts = p }) (λ p. p.starts)

pub returns-else-froms-self : goal.returns-else-froms-self
returns-else-froms-self c = says_no c.if-froms-self.false (λ p. search (rules, tests))
