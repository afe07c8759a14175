use borrow.Author.Rules.{rules}
use borrow.Author.Tests.{tests}
use Rattle.truth.specs.Truth.Tests.{says_same, says_no, le?}
use Rattle.rules.proofs.in_range.Goals as goal

pub returns-then-size-le-MOST_NODES : goal.returns-then-size-le-MOST_NODES
returns-then-size-le-MOST_NODES c = let h = c.if-size-le-MOST_NODES.true in says_same (le? _ _) (λ m. record { k_low = h.0; k_high = h.1; n_low = h.2; n_high = h.3; m_high = m }) (λ x. x.m_high)

pub returns-else-size-le-MOST_NODES : goal.returns-else-size-le-MOST_NODES
returns-else-size-le-MOST_NODES c = says_no (search rules) (λ x. search (rules, tests))
