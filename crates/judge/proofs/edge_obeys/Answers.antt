use borrow.Author.Rules.{rules}
use borrow.Author.Tests.{tests}
use Rattle.truth.specs.Truth.Tests.{says_same, says_no}
use Rattle.judge.proofs.edge_obeys.Goals as goal

pub returns-then-to-graph : goal.returns-then-to-graph
returns-then-to-graph c =
    says_same c.ends_obey.ensures
    (λ h. record { from_node = search rules; to_node = search rules; ends = rw (← c.from-from.ensures, ← c.from-to.ensures) h })
    (λ r. rw (← c.from-from.ensures, ← c.from-to.ensures) at r.ends)

pub returns-else-to-graph : goal.returns-else-to-graph
returns-else-to-graph c = says_no c.if-to-graph.false (λ r. search (rules, tests))
