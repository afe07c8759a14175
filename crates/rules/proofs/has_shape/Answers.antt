use borrow.Author.Rules.{rules}
use Rattle.truth.specs.Truth.Tests.{says_same, says_no, says_true, says_false}
use Rattle.rules.proofs.has_shape.Goals as goal

pub returns-then-nodes_long : goal.returns-then-nodes_long
returns-then-nodes_long c = says_same c.edges_long.ensures (λ e. record { ranges = search (rules, says_true); nodes = search (rules, says_true); edges = e }) (λ s. s.edges)

pub returns-else-nodes_long : goal.returns-else-nodes_long
returns-else-nodes_long c = says_no c.if-nodes_long.false (λ s. search (rules, says_false))
