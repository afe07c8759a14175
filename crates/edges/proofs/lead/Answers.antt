use Rattle.truth.specs.Truth.{fails}
use Rattle.truth.specs.Truth.Tests.{says_same, says_true, says_false}
use Rattle.edges.specs.Leading.Search.{search_says}
use Rattle.edges.proofs.lead.Goals as goal

pub returns-then-not-edges_long : goal.returns-then-not-edges_long
returns-then-not-edges_long c = fails (λ l. says_false (rw c.lengths.ensures at c.edges_long.ensures) c.if-not-edges_long.true l.long)

pub first_joining-requires : goal.first_joining-requires
first_joining-requires c = says_true (rw c.lengths.ensures at c.edges_long.ensures) c.if-not-edges_long.false

pub returns : goal.returns
returns c =
    let long = says_true (rw c.lengths.ensures at c.edges_long.ensures) c.if-not-edges_long.false in
    says_same (search_says c.first_joining.ensures) (λ l. record { long = long; leads = l }) (λ l. l.leads)
