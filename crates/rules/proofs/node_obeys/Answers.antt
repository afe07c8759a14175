use borrow.Author.Rules.{rules}
use borrow.Author.Tests.{tests}
use Rattle.std.proofs.Common.{arith}
use Rattle.truth.specs.Truth.Tests.{says_same, says_no, says_true, says_false}
use Rattle.rules.proofs.Laws.{within_says}
use Rattle.rules.proofs.node_obeys.Goals as goal

pub returns-then-check_obeys : goal.returns-then-check_obeys
returns-then-check_obeys c = says_same (within_says _ _ (omega arith) c.all.ensures c.within.ensures) (λ x. record { kind_known = search rules; check_below = search (rules, says_true); check_none = search (rules, says_true); privileged_mark = search rules; entry_mark = search rules; grants_below = x }) (λ r. r.grants_below)

pub returns-else-check_obeys : goal.returns-else-check_obeys
returns-else-check_obeys c = says_no c.if-check_obeys.false (λ r. search (rules, says_false, tests))
