use Rattle.truth.specs.Truth.Tests.{eq?}
use Rattle.edges.specs.Leading.Search.{joins_says}
use Rattle.truth.specs.Truth.{fails}
use Rattle.edges.proofs.joins.Goals as goal

pub returns-then-from-a : goal.returns-then-from-a
returns-then-from-a c = fails (λ j. c.if-from-a.true j.starts)

pub returns-then-to-b : goal.returns-then-to-b
returns-then-to-b c = fails (λ j. c.if-to-b.true j.ends)

pub returns : goal.returns
returns c = joins_says c.if-from-a.false c.if-to-b.false (eq? _ _)
