use mathlib.Core.Path.{sym}
use Rattle.graph.specs.Graph.Code.{verdict_code}
use Rattle.verdict.proofs.judge_check.Goals as goal

pub returns-in-true-true : goal.returns-in-true-true
returns-in-true-true c = rw (c.in-true-true.is-0, c.in-true-true.is-1) (sym verdict_code.3)

pub returns-in-true-false : goal.returns-in-true-false
returns-in-true-false c = rw (c.in-true-false.is-0, c.in-true-false.is-1) (sym verdict_code.2)

pub returns-in-false-true : goal.returns-in-false-true
returns-in-false-true c = rw (c.in-false-true.is-0, c.in-false-true.is-1) (sym verdict_code.1)

pub returns-in-false-false : goal.returns-in-false-false
returns-in-false-false c = rw (c.in-false-false.is-0, c.in-false-false.is-1) (sym verdict_code.0)
