use Rattle.std.specs.Prelude.{◌≡◌, Err}
use Rattle.std.proofs.Common.{arith, rules}
use Rattle.graph.specs.Judge.Laws.{accepted_is, refused_is}
use Rattle.truth.specs.Truth.Tests.{says_true, says_false}
use Rattle.machine.specs.Inspect.{JudgesAsked, graph, asked, stack}
use Rattle.machine.proofs.judge_asked.Goals as goal

pub returns-in_err-check : goal.returns-in_err-check
returns-in_err-check c =
    let e : (c.from_residual.result ≡ Err c.in_err-check.field-0.0) = search rules in
    rw e (JudgesAsked.refused (graph (refused_is c.in_err-check.ensures)))

pub returns-then-limit-asked : goal.returns-then-limit-asked
returns-then-limit-asked c = JudgesAsked.refused (asked (accepted_is c.in_ok-check.ensures) (λ h. omega arith))

pub returns-then-not-stack_fits : goal.returns-then-not-stack_fits
returns-then-not-stack_fits c =
    JudgesAsked.refused (stack (accepted_is c.in_ok-check.ensures) (omega arith) (says_false c.stack_fits.ensures c.if-not-stack_fits.true))

pub returns : goal.returns
returns c =
    JudgesAsked.may_ask
    (record {
      acceptable = accepted_is c.in_ok-check.ensures;
      below = omega arith;
      fits = says_true c.stack_fits.ensures c.if-not-stack_fits.false;
    })
