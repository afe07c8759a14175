-- Past the judgement the step may be asked for (`may_be_asked`), and past the search for a place a rule leads there (`leads`).
use Rattle.std.specs.Prelude.{◌≡◌, Err}
use Rattle.std.proofs.Common.{arith, rules}
use Rattle.truth.specs.Truth.Tests.{says_true, says_false}
use Rattle.graph.specs.declared.Refusal.TheVariants.{NoRule}
use Rattle.graph.specs.Lent.{lent}
use Rattle.machine.specs.Inspect.Laws.{may_be_asked, refused_asking}
use Rattle.machine.specs.Steps.{RuleOf, Steps, StepRefuses}
use Rattle.machine.specs.Steps.Parts.{found, none_found}
use Rattle.machine.proofs.step.Goals.{In_ok-place}
use Rattle.machine.proofs.step.Goals as goal

leads : (c : In_ok-place) → RuleOf (lent c.args.graph.now) c.args.stack.now c.args.height c.args.next c.in_ok-place.place
leads c = found _ (rw c.in_ok-place.ensures.ok_part at c.find_place.ensures)

pub returns-in_err-judge_asked : goal.returns-in_err-judge_asked
returns-in_err-judge_asked c =
    let e : (c.from_residual.result ≡ Err c.in_err-judge_asked.field-0.0) = search rules in
    rw e (Steps.refused (StepRefuses.asks (refused_asking c.in_err-judge_asked.ensures)))

pub find_place-requires : goal.find_place-requires
find_place-requires c = may_be_asked c.in_ok-judge_asked.ensures

pub returns-in_err-place : goal.returns-in_err-place
returns-in_err-place c =
    let none = c.in_err-place.ensures.ok_part in
    let why = rw none at c.in_err-place.ensures.value in
    let e : (c.from_residual-in_err-place.result ≡ Err NoRule) = search rules in
    rw e (Steps.refused (StepRefuses.no_rule (may_be_asked c.in_ok-judge_asked.ensures) (none_found _ (rw none at c.find_place.ensures))))

pub top_denied-requires-clause-accepted : goal.top_denied-requires-clause-accepted
top_denied-requires-clause-accepted c = (may_be_asked c.in_ok-judge_asked.ensures).acceptable

pub returns-then-top_denied : goal.returns-then-top_denied
returns-then-top_denied c =
    Steps.refused
    (StepRefuses.check_denied
    (may_be_asked c.in_ok-judge_asked.ensures)
    (leads (goal.at.returns-then-top_denied c).In_ok-place)
    (says_true c.top_denied.ensures c.if-top_denied.true))

pub returns-then-stack-place : goal.returns-then-stack-place
returns-then-stack-place c =
    Steps.refused
    (StepRefuses.no_room
    (may_be_asked c.in_ok-judge_asked.ensures)
    (leads (goal.at.returns-then-stack-place c).In_ok-place)
    (says_false c.top_denied.ensures c.if-top_denied.false)
    (λ l. omega (arith, l, c.if-stack-place.true)))

pub returns : goal.returns
returns c =
    Steps.moved
    (may_be_asked c.in_ok-judge_asked.ensures)
    (leads (goal.at.returns c).In_ok-place)
    (says_false c.top_denied.ensures c.if-top_denied.false)
    c.if-stack-place.false
