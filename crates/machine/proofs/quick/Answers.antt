use mathlib.Core.Path.{◌≡◌, refl}
use Rattle.std.specs.Prelude.{Err}
use borrow.Author.Rules.{rules, lives}
use Rattle.truth.specs.Truth.Tests.{says_true, says_false}
use Rattle.stacks.specs.Machine.Inspections.{quick_bottom}
use Rattle.machine.specs.Inspect.{QuickAnswers}
use Rattle.machine.specs.Inspect.Laws.{may_be_asked, refused_asking}
use Rattle.machine.proofs.quick.Goals as goal

pub returns-then-not-sets_long : goal.returns-then-not-sets_long
returns-then-not-sets_long c = QuickAnswers.sets (says_false c.sets_long.ensures c.if-not-sets_long.true) refl

pub returns-in_err-judge_asked : goal.returns-in_err-judge_asked
returns-in_err-judge_asked c =
    let e : (c.from_residual.result ≡ Err c.in_err-judge_asked.field-0.0) = search rules in
    rw e (QuickAnswers.refused (says_true c.sets_long.ensures c.if-not-sets_long.false) (refused_asking c.in_err-judge_asked.ensures))

pub look-requires : goal.look-requires
look-requires c κs within =
    let l = says_true c.sets_long.ensures c.if-not-sets_long.false in
    let f = (may_be_asked c.in_ok-judge_asked.ensures).fits in (
      search (lives, within.0, within.1.0, within.1.1.0) depth 20 fits 20000,
      (
        f.held,
        record {
          asked = λ i h. let n = f.nodes i h in search rules;
          answered = λ i h v p. search rules;
          no_frame = quick_bottom _ _ _;
        },
      ),
    )

pub returns : goal.returns
returns c =
    QuickAnswers.looked (says_true c.sets_long.ensures c.if-not-sets_long.false) (may_be_asked c.in_ok-judge_asked.ensures) c.look.ensures
