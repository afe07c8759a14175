use Rattle.std.specs.Prelude.{Err}
use Rattle.verdict.specs.Verdict.{refused, given, sets, graph, asked, no_check}
use Rattle.graph.specs.Judge.Laws.{accepted_is, refused_is}
use Rattle.truth.specs.Truth.Tests.{says_true, says_false}
use borrow.Author.Tests.{eq-eqb, ne_eqb}
use native.Mathlib.Omega.{arith}
use borrow.Author.Rules.{rules}
use mathlib.Core.Path.{◌≡◌}
use Rattle.verdict.proofs.verdict.Goals as goal

pub returns-then-not-sets_long : goal.returns-then-not-sets_long
returns-then-not-sets_long c = refused (sets (says_false c.sets_long.ensures c.if-not-sets_long.true))

pub returns-in_err-check : goal.returns-in_err-check
returns-in_err-check c =
    let e : (c.from_residual.result ≡ Err c.in_err-check.field-0.0) = search rules in
    rw e (refused (graph (says_true c.sets_long.ensures c.if-not-sets_long.false) (refused_is c.in_err-check.ensures)))

pub returns-then-n-node : goal.returns-then-n-node
returns-then-n-node c =
    refused
    (asked (says_true c.sets_long.ensures c.if-not-sets_long.false) (accepted_is c.in_ok-check.ensures) (λ h. omega arith))

pub returns-then-not-is_check : goal.returns-then-not-is_check
returns-then-not-is_check c =
    refused
    (no_check
    (says_true c.sets_long.ensures c.if-not-sets_long.false)
    (accepted_is c.in_ok-check.ensures)
    (omega arith)
    (ne_eqb _ 2 c.if-not-is_check.true))

pub returns : goal.returns
returns c =
    given {v = c.rule.result}
    (record {
      long = says_true c.sets_long.ensures c.if-not-sets_long.false;
      acceptable = accepted_is c.in_ok-check.ensures;
      below = omega arith;
      at_check = eq-eqb _ 2 c.if-not-is_check.false;
      number = c.rule.ensures;
    })
