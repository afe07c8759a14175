-- Each way out of the function tests the one rule that may lead to the next node there.
use Rattle.std.proofs.Common.{arith, rules}
use borrow.Author.Tests.{eqb-true, eqb-false}
use Rattle.graph.specs.Lent.{lent}
use Rattle.edges.specs.Leading.Search.{leads_so, leads_not}
use Rattle.machine.specs.Steps.{Rule}
use Rattle.machine.specs.Steps.Parts.{nowhere, no_rule, placed_if}
use Rattle.machine.proofs.find_place.Goals as goal

pub returns-then-height-eq0 : goal.returns-then-height-eq0
returns-then-height-eq0 c =
    rw c.then_some.ensures
    (placed_if _ _ _
    (λ t. Rule.enter c.if-height-eq0.true (eqb-true _ 1 t))
    (λ f. no_rule (lent c.args.graph.now) (λ _ t. eqb-false _ 1 f t) (λ h _ _. omega arith) (λ h _ _. omega arith) (λ h _ _. omega arith)))

pub returns-in-0 : goal.returns-in-0
returns-in-0 c =
    rw c.then_some-in-0.ensures
    (placed_if _ _ _
    (λ t. Rule.call (omega arith) c.in-0.is (leads_so (search rules) t))
    (λ f.
    no_rule (lent c.args.graph.now) (λ h _. omega arith) (λ _ _. leads_not (search rules) c.requires.acceptable.shape.edges f) (λ _ k _. omega arith) (λ _ k _. omega arith)))

pub returns-in-2 : goal.returns-in-2
returns-in-2 c =
    rw c.then_some-in-2.ensures
    (placed_if _ _ _
    (λ t. Rule.pass (omega arith) c.in-2.is (leads_so (search rules) t))
    (λ f.
    no_rule (lent c.args.graph.now) (λ h _. omega arith) (λ _ k _. omega arith) (λ _ _. leads_not (search rules) c.requires.acceptable.shape.edges f) (λ _ k _. omega arith)))

pub returns-in-1 : goal.returns-in-1
returns-in-1 c =
    rw c.then_some-in-1.ensures
    (placed_if _ _ _
    (λ t. Rule.back c.if-height-ge2.true c.in-1.is (leads_so (search rules) t))
    (λ f.
    no_rule (lent c.args.graph.now) (λ h _. omega arith) (λ _ k _. omega arith) (λ _ k _. omega arith) (λ _ _. leads_not (search rules) c.requires.acceptable.shape.edges f)))

pub returns-in_default : goal.returns-in_default
returns-in_default c =
    nowhere
    (no_rule (lent c.args.graph.now) (λ h _. omega arith) (λ _ k _. omega arith) (λ _ k _. omega arith) (λ h _ _. omega arith))
