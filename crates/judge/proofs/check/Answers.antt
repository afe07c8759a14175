-- Each test that refuses nothing leaves a fact behind it: the slices have their shape, then every node obeys, then every edge. An answer joins the
-- facts of the tests before it.
use borrow.Author.Tests.{eqb-true}
use Rattle.std.proofs.Common.{true≢false, sym, ◌∙◌, eq-eqb, arith}
use Rattle.truth.specs.Truth.Tests.{says_true, says_false, finds_none, finds_low, finds_first}
use Rattle.graph.specs.Graph.{Shape}
use Rattle.graph.specs.Lent.{lent}
use Rattle.graph.specs.Judge.{shape, node, edge, entry, accepted, refused}
use Rattle.judge.proofs.check.Goals.{Else-not-has_shape}
use Rattle.judge.proofs.check.Goals as goal

shaped : (c : Else-not-has_shape) → Shape (lent c.args.graph.now)
shaped c = says_true (rw (c.lengths.ensures, c.lengths-2.ensures) at c.has_shape.ensures) c.if-not-has_shape.false

pub returns-then-not-has_shape : goal.returns-then-not-has_shape
returns-then-not-has_shape c = refused (shape (says_false (rw (c.lengths.ensures, c.lengths-2.ensures) at c.has_shape.ensures) c.if-not-has_shape.true))

pub returns-in-Some : goal.returns-in-Some
returns-in-Some c =
    refused (node (shaped (goal.at.returns-in-Some c).Else-not-has_shape) (finds_low c.in-Some.ensures) (finds_first c.in-Some.ensures))

pub first_bad_edge-requires : goal.first_bad_edge-requires
first_bad_edge-requires c = shaped (goal.at.first_bad_edge-requires c).Else-not-has_shape

pub returns-in-Some-first_bad_edge : goal.returns-in-Some-first_bad_edge
returns-in-Some-first_bad_edge c =
    let e = c.in-Some-first_bad_edge.ensures in
    refused (edge (shaped (goal.at.returns-in-Some-first_bad_edge c).Else-not-has_shape) (finds_none c.in_default.ensures) (finds_low e) (finds_first e))

pub returns-then-not-contains : goal.returns-then-not-contains
returns-then-not-contains c =
    let s = shaped (goal.at.returns-then-not-contains c).Else-not-has_shape in
    refused
    (entry s (finds_none c.in_default.ensures) (finds_none c.in_default-first_bad_edge.ensures)
    (λ i l e. true≢false (sym (eq-eqb _ 1 e) ∙ c.if-not-contains.ensures.cases i 0 (omega arith) (omega (arith, s.nodes.entries)))))

pub returns : goal.returns
returns c =
    let s = shaped (goal.at.returns c).Else-not-has_shape in
    let (i, l, e) = c.if-not-contains.ensures.cases in
    accepted (record { shape = s; nodes = finds_none c.in_default.ensures; edges = finds_none c.in_default-first_bad_edge.ensures; entered = (i, omega (arith, s.nodes.entries), eqb-true _ 1 (e 0)) })
