use mathlib.Core.Path.{refl, sym, ap, ◌∙◌}
use native.Mathlib.Omega.{arith}
use borrow.Author.Rules.{rules}
use lib.Dec.{eqb}
use borrow.Author.Tests.{eqb-false}
use Rattle.std.proofs.lemmas.Iterator.Splits.{YieldsList-from_slice_split}
use Rattle.scan.specs.Scan.{held_of, words}
use Rattle.scan.specs.Scan.Lists.{list_none, going_start, going_end, going_not, going_low, going_next}
use Rattle.scan.specs.Scan.Numbers.{number_fits}
use Rattle.scan.proofs.list.Goals as goal

pub returns-then-is_empty : goal.returns-then-is_empty
returns-then-is_empty c = ap held_of (sym (list_none _ _ (search rules)))

pub loop-word-init : goal.loop-word-init
unfolding words
loop-word-init c =
    going_start (eqb-false _ 0 (sym c.is_empty.ensures ∙ c.if-is_empty.false))
    (YieldsList-from_slice_split _ (λ b. eqb b 32) c.args.s.now (search rules) (search rules) refl (λ x b q k. search rules)).runs

pub returns-in_err-v : goal.returns-in_err-v
returns-in_err-v c = c.from_residual.ensures ∙ sym (going_not {on = c.next.new.self} c.loop-word.invariant {word = c.in-Some.word} c.in-Some.ensures.steps (sym c.number.ensures ∙ c.in_err-v.was))

pub returns-then-v-low : goal.returns-then-v-low
returns-then-v-low c = sym (going_low {on = c.next.new.self} c.loop-word.invariant {word = c.in-Some.word} c.in-Some.ensures.steps (sym c.number.ensures ∙ c.in_ok-v.was) c.if-v-low.true)

pub overflow_add-low : goal.overflow_add-low
overflow_add-low c = omega (arith, number_fits _ _ _ (sym c.number.ensures ∙ c.in_ok-v.was))

pub loop-word-preserved : goal.loop-word-preserved
loop-word-preserved c =
    rw c.with-set.ensures
    (going_next {on = c.next.new.self} c.loop-word.invariant {word = c.in-Some.word} c.in-Some.ensures.steps (sym c.number.ensures ∙ c.in_ok-v.was) c.if-v-low.false)

pub returns : goal.returns
returns c = sym (going_end c.loop-word.invariant c.in-None.ensures.steps)
