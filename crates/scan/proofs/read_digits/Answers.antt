use mathlib.Core.Path.{◌≡◌, sym, ◌∙◌}
use mathlib.Core.Bool.{true}
use lib.ListN.{get_or}
use Rattle.std.specs.Char.{is_ascii_digit}
use native.Mathlib.Omega.{arith}
use Rattle.scan.specs.Scan.Numbers.{digits_step, digits_not, digits_out, digit_most, ten_small, ten_step}
use Rattle.scan.proofs.read_digits.Goals as goal

pub returns-then-not-is_ascii_digit : goal.returns-then-not-is_ascii_digit
returns-then-not-is_ascii_digit c =
    let l = c.loop-b in
    sym (digits_not l.v c.args.s.now l.b-index c.loop-b-test.true (sym c.is_ascii_digit.ensures.value ∙ c.if-not-is_ascii_digit.true)) ∙ l.invariant.0

pub overflow_mul-v : goal.overflow_mul-v
overflow_mul-v c = omega (arith, ten_small c.loop-b.b-index (omega arith))

pub overflow_add-v : goal.overflow_add-v
overflow_add-v c = omega (arith, ten_small c.loop-b.b-index (omega arith))

digit_here : (c : goal.After-from) → is_ascii_digit (get_or c.args.s.now c.loop-b.b-index 0) ≡ true
digit_here c = sym c.is_ascii_digit.ensures.value ∙ c.if-not-is_ascii_digit.false

pub loop-b-preserved : goal.loop-b-preserved
loop-b-preserved c =
    let l = c.loop-b in
    let s = c.args.s.now in (
      rw c.from.ensures (sym (digits_step l.v s l.b-index c.loop-b-test.true (digit_here c)) ∙ l.invariant.0),
      rw (ten_step l.b-index) (omega (arith, c.from.ensures, digit_most (get_or c.args.s.now c.loop-b.b-index 0) (digit_here c))),
    )

pub returns : goal.returns
returns c =
    let l = c.loop-b in
    sym (digits_out l.v c.args.s.now l.b-index (omega arith)) ∙ l.invariant.0
