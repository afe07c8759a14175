use Rattle.std.proofs.Common.{refl, sym, get_or, arith}
use Rattle.scan.specs.Scan.Numbers.{number_small}
use Rattle.shortcuts.specs.Shortcuts.Short.{digit_is, numeral_first, numeral_more}
use Rattle.shortcuts.proofs.short_number.Goals as goal

pub loop-next-init : goal.loop-next-init
loop-next-init c = numeral_first refl (sym c.in_ok-value.ensures)

pub overflow_mul-value : goal.overflow_mul-value
overflow_mul-value c = let n = c.loop-next.invariant in omega (arith, number_small 4 n.digits _ n.number)

pub overflow_add-value : goal.overflow_add-value
overflow_add-value c = let n = c.loop-next.invariant in omega (arith, number_small 4 n.digits _ n.number, (digit_is (get_or c.args.s.now c.loop-next.next 0) (sym c.in-Some.ensures)).1)

pub loop-next-preserved : goal.loop-next-preserved
loop-next-preserved c = numeral_more c.loop-next.invariant (omega (arith, c.if-value-eq0.false)) (omega arith) refl (sym c.in-Some.ensures)
