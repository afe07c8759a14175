use Rattle.std.proofs.Common.{◌≡◌, eq-eqb, ne_eqb, arith}
use Rattle.flow.specs.Walk.{call_num}
use Rattle.flow.proofs.called.Goals as goal

pub returns-in-1 : goal.returns-in-1
unfolding call_num
returns-in-1 c = rw (eq-eqb _ 1 c.in-1.is)

pub returns-in_default : goal.returns-in_default
unfolding call_num
returns-in_default c =
    let unmarked : c.args.privileged ≡ 1 → ⊥ = λ e. omega arith in
    rw (ne_eqb _ 1 unmarked)
