use Rattle.std.proofs.Common.{◌≡◌, eq-eqb, ne_eqb, arith}
use Rattle.flow.specs.Walk.{start_ins}
use Rattle.flow.proofs.first_sum.Goals as goal

pub returns-in-1 : goal.returns-in-1
unfolding start_ins
returns-in-1 c = rw (eq-eqb _ 1 c.in-1.is)

pub returns-in_default : goal.returns-in_default
unfolding start_ins
returns-in_default c =
    let unmarked : c.args.entry.mark ≡ 1 → ⊥ = λ e. omega arith in
    rw (ne_eqb _ 1 unmarked) c.start.ensures
