use Rattle.std.proofs.Common.{◌≡◌, eq-eqb, ne_eqb, arith}
use Rattle.flow.specs.Walk.{edge_num}
use Rattle.flow.proofs.carry.Goals as goal

pub returns-in-0 : goal.returns-in-0
unfolding edge_num
returns-in-0 c = rw (eq-eqb _ 0 c.in-0.is) c.common-cut.ensures

pub returns-in_default : goal.returns-in_default
unfolding edge_num
returns-in_default c =
    let no_call : c.args.way ≡ 0 → ⊥ = λ e. omega arith in
    rw (ne_eqb _ 0 no_call)
