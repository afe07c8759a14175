-- The text is parsed into arrays of this function's own, so that the lent places are as they were until the graph is handed over.
use Rattle.std.proofs.Common.{refl}
use Rattle.std.proofs.lemmas.Result.{err_from_is_err_and}
use Rattle.text.specs.Text.Laws.{clear_room, slots_handed, wrong_tells, counted_tells}
use Rattle.text.proofs.read_sized.Goals as goal

pub parse-requires : goal.parse-requires
parse-requires c = c.requires.0

pub returns-in_err-size-clause-tells : goal.returns-in_err-size-clause-tells
returns-in_err-size-clause-tells c =
    let p = err_from_is_err_and c.from_residual.result c.from_residual.ensures.1 in
    rw (p.1, p.2) (wrong_tells _ _ _ c.in_err-size.ensures refl)

pub returns-in_err-hand_over-clause-tells : goal.returns-in_err-hand_over-clause-tells
returns-in_err-hand_over-clause-tells c =
    let p = err_from_is_err_and c.from_residual-in_err-hand_over.result c.from_residual-in_err-hand_over.ensures.1 in
    rw (p.1, p.2) (counted_tells _ _ _ c.in_ok-size.ensures refl (clear_room c.new-slots.ensures) c.requires.1 (slots_handed c.lent.result c.parse.new.into c.lent.ensures c.in_err-hand_over.ensures.handed) refl)

pub returns-clause-tells : goal.returns-clause-tells
returns-clause-tells c = counted_tells _ _ _ c.in_ok-size.ensures refl (clear_room c.new-slots.ensures) c.requires.1 (slots_handed c.lent.result c.parse.new.into c.lent.ensures c.in_ok-hand_over.ensures.handed) refl
