-- The lengths of the places and of the text are looked at first: what is left is a text that may be read, and places with room.
use Rattle.std.proofs.Common.{◌≡◌, arith}
use Rattle.std.proofs.lemmas.Result.{err_from_is_err_and}
use Rattle.handover.specs.Handover.{places, Room}
use Rattle.text.specs.Text.{text_at, on_meaning, reading_from, refuses}
use Rattle.text.specs.Text.Laws.{sizes_told, sizes_refused, sizes_fit, tells_by}
use Rattle.text.proofs.read_from.Goals.{In_ok-judge_sizes}
use Rattle.text.proofs.read_from.Goals as goal

-- what is known once the lengths were accepted
module _ (c : In_ok-judge_sizes) where
  sizes : Room (places c.args.into.now) × (reading_from (places c.args.into.now) c.args.text.now c.args.from c.args.row ≡ on_meaning (text_at c.args.text.now c.args.from c.args.row))
  sizes = sizes_fit (places c.args.into.now) c.args.text.now c.args.from c.args.row (sizes_told (places c.args.into.now) c.lengths.ensures c.lengths-2.ensures c.in_ok-judge_sizes.ensures)

pub returns-in_err-judge_sizes-clause-tells : goal.returns-in_err-judge_sizes-clause-tells
returns-in_err-judge_sizes-clause-tells c =
    let p = err_from_is_err_and c.from_residual.result c.from_residual.ensures.1 in
    rw (p.1, p.2) (refuses (sizes_refused _ _ _ _ (sizes_told (places c.args.into.now) c.lengths.ensures c.lengths-2.ensures c.in_err-judge_sizes.ensures)))

pub read_sized-requires : goal.read_sized-requires
read_sized-requires c = (omega (arith, c.ranges.row), (sizes (goal.at.read_sized-requires c).In_ok-judge_sizes).0)

pub returns-clause-tells : goal.returns-clause-tells
returns-clause-tells c = tells_by (sizes (goal.at.returns-clause-tells c).In_ok-judge_sizes).1 c.read_sized.ensures.tells
