use Rattle.text.specs.Text.Slots.{end_start, end_out, end_stop, end_step, slot_start, slot_out, slot_stop, slot_step}
use Rattle.text.proofs.read_rows.Goals as goal

pub loop-i-init : goal.loop-i-init
loop-i-init g c = record { end = end_start _ _ _ _; slot = slot_start _ _ _ _ _ }

pub returns-in_default : goal.returns-in_default
returns-in_default g c =
    let h = c.loop-i-test.true in
    let v = c.loop-i.invariant in
    let w = rw c.read_row.ensures at c.in_default.is in
    record { answer = end_stop _ _ _ _ h w v.end; so = slot_stop _ _ _ v.slot h w }

pub loop-i-preserved : goal.loop-i-preserved
loop-i-preserved g c =
    let h = c.loop-i-test.true in
    let w = rw c.read_row.ensures at c.in-Some.is in
    let v = c.loop-i.invariant in
    record { end = end_step _ _ _ _ h w v.end; slot = rw c.put_row.ensures (slot_step _ _ _ v.slot h w) }

pub returns : goal.returns
returns g c =
    let h = c.loop-i-test.false in
    let v = c.loop-i.invariant in
    record { answer = end_out _ _ _ _ h v.end; so = slot_out _ _ _ v.slot h }
