use Rattle.std.proofs.Common.{◌≡◌, ◌-◌}
use Rattle.text.specs.Text.Parts.{end_from}
use Rattle.text.specs.Text.Slots.{Slot}
use Rattle.text.proofs.read_rows.Given as goal

-- The rows from i on, read from where the text goes on, end where all of them do, and the places are on their way to what all of them say.
abbrev pub invariant-loop-i : goal.invariant-loop-i
invariant-loop-i g l = record {
  end : end_from (g.R.Rows.row_at l.s) l.first (l.count - l.i) l.at l.i ≡ end_from (g.R.Rows.row_at l.s) l.first l.count l.from 0;
  slot : Slot (g.R.Rows.row_at l.s) g.R.Rows.with_row l.count l.from l.initial.rows l.rows l.at l.i;
}
