-- A first row that is wrong ends it. Else its counts are in range, so that the arrays have places for as many nodes and edges. The node rows are read
-- first, and where one is wrong its refusal is the answer; else the edge rows follow where they end.
use Rattle.std.proofs.Common.{◌≡◌, refl, Some, sym, ◌∙◌, arith}
use Rattle.std.proofs.lemmas.Result.{err_from_is_err_and}
use Rattle.graph.specs.Graph.{Ranges}
use Rattle.records.specs.Records.{header_at}
use Rattle.records.specs.Records.Rows.{header_ranges}
use Rattle.text.specs.Text.Ends.{tail_by, parse_none, parse_stop, parse_past}
use Rattle.text.specs.Text.Slots.{nodes_read, edges_read}
use Rattle.text.proofs.parse.Goals.{In-Some}
use Rattle.text.proofs.parse.Goals as goal

-- what is known once the first row was read, and is right
module _ (c : In-Some) where
  header : header_at c.args.s.now c.args.from ≡ Some c.in-Some.header
  header = sym c.read_header.ensures ∙ c.in-Some.is

  ranges : Ranges c.in-Some.header.value
  ranges = header_ranges _ _ header

pub returns-in_default : goal.returns-in_default
returns-in_default c = parse_none _ _ _ (sym c.read_header.ensures ∙ c.in_default.is)

pub read_rows-requires : goal.read_rows-requires
read_rows-requires c =
    let r = ranges (goal.at.read_rows-requires c).In-Some in
    record { numbered = omega (arith, c.requires, r.n_high); room = r.n_high }

pub overflow_add-edge : goal.overflow_add-edge
overflow_add-edge c = let r = ranges (goal.at.overflow_add-edge c).In-Some in omega (arith, c.requires, r.n_high)

pub read_rows-ran-requires : goal.read_rows-ran-requires
read_rows-ran-requires c =
    let r = ranges (goal.at.read_rows-ran-requires c).In-Some in
    record { numbered = omega (arith, c.requires, r.n_high, r.m_high); room = r.m_high }

pub overflow_add-extra : goal.overflow_add-extra
overflow_add-extra c = let r = ranges (goal.at.overflow_add-extra c).In-Some in omega (arith, c.requires, r.n_high, r.m_high)

pub returns-in_err-past : goal.returns-in_err-past
returns-in_err-past c =
    let p = err_from_is_err_and c.from_residual.result c.from_residual.ensures.1 in
    rw (p.1, p.2) (parse_stop _ _ _ (header (goal.at.returns-in_err-past c).In-Some) c.in_err-past.ensures.answer refl)

pub returns : goal.returns
returns c =
    let e = edges_read c.read_rows-ran.ensures in
    parse_past _ _ _ (header (goal.at.returns c).In-Some) (nodes_read c.in_ok-past.ensures) refl (record { answer = c.end_text.ensures ∙ tail_by _ _ _ _ e.answer; so = e.so })
