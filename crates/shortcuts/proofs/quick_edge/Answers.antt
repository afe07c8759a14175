use Rattle.std.proofs.Common.{arith}
use Rattle.truth.specs.Truth.Tests.{says_true}
use Rattle.lex.specs.declared.Mark.TheVariants.{Comma}
use Rattle.fields.specs.Fields.Forms.{number, way, form_below}
use Rattle.records.specs.Records.{edge_at, three_at}
use Rattle.shortcuts.specs.Shortcuts.Short.{end_row}
use Rattle.shortcuts.proofs.quick_edge.Goals as goal

pub overflow_cast-result : goal.overflow_cast-result
overflow_cast-result c = omega (arith, form_below number Comma _ _ c.in_ok-from.ensures.read)

pub overflow_cast-result-2 : goal.overflow_cast-result-2
overflow_cast-result-2 c = omega (arith, form_below number Comma _ _ c.in_ok-to.ensures.read)

pub overflow_cast-result-3 : goal.overflow_cast-result-3
overflow_cast-result-3 c = omega (arith, form_below way Comma _ _ c.in_ok-way.ensures.read)

pub returns : goal.returns
unfolding edge_at three_at
returns c =
    simp (
      c.in_ok-tag.ensures.read,
      c.in_ok-from.ensures.read,
      c.in_ok-to.ensures.read,
      c.in_ok-way.ensures.read,
      c.in_ok-empty.ensures.read,
      end_row (says_true c.ends_row.ensures c.if-not-ends_row.false),
    )
