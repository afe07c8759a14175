use Rattle.std.proofs.Common.{sym, arith}
use Rattle.fields.specs.Fields.Forms.{way}
use Rattle.records.specs.Records.Rows.{three_low}
use Rattle.records.proofs.read_edge.Goals as goal

pub overflow_cast-result : goal.overflow_cast-result
overflow_cast-result c = let low = three_low _ way _ _ (sym c.in_ok-three.ensures) in omega (arith, low.a_low, low.b_low)

pub overflow_cast-result-2 : goal.overflow_cast-result-2
overflow_cast-result-2 c = let low = three_low _ way _ _ (sym c.in_ok-three.ensures) in omega (arith, low.a_low, low.b_low)

pub overflow_cast-result-3 : goal.overflow_cast-result-3
overflow_cast-result-3 c = let low = three_low _ way _ _ (sym c.in_ok-three.ensures) in omega (arith, low.c_low)
