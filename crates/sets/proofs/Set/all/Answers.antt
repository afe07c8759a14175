use Rattle.sets.specs.Sets.Code.{all_code, all_code_past}
use Rattle.truth.specs.Truth.Kit.{shl_one}
use native.Mathlib.Omega.{arith}
use lib.Pow.{pow_pos}
use Rattle.sets.proofs.Set.all.Goals as goal

pub overflow_sub-result : goal.overflow_sub-result
overflow_sub-result c = omega (arith, shl_one c.args.k c.if-k-lt-LIMIT.true, pow_pos c.args.k)

pub returns-then-k-lt-LIMIT : goal.returns-then-k-lt-LIMIT
returns-then-k-lt-LIMIT c = all_code _ c.if-k-lt-LIMIT.true

pub returns-else-k-lt-LIMIT : goal.returns-else-k-lt-LIMIT
returns-else-k-lt-LIMIT c = all_code_past _ c.if-k-lt-LIMIT.false
