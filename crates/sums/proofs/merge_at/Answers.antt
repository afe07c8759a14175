use native.Mathlib.Omega.{arith}
use Rattle.sums.specs.Sums.Laws.{merges_none, merges_same, merges_new}
use Rattle.sums.proofs.merge_at.Goals as goal

pub returns-then-sums-b : goal.returns-then-sums-b
returns-then-sums-b c = merges_none _ _ _ _ c.if-sums-b.true

pub returns-then-more-sum : goal.returns-then-more-sum
returns-then-more-sum c = merges_same _ _ _ _ (omega (arith, c.if-sums-b.false)) _ c.merge-more.ensures c.if-more-sum.true

pub returns : goal.returns
returns c = merges_new _ _ _ _ (omega (arith, c.if-sums-b.false)) _ c.merge-more.ensures c.if-more-sum.false
