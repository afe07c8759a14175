use Rattle.sums.specs.Sums.Laws.{uncounted, counted_too}
use Rattle.sums.proofs.Sums.deliver.Goals as goal

pub returns-then-not-counted-clause-delivered : goal.returns-then-not-counted-clause-delivered
returns-then-not-counted-clause-delivered c = uncounted _ _ _ _ _ _ _ _ c.merge_at-more.ensures c.if-not-counted.true

pub returns-clause-delivered : goal.returns-clause-delivered
returns-clause-delivered c =
    counted_too _ _ _ _ _ _ _ _ c.merge_at-more.ensures c.if-not-counted.false _ _ c.merge_at-passing.ensures
