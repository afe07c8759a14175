-- What leaves the from node is by its places of the slices, so what the edge carries is `carried`.
use Rattle.round.proofs.out_of.Goals as goal

pub returns : goal.returns
returns c = let x = c.leave-leaving.ensures in rw (x.calls, x.moves) at c.carry.ensures
