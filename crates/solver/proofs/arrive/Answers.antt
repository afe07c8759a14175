use Rattle.flow.specs.Walk.Sent.{arrived}
use Rattle.sums.specs.Sums.Laws.{delivers_low}
use Rattle.solver.proofs.arrive.Goals as goal

pub returns : goal.returns
returns c =
    let place = c.requires in
    arrived _ _ _ _ _ _ _ _ _ _ _ _ _ _ _ (delivers_low _ _ _ _ _ _ _ _ _ place.0 place.1 c.deliver-changed.ensures.delivered) c.put.ensures.put
