use Rattle.flow.proofs.deny.Goals as goal

pub returns : goal.returns
returns c = rw (c.all.ensures, c.called.ensures) at c.without.ensures
