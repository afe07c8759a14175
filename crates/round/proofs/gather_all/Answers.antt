use mathlib.Core.Path.{◌∙◌, refl}
use Rattle.graph.specs.Lent.{lent}
use Rattle.flow.specs.Walk.{system_of}
use Rattle.round.specs.Round.{sums_to}
use Rattle.round.specs.Round.Laws.{gather_more}
use Rattle.round.proofs.gather_all.Goals as goal

pub loop-e-init : goal.loop-e-init
unfolding sums_to
loop-e-init c = record { slices = (refl, refl); ins = refl; past = refl }

pub loop-e-preserved : goal.loop-e-preserved
loop-e-preserved c =
    let a = c.args in
    let here = c.loop-e.invariant in
    let more = gather_more (lent a.graph.now) (system_of a.system) a.wide.now a.out.now _ _ c.loop-e.e _ _ _ _ _ _ c.counts-counted.ensures c.deliver.ensures.delivered here.ins here.past in
    record { slices = (c.deliver.ensures.slices.0 ∙ here.slices.0, c.deliver.ensures.slices.1 ∙ here.slices.1); ins = more.0; past = more.1 }
