use Rattle.std.proofs.Common.{◌++◌, drop, ap, ◌∙◌}
use Rattle.handover.specs.Handover.Copies.{copied}
use Rattle.handover.proofs.copy.Goals as goal

pub returns : goal.returns
returns g c = ap (λ l. l ++ drop c.args.n c.args.to.now) c.copy_from_slice.ensures.after ∙ copied _ _ _ c.requires.0 c.requires.1
