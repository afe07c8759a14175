use Rattle.std.proofs.Common.{eqb-true}
use Rattle.shortcuts.specs.Shortcuts.Short.{let_through, short_at}
use Rattle.shortcuts.proofs.short_field.Goals as goal

pub returns : goal.returns
returns c = let_through _ _ c.then_some.ensures (λ t. short_at c.in_ok-value.ensures (eqb-true _ _ t))
