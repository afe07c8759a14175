use mathlib.Core.Path.{sym, ◌∙◌}
use Rattle.truth.specs.Truth.Bools.{by_split}
use Rattle.stacks.specs.Machine.Inspections.{quick_denies, quick_grants, quick_below}
use Rattle.machine.proofs.by_sets.Goals as goal

pub returns-then-fails : goal.returns-then-fails
returns-then-fails c r = quick_denies _ _ _ _ _ (sym c.has-fails.ensures ∙ c.if-fails.true)

pub returns : goal.returns
returns c r =
    let allowed = sym c.has-fails.ensures ∙ c.if-fails.false in
    by_split c.has.result
    (λ v. rw (c.then_some.ensures, v) (quick_grants _ _ _ _ _ allowed (sym c.has.ensures ∙ v)))
    (λ v. rw (c.then_some.ensures, v) (quick_below _ _ _ _ _ allowed (sym c.has.ensures ∙ v)))
