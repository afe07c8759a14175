use mathlib.Core.Path.{sym, ◌∙◌}
use Rattle.truth.specs.Truth.Bools.{by_split}
use Rattle.stacks.specs.Machine.Inspections.{full_lacks, full_stops, full_below}
use Rattle.machine.proofs.by_rights.Goals as goal

pub returns-then-not-granted : goal.returns-then-not-granted
returns-then-not-granted c r = full_lacks _ _ _ _ (sym c.has-granted.ensures ∙ c.if-not-granted.true)

pub returns : goal.returns
returns c r =
    let own = sym c.has-granted.ensures ∙ c.if-not-granted.false in
    by_split c.is_privileged.result
    (λ v. rw (c.then_some.ensures, v) (full_stops _ _ _ _ own (sym c.is_privileged.ensures ∙ v)))
    (λ v. rw (c.then_some.ensures, v) (full_below _ _ _ _ own (sym c.is_privileged.ensures ∙ v)))
