use Rattle.std.proofs.Common.{refl, arith, lit<, [], ◌∷◌}
use Rattle.scan.specs.Scan.Bare.{none, byte, calm_above}
use Rattle.fields.specs.Fields.{says}
use Rattle.shortcuts.specs.Shortcuts.Short.{letter_stands, nothing_stands}
use Rattle.shortcuts.proofs.short_marks.Goals as goal

pub returns-in-80-eq69 : goal.returns-in-80-eq69
returns-in-80-eq69 c = record {
  bytes = 80 ∷ 69 ∷ [];
  stand = byte refl c.in-80-eq69.is-0 (calm_above (lit< tt)) (byte (omega arith) c.in-80-eq69.is-1 (calm_above (lit< tt)) none);
  said = unfold says in refl;
  near = omega arith;
}

pub returns-in-80-default : goal.returns-in-80-default
returns-in-80-default c = letter_stands {b = 80} (lit< tt) (unfold says in refl) c.in-80-default.is-0 refl

pub returns-in-69-default : goal.returns-in-69-default
returns-in-69-default c = letter_stands {b = 69} (lit< tt) (unfold says in refl) c.in-69-default.is-0 refl

pub returns-in_default : goal.returns-in_default
returns-in_default c = nothing_stands (unfold says in refl)
