use Rattle.std.specs.Prelude.{◌≡◌, ℕ, List, None, Some, IfSome}
use Rattle.std.specs.declared.option.Option.{Option}
use Rattle.std.proofs.Common.{Ok, sym, ap, ◌∙◌, subst}
use Rattle.verdicts.proofs.answer_input.Goals as goal

holds_of_known : (P : List ℕ → Type 0) (a : Option (List ℕ)) (t : List ℕ) → IfSome a (λ s. s ≡ t) → P t → IfSome a P
holds_of_known P None t e p = tt
holds_of_known P (Some s) t e p = subst P (sym e) p

pub returns-in-Ok-Whole : goal.returns-in-Ok-Whole
returns-in-Ok-Whole g c = λ quiet. holds_of_known _ _ _ (c.read_input.ensures.whole _ (c.in-Ok-Whole.is ∙ ap Ok c.in-Ok-Whole.field-0-is)) (c.print_answer.ensures quiet)
