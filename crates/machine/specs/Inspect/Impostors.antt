-- Quick inspections that the promise shuts out, at the worked gateway's stack 1 4 5 and permission 0: one that runs the full rule, and one that
-- invents its count. Demand 3 alone would admit the first.
use Rattle.std.specs.Prelude.{ℕ, ◌≡◌, refl, List, [], ◌∷◌, Ok}
use Rattle.std.proofs.Common.{◌∙◌, ap, arith}
use Rattle.graph.specs.Graph.{Slices, Content}
use Rattle.graph.specs.Graph.Gateway.{gateway}
use Rattle.machine.specs.declared.Inspection.TheVariants as answer
use Rattle.stacks.specs.Machine.{rights_of, Inspected, stack_of, full, quick}
use Rattle.stacks.proofs.Machine.Gateway.{full_at_5, quick_at_5}
use Rattle.machine.specs.Inspect.{SaysSo, passes, QuickAnswers}

count : {n : ℕ} {y : Inspected} → SaysSo (answer.Passes n) y → n ≡ y.looked
count passes = refl

module _ {x : Slices} (c : Content gateway x) (stack : List ℕ) (height : ℕ) (e : stack_of stack height ≡ 5 ∷ 4 ∷ 1 ∷ []) where
  -- one frame is looked at, and no other count is given
  pub never_another_count : {n : ℕ} → QuickAnswers gateway x.denied x.granted stack height 0 (Ok (answer.Passes n)) → n ≡ 1
  never_another_count (QuickAnswers.looked l a q) =
      count q ∙ ap (λ (s : List ℕ). (quick x.denied x.granted 0 s).looked) e ∙ ap (λ (y : Inspected). y.looked) (quick_at_5 c)

  -- so not the full rule's
  pub never_full_count : QuickAnswers gateway x.denied x.granted stack height 0 (Ok (answer.Passes (full (rights_of gateway) 0 (stack_of stack height)).looked)) → ⊥
  never_full_count q =
      let a : (full (rights_of gateway) 0 (stack_of stack height)).looked ≡ 2 = ap (λ (s : List ℕ). (full (rights_of gateway) 0 s).looked) e ∙ ap (λ (y : Inspected). y.looked) full_at_5 in
      let b = never_another_count q in
      omega (arith, a, b)
