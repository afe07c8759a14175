-- One answer for every input.
use Rattle.std.specs.Prelude.{ℕ, ◌≡◌, refl, List, cond, Ok, Err}
use Rattle.std.proofs.Common.{sym, ◌∙◌, ap}
use Rattle.graph.specs.Graph.{Graph}
use Rattle.graph.specs.Refusals.{Numbered, numbered}
use Rattle.graph.specs.Refusals.Laws.{numbered_one}
use Rattle.graph.specs.Judge.Laws.{refuses_one, refuses_not}
use Rattle.graph.specs.declared.Refusal.{Refusal}
use Rattle.machine.specs.declared.Inspection.{Inspection}
use Rattle.machine.specs.declared.Inspection.TheVariants as answer
use Rattle.stacks.specs.Machine.{Inspected}
use Rattle.machine.specs.Inspect.{Answer, SaysSo, passes, fails, Asks, AskRefuses, graph, asked, stack, JudgesAsked, FullAnswers, QuickAnswers}

-- an answer that says so is fixed by what it says
answer_of : Inspected → Inspection
answer_of a = cond a.passes (answer.Passes a.looked) (answer.Fails a.looked)

said : {a : Inspection} {x : Inspected} → SaysSo a x → a ≡ answer_of x
unfolding answer_of
said passes = refl
said fails = refl

module _ (g : Graph) {low : Type 0} {s : List ℕ} {h : ℕ} where
  pub refusal_one : {x z : Numbered} → AskRefuses g low s h x → AskRefuses g low s h z → x ≡ z
  refusal_one (graph f) (graph k) = refuses_one g f k
  refusal_one (graph f) (asked a d) = absurd (refuses_not g f a)
  refusal_one (graph f) (stack a l d) = absurd (refuses_not g f a)
  refusal_one (asked a d) (graph f) = absurd (refuses_not g f a)
  refusal_one (asked a d) (asked b c) = refl
  refusal_one (asked a d) (stack b l c) = absurd (d l)
  refusal_one (stack a l d) (graph f) = absurd (refuses_not g f a)
  refusal_one (stack a l d) (asked b c) = absurd (c l)
  refusal_one (stack a l d) (stack b m c) = refl

  pub refusal_not : {x : Numbered} → AskRefuses g low s h x → Asks g low s h → ⊥
  refusal_not (graph f) a = refuses_not g f a.acceptable
  refusal_not (asked _ d) a = d a.below
  refusal_not (stack _ _ d) a = d a.fits

-- what the judgement of a call tells
module _ {g : Graph} {low : Type 0} {s : List ℕ} {h : ℕ} where
  pub may_be_asked : JudgesAsked g low s h (Ok tt) → Asks g low s h
  may_be_asked (JudgesAsked.may_ask a) = a

  pub refused_asking : {r : Refusal} → JudgesAsked g low s h (Err r) → AskRefuses g low s h (numbered r)
  refused_asking (JudgesAsked.refused f) = f

module _ (g : Graph) (s : List ℕ) (h p : ℕ) where
  pub full_one : {a b : Answer} → FullAnswers g s h p a → FullAnswers g s h p b → a ≡ b
  full_one (FullAnswers.refused {r = a} f) (FullAnswers.refused {r = b} k) = ap Err (numbered_one a b (refusal_one g f k))
  full_one (FullAnswers.refused f) (FullAnswers.looked a _) = absurd (refusal_not g f a)
  full_one (FullAnswers.looked a _) (FullAnswers.refused f) = absurd (refusal_not g f a)
  full_one (FullAnswers.looked _ x) (FullAnswers.looked _ z) = ap Ok (said x ∙ sym (said z))

  module _ (d a : List ℕ) where
    pub quick_one : {u v : Answer} → QuickAnswers g d a s h p u → QuickAnswers g d a s h p v → u ≡ v
    quick_one (QuickAnswers.sets {r = x} f e) (QuickAnswers.sets {r = z} k i) = ap Err (numbered_one x z (e ∙ sym i))
    quick_one (QuickAnswers.sets f e) (QuickAnswers.refused l k) = absurd (f l)
    quick_one (QuickAnswers.sets f e) (QuickAnswers.looked l _ _) = absurd (f l)
    quick_one (QuickAnswers.refused l k) (QuickAnswers.sets f e) = absurd (f l)
    quick_one (QuickAnswers.refused {r = x} _ f) (QuickAnswers.refused {r = z} _ k) = ap Err (numbered_one x z (refusal_one g f k))
    quick_one (QuickAnswers.refused _ f) (QuickAnswers.looked _ k _) = absurd (refusal_not g f k)
    quick_one (QuickAnswers.looked l _ _) (QuickAnswers.sets f e) = absurd (f l)
    quick_one (QuickAnswers.looked _ k _) (QuickAnswers.refused _ f) = absurd (refusal_not g f k)
    quick_one (QuickAnswers.looked _ _ x) (QuickAnswers.looked _ _ z) = ap Ok (said x ∙ sym (said z))
