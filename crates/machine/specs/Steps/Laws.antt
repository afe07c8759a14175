-- At most one rule leads to a node; one answer and one content for every input.
use Rattle.std.specs.Prelude.{ℕ, ◌<◌, ◌+◌, ◌≡◌, refl, List, length, set}
use Rattle.std.proofs.Common.{ap, arith}
use Rattle.graph.specs.Graph.{Graph, PerEdge}
use Rattle.graph.specs.Refusals.{Numbered}
use Rattle.graph.specs.Refusals.Laws.{numbered_one}
use Rattle.machine.specs.Steps.{Stepped}
use Rattle.std.specs.Prelude.{Ok, Err}
use Rattle.machine.specs.Inspect.{Asks}
use Rattle.machine.specs.Inspect.Laws.{refusal_one, refusal_not}
use Rattle.machine.specs.Steps.{Rule, RuleOf, DeniedOf, StepRefuses, asks, no_rule, check_denied, no_room, Steps}

pub rule_one : {kinds entries : List ℕ} {m : ℕ} {x : PerEdge (List ℕ)} {st : List ℕ} {height next p q : ℕ} → Rule kinds entries m x st height next p → Rule kinds entries m x st height next q → p ≡ q
rule_one (Rule.enter e1 t1) (Rule.enter e2 t2) = refl
rule_one (Rule.enter e1 t1) (Rule.call l2 k2 j2) = absurd (omega (arith, e1, l2))
rule_one (Rule.enter e1 t1) (Rule.pass l2 k2 j2) = absurd (omega (arith, e1, l2))
rule_one (Rule.enter e1 t1) (Rule.back l2 k2 j2) = absurd (omega (arith, e1, l2))
rule_one (Rule.call l1 k1 j1) (Rule.enter e2 t2) = absurd (omega (arith, l1, e2))
rule_one (Rule.call l1 k1 j1) (Rule.call l2 k2 j2) = refl
rule_one (Rule.call l1 k1 j1) (Rule.pass l2 k2 j2) = absurd (omega (arith, k1, k2))
rule_one (Rule.call l1 k1 j1) (Rule.back l2 k2 j2) = absurd (omega (arith, k1, k2))
rule_one (Rule.pass l1 k1 j1) (Rule.enter e2 t2) = absurd (omega (arith, l1, e2))
rule_one (Rule.pass l1 k1 j1) (Rule.call l2 k2 j2) = absurd (omega (arith, k1, k2))
rule_one (Rule.pass l1 k1 j1) (Rule.pass l2 k2 j2) = refl
rule_one (Rule.pass l1 k1 j1) (Rule.back l2 k2 j2) = absurd (omega (arith, k1, k2))
rule_one (Rule.back l1 k1 j1) (Rule.enter e2 t2) = absurd (omega (arith, l1, e2))
rule_one (Rule.back l1 k1 j1) (Rule.call l2 k2 j2) = absurd (omega (arith, k1, k2))
rule_one (Rule.back l1 k1 j1) (Rule.pass l2 k2 j2) = absurd (omega (arith, k1, k2))
rule_one (Rule.back l1 k1 j1) (Rule.back l2 k2 j2) = refl

module _ (g : Graph) {st : List ℕ} {height next : ℕ} where
  step_refusal_one : {x z : Numbered} → StepRefuses g st height next x → StepRefuses g st height next z → x ≡ z
  step_refusal_one (asks f1) (asks f2) = refusal_one g f1 f2
  step_refusal_one (asks f1) (no_rule k2 d2) = absurd (refusal_not g f1 k2)
  step_refusal_one (asks f1) (check_denied k2 u2 e2) = absurd (refusal_not g f1 k2)
  step_refusal_one (asks f1) (no_room k2 u2 d2 m2) = absurd (refusal_not g f1 k2)
  step_refusal_one (no_rule k1 d1) (asks f2) = absurd (refusal_not g f2 k1)
  step_refusal_one (no_rule k1 d1) (no_rule k2 d2) = refl
  step_refusal_one (no_rule k1 d1) (check_denied k2 u2 e2) = absurd (d1 _ u2)
  step_refusal_one (no_rule k1 d1) (no_room k2 u2 d2 m2) = absurd (d1 _ u2)
  step_refusal_one (check_denied k1 u1 e1) (asks f2) = absurd (refusal_not g f2 k1)
  step_refusal_one (check_denied k1 u1 e1) (no_rule k2 d2) = absurd (d2 _ u1)
  step_refusal_one (check_denied k1 u1 e1) (check_denied k2 u2 e2) = refl
  step_refusal_one (check_denied k1 u1 e1) (no_room k2 u2 d2 m2) = absurd (d2 e1)
  step_refusal_one (no_room k1 u1 d1 m1) (asks f2) = absurd (refusal_not g f2 k1)
  step_refusal_one (no_room k1 u1 d1 m1) (no_rule k2 d2) = absurd (d2 _ u1)
  step_refusal_one (no_room k1 u1 d1 m1) (check_denied k2 u2 e2) = absurd (d1 e2)
  step_refusal_one (no_room k1 u1 d1 m1) (no_room k2 u2 d2 m2) = refl

  step_refusal_not : {x : Numbered} {p : ℕ} → StepRefuses g st height next x → Asks g (next < g.size.n) st height → RuleOf g st height next p → (DeniedOf g st height → ⊥) → p < length st → ⊥
  step_refusal_not (asks f) k u d l = refusal_not g f k
  step_refusal_not (no_rule _ e) k u d l = e _ u
  step_refusal_not (check_denied _ _ e) k u d l = d e
  step_refusal_not (no_room _ v _ m) k u d l = m (rw (rule_one v u) l)

  pub step_one : {r s : Stepped} {a b : List ℕ} → Steps g st height next r a → Steps g st height next s b → (r ≡ s) × (a ≡ b)
  step_one (Steps.refused {r = x} f) (Steps.refused {r = z} k) = (ap Err (numbered_one x z (step_refusal_one f k)), refl)
  step_one (Steps.refused f) (Steps.moved k u d l) = absurd (step_refusal_not f k u d l)
  step_one (Steps.moved k u d l) (Steps.refused f) = absurd (step_refusal_not f k u d l)
  step_one (Steps.moved {place = p} k u d l) (Steps.moved {place = q} _ v _ _) =
      let e = rule_one u v in
      (ap (λ i. Ok (i + 1)) e, ap (λ i. set st i next) e)
