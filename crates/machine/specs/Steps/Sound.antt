-- The call takes steps of the rules, and every one of them that has a place in the slice.
use Rattle.std.specs.Prelude.{ℕ, ◌<◌, ◌+◌, ◌-◌, ◌≡◌, refl, List, ◌∷◌, true, length, get_or, set}
use Rattle.std.proofs.Common.{sym, ◌∙◌, ap, arith, eqb-true, eq-eqb}
use Rattle.truth.specs.Truth.Bools.{by_split, clash}
use Rattle.graph.specs.Graph.{Graph, kind, check}
use Rattle.std.specs.Prelude.{Ok}
use Rattle.stacks.specs.Machine.{rights_of, stack_of, full, Step, Reachable}
use Rattle.stacks.specs.Machine.Slices.{bare, written, topped, topped_twice, height_of, has_top, its_top, its_rest}
use Rattle.machine.specs.Inspect.{Asks}
use Rattle.machine.specs.Steps.{top, Rule, RuleOf, DeniedOf, Steps}

step_by : {g : Graph} {a b c d : List ℕ} → a ≡ c → b ≡ d → Step g c d → Step g a b
step_by p q s = rw (p, q) s

module _ (g : Graph) (st : List ℕ) (height next : ℕ) where
  passing : (DeniedOf g st height → ⊥) → 0 < height → kind g (top st height) ≡ 2 → (full (rights_of g) (check g (top st height)) (stack_of st height)).passes ≡ true
  passing d l c = by_split (full (rights_of g) (check g (top st height)) (stack_of st height)).passes (λ t. t) (λ f. absurd (d (record { framed = l; at_check = c; fails = f })))

  taken : {p : ℕ} → next < g.size.n → RuleOf g st height next p → (DeniedOf g st height → ⊥) → p < length st → Step g (stack_of st height) (stack_of (set st p next) (p + 1))
  taken {p} n (Rule.enter e t) d l = step_by (ap (stack_of st) e ∙ bare st) (written st next 0 l ∙ ap (λ r. next ∷ r) (bare st)) (Step.enter n (eq-eqb _ 1 t))
  taken n (Rule.call h k j) d l = step_by (topped st height h) (written st next height l ∙ ap (λ r. next ∷ r) (topped st height h)) (Step.call k j)
  taken n (Rule.pass h k j) d l = step_by (topped st height h) (written st next (height - 1) l) (Step.pass (eq-eqb _ 2 k) (rw (topped st height h) at (passing d h k)) j)
  taken n (Rule.back h k j) d l = step_by (topped_twice st height h) (written st next (height - 2) l) (Step.back k j)

  -- what the call returned and stored is a step
  pub step_sound : {h : ℕ} {after : List ℕ} → Steps g st height next (Ok h) after → Step g (stack_of st height) (stack_of after h)
  step_sound (Steps.moved k u d l) = taken k.below u d l

  -- so what the call makes of a reachable stack is reachable
  pub step_reaches : {h : ℕ} {after : List ℕ} → Reachable g (stack_of st height) → Steps g st height next (Ok h) after → Reachable g (stack_of after h)
  step_reaches r s = Reachable.then r (step_sound s)

-- ---- every step of the rules is one that the call takes, where the slice has the place

module _ (g : Graph) (st : List ℕ) (height : ℕ) where
  -- the step to the stack t, by the rule that the call follows
  pub record Can (t : List ℕ) : Type 0 where
    pub next : ℕ
    pub place : ℕ
    pub rule : RuleOf g st height next place
    pub allowed : DeniedOf g st height → ⊥
    pub leaves : next ∷ stack_of st place ≡ t

  no_check : {k : ℕ} → kind g (top st height) ≡ k → (k ≡ 2 → ⊥) → DeniedOf g st height → ⊥
  no_check e d c = d (sym e ∙ c.at_check)

  can : {s t : List ℕ} → Step g s t → s ≡ stack_of st height → Can t
  can (Step.enter {n} l e) q =
      let z : (height ≡ 0) = sym (height_of st height) ∙ sym (ap length q) in
      record { next = n; place = 0; rule = Rule.enter z (eqb-true _ 1 e); allowed = λ d. omega (arith, z, d.framed); leaves = ap (λ r. n ∷ r) (bare st) }
  can (Step.call {n} {t} {r} k j) q =
      let i = its_top st height q in
      let k' = rw i at k in
      record { next = t; place = height; rule = Rule.call (has_top st height q) k' (rw i at j); allowed = no_check k' (λ e. omega (arith, e)); leaves = ap (λ x. t ∷ x) (sym q) }
  can (Step.pass {n} {t} {r} c f j) q =
      let i = its_top st height q in
      let c' = eqb-true _ 2 (rw i at c) in
      record {
        next = t;
        place = height - 1;
        rule = Rule.pass (has_top st height q) c' (rw i at j);
        allowed = λ d. clash (rw (sym q, sym i) f) d.fails;
        leaves = ap (λ x. t ∷ x) (sym (its_rest st height q));
      }
  can (Step.back {u} {n} {t} {r} k j) q =
      let i = its_top st height q in
      let s = its_rest st height q in
      let k' = rw i at k in
      let low = has_top st (height - 1) s in
      let two : (height - 1 - 1 ≡ height - 2) = omega arith in
      record {
        next = t;
        place = height - 2;
        rule = Rule.back (omega (arith, low)) k' (rw (its_top st (height - 1) s ∙ ap (λ m. get_or st m 0) two) at j);
        allowed = no_check k' (λ e. omega (arith, e));
        leaves = ap (λ x. t ∷ x) (sym (its_rest st (height - 1) s ∙ ap (stack_of st) two));
      }

  pub step_complete : {t : List ℕ} → Step g (stack_of st height) t → Can t
  step_complete s = can s refl

  pub step_takes : {t : List ℕ} (s : Step g (stack_of st height) t) → Asks g ((step_complete s).next < g.size.n) st height → (step_complete s).place < length st
      → Steps g st height (step_complete s).next (Ok ((step_complete s).place + 1)) (set st (step_complete s).place (step_complete s).next)
      × (stack_of (set st (step_complete s).place (step_complete s).next) ((step_complete s).place + 1) ≡ t)
  step_takes s a l =
      let c = step_complete s in
      (Steps.moved a c.rule c.allowed l, written st c.next c.place l ∙ c.leaves)
