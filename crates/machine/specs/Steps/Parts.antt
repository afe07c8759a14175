-- The parts of a step: where it writes, and what an inspection's answer says of the check on top.
use Rattle.std.specs.Prelude.{ℕ, ◌<◌, ◌≤◌, ◌≡◌, refl, List, Bool, Option, Some, None, true, false, get_or}
use Rattle.std.specs.Bool.{then_some}
use Rattle.std.proofs.Common.{arith}
use Rattle.graph.specs.Graph.{Graph, Leads}
use Rattle.graph.specs.Refusals.{◌at◌}
use Rattle.stacks.specs.Machine.{Inspected}
use Rattle.machine.specs.declared.Inspection.TheVariants as inspection
use Rattle.machine.specs.Inspect.{SaysSo, passes, fails, Asks}
use Rattle.machine.specs.Steps.{top, lower, Rule, RuleOf, StepRefuses}

-- ---- where a step writes

pub data Placed (g : Graph) (stack : List ℕ) (height next : ℕ) : Option ℕ → Type 0 where
  somewhere : {place : ℕ} → RuleOf g stack height next place → Placed g stack height next (Some place)
  nowhere : ((place : ℕ) → RuleOf g stack height next place → ⊥) → Placed g stack height next None

module _ (g : Graph) {stack : List ℕ} {height next : ℕ} where
  -- none of the four rules leads to the next node
  pub no_rule : (height ≡ 0 → get_or g.nodes.entries next 0 ≡ 1 → ⊥)
      → (0 < height → get_or g.nodes.kinds (top stack height) 0 ≡ 0 → Leads g 0 (top stack height) next → ⊥)
      → (0 < height → get_or g.nodes.kinds (top stack height) 0 ≡ 2 → Leads g 1 (top stack height) next → ⊥)
      → (1 < height → get_or g.nodes.kinds (top stack height) 0 ≡ 1 → Leads g 1 (lower stack height) next → ⊥)
      → (place : ℕ) → RuleOf g stack height next place → ⊥
  no_rule e c p b _ (Rule.enter h t) = e h t
  no_rule e c p b _ (Rule.call h t l) = c h t l
  no_rule e c p b _ (Rule.pass h t l) = p h t l
  no_rule e c p b _ (Rule.back h t l) = b h t l

  -- a test of the one rule that may lead there
  pub placed_if : (p : ℕ) (v : Bool) → (v ≡ true → RuleOf g stack height next p) → (v ≡ false → (q : ℕ) → RuleOf g stack height next q → ⊥)
      → Placed g stack height next (then_some v p)
  placed_if p true y n = somewhere (y refl)
  placed_if p false y n = nowhere (n refl)

  pub found : {p : ℕ} → Placed g stack height next (Some p) → RuleOf g stack height next p
  found (somewhere u) = u

  pub none_found : Placed g stack height next None → (p : ℕ) → RuleOf g stack height next p → ⊥
  none_found (nowhere d) = d

  -- a rule writes at the height or below it
  pub place_low : {place : ℕ} → RuleOf g stack height next place → place ≤ height
  place_low (Rule.enter e t) = omega arith
  place_low (Rule.call h k j) = omega arith
  place_low (Rule.pass h k j) = omega arith
  place_low (Rule.back h k j) = omega arith

module _ {g : Graph} {stack : List ℕ} {height next : ℕ} where
  -- no rule leads to the next node
  pub no_place : (height ≡ 0 → get_or g.nodes.entries next 0 ≡ 1 → ⊥)
      → (0 < height → get_or g.nodes.kinds (top stack height) 0 ≡ 0 → Leads g 0 (top stack height) next → ⊥)
      → (0 < height → get_or g.nodes.kinds (top stack height) 0 ≡ 2 → Leads g 1 (top stack height) next → ⊥)
      → (1 < height → get_or g.nodes.kinds (top stack height) 0 ≡ 1 → Leads g 1 (lower stack height) next → ⊥)
      → Placed g stack height next None
  no_place e c p b = nowhere (no_rule g e c p b)

  -- a place that is found is at most the height
  pub placed_low : {p : ℕ} → Placed g stack height next (Some p) → p ≤ height
  placed_low u = place_low g (found g u)

pub nowhere_refuses : (g : Graph) {stack : List ℕ} {height next : ℕ} → Asks g (next < g.size.n) stack height → Placed g stack height next None → StepRefuses g stack height next (8 at 0)
nowhere_refuses g a (nowhere d) = StepRefuses.no_rule a d

-- ---- what an inspection's answer says

pub passes_says : {n : ℕ} {x : Inspected} → SaysSo (inspection.Passes n) x → x.passes ≡ true
passes_says passes = refl

pub fails_says : {n : ℕ} {x : Inspected} → SaysSo (inspection.Fails n) x → x.passes ≡ false
fails_says fails = refl
