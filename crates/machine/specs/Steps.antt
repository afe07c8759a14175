-- What `step` promises. Definitions alone: that it leaves one answer and one content, and that it takes the steps of the rules, is below.
pub mod Parts
pub mod Laws
pub mod Sound
pub mod Runs
use Rattle.std.specs.Prelude.{ℕ, ◌<◌, ◌+◌, ◌-◌, ◌≡◌, List, true, false, length, get_or, set}
use Rattle.graph.specs.Graph.{Graph, PerEdge, LeadsIn}
use Rattle.graph.specs.Refusals.{Numbered, ◌at◌, numbered}
use Rattle.graph.specs.declared.Refusal.{Refusal}
use Rattle.std.specs.Prelude.{Result, Ok, Err}
use Rattle.stacks.specs.Machine.{stack_of, Rights, rights_of, full}
use Rattle.machine.specs.Inspect.{Asks, AskRefuses}

-- The new height of the stack, or why there is none.
abbrev pub Stepped : Type 0
Stepped = Result ℕ Refusal

-- The node on top of the stack, and the node of the frame below it.
abbrev pub top : (stack : List ℕ) (height : ℕ) → ℕ
top stack height = get_or stack (height - 1) 0

abbrev pub lower : (stack : List ℕ) (height : ℕ) → ℕ
lower stack height = get_or stack (height - 2) 0

-- A rule leads to the next node, inspection set aside, and writes it at this place; the new height is one above the place. It looks at kinds,
-- entry marks and the first m edges.
module _ (kinds entries : List ℕ) (m : ℕ) (x : PerEdge (List ℕ)) (stack : List ℕ) (height next : ℕ) where
  pub data Rule : ℕ → Type 0 where
    enter : height ≡ 0 → get_or entries next 0 ≡ 1 → Rule 0
    call : 0 < height → get_or kinds (top stack height) 0 ≡ 0 → LeadsIn m x 0 (top stack height) next → Rule height
    pass : 0 < height → get_or kinds (top stack height) 0 ≡ 2 → LeadsIn m x 1 (top stack height) next → Rule (height - 1)
    back : 1 < height → get_or kinds (top stack height) 0 ≡ 1 → LeadsIn m x 1 (lower stack height) next → Rule (height - 2)

abbrev pub RuleOf : Graph → (stack : List ℕ) (height next place : ℕ) → Type 0
RuleOf g = Rule g.nodes.kinds g.nodes.entries g.size.m g.edges

-- The check on top is denied.
pub record Denied (kinds checks : List ℕ) (x : Rights) (stack : List ℕ) (height : ℕ) : Type 0 where
  pub framed : 0 < height
  pub at_check : get_or kinds (top stack height) 0 ≡ 2
  pub fails : (full x (get_or checks (top stack height) 0) (stack_of stack height)).passes ≡ false

abbrev pub DeniedOf : Graph → (stack : List ℕ) (height : ℕ) → Type 0
DeniedOf g = Denied g.nodes.kinds g.nodes.checks (rights_of g)

-- Refusals 1 to 6 as they are, then 8, 9 and 10.
pub data StepRefuses (g : Graph) (stack : List ℕ) (height next : ℕ) : Numbered → Type 0 where
  asks : {x : Numbered} → AskRefuses g (next < g.size.n) stack height x → StepRefuses g stack height next x
  no_rule : Asks g (next < g.size.n) stack height → ((place : ℕ) → RuleOf g stack height next place → ⊥) → StepRefuses g stack height next (8 at 0)
  check_denied : {place : ℕ} → Asks g (next < g.size.n) stack height → RuleOf g stack height next place → DeniedOf g stack height → StepRefuses g stack height next (9 at 0)
  no_room : {place : ℕ} → Asks g (next < g.size.n) stack height → RuleOf g stack height next place → (DeniedOf g stack height → ⊥) → (place < length stack → ⊥)
      → StepRefuses g stack height next (10 at 0)

-- The answer, and what the slice holds after it. A refusal writes nothing; a step writes one place.
pub data Steps (g : Graph) (stack : List ℕ) (height next : ℕ) : Stepped → List ℕ → Type 0 where
  refused : {r : Refusal} → StepRefuses g stack height next (numbered r) → Steps g stack height next (Err r) stack
  moved : {place : ℕ} → Asks g (next < g.size.n) stack height → RuleOf g stack height next place → (DeniedOf g stack height → ⊥) → place < length stack
      → Steps g stack height next (Ok (place + 1)) (set stack place next)
