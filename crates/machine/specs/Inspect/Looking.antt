-- An inspection of a slice, frame by frame from the top down: what the loop of `look` keeps, and its four ways on.
use Rattle.std.specs.Prelude.{ℕ, ◌+◌, ◌-◌, ◌<◌, ◌≤◌, ◌≡◌, List, [], ◌∷◌, Bool, true, false, get_or, Option, Some, None}
use Rattle.std.proofs.Common.{◌∙◌, ap, arith}
use Rattle.truth.specs.Truth.{All}
use Rattle.machine.specs.declared.Inspection.TheVariants as answer
use Rattle.stacks.specs.Machine.{Inspected, decided, below, bottom, stack_of}
use Rattle.stacks.specs.Machine.Slices.{bare, topped}
use Rattle.machine.specs.Inspect.{SaysSo, passes, fails}

-- What comes of a frame's answer v, where down is the answer of the frames below it.
abbrev pub decided_by : (v : Option Bool) (down : Inspected) → Inspected
decided_by (Some b) down = decided b
decided_by None down = below down

-- By the inspection `look` a frame of this node decides, or the frames below it do, as v says.
abbrev pub AtFrame : (look : List ℕ → Inspected) (node : ℕ) (v : Option Bool) → Type 0
AtFrame look node v = (r : List ℕ) → look (node ∷ r) ≡ decided_by v (look r)

-- What may be asked of every frame's node, and answers as the inspection `look` goes. Where no frame is left it passes.
pub record Decides (may_ask : ℕ → Type 0) (answers : ℕ → Option Bool → Type 0) (look : List ℕ → Inspected) (s : List ℕ) (height : ℕ) : Type 0 where
  pub asked : All (λ i. may_ask (get_or s i 0)) height
  pub answered : (i : ℕ) → i < height → (v : Option Bool) → answers (get_or s i 0) v → AtFrame look (get_or s i 0) v
  pub no_frame : look [] ≡ bottom

-- the answer a of the frames below, k frames having been looked at before them
abbrev pub further : ℕ → Inspected → Inspected
further k a = record { passes = a.passes; looked = k + a.looked }

-- Of the height frames the upper ones did not decide, and h are left: the answer from here is the answer from the start.
pub record Looking (look : List ℕ → Inspected) (s : List ℕ) (height h : ℕ) : Type 0 where
  pub left : h ≤ height
  pub same : look (stack_of s height) ≡ further (height - h) (look (stack_of s h))

abbrev pub looked_at : Bool → ℕ → Inspected
looked_at b n = record { passes = b; looked = n }

says_passes : {n : ℕ} {a : Inspected} → a ≡ looked_at true n → SaysSo (answer.Passes n) a
says_passes e = rw e passes

says_fails : {n : ℕ} {a : Inspected} → a ≡ looked_at false n → SaysSo (answer.Fails n) a
says_fails e = rw e fails

pub looking_start : (look : List ℕ → Inspected) (s : List ℕ) (height : ℕ) → Looking look s height height
looking_start look s height = record { left = omega arith; same = ap (looked_at (look (stack_of s height)).passes) (omega arith) }

-- The frame at place h - 1 is the next one.
module _ {look : List ℕ → Inspected} {s : List ℕ} {height h : ℕ} (l : Looking look s height h) (some : 0 < h) where
  next : {x : Inspected} → look (get_or s (h - 1) 0 ∷ stack_of s (h - 1)) ≡ x → look (stack_of s height) ≡ further (height - h) x
  next e = l.same ∙ ap (λ (x : List ℕ). further (height - h) (look x)) (topped s h some) ∙ ap (further (height - h)) e

  -- it decides
  here : {b : Bool} → look (get_or s (h - 1) 0 ∷ stack_of s (h - 1)) ≡ decided b → look (stack_of s height) ≡ looked_at b (height - h + 1)
  here e = next e

  pub looking_passes : look (get_or s (h - 1) 0 ∷ stack_of s (h - 1)) ≡ decided true → SaysSo (answer.Passes (height - h + 1)) (look (stack_of s height))
  looking_passes e = says_passes (here e)

  pub looking_fails : look (get_or s (h - 1) 0 ∷ stack_of s (h - 1)) ≡ decided false → SaysSo (answer.Fails (height - h + 1)) (look (stack_of s height))
  looking_fails e = says_fails (here e)

  -- the frames below it decide
  pub looking_below : look (get_or s (h - 1) 0 ∷ stack_of s (h - 1)) ≡ below (look (stack_of s (h - 1))) → Looking look s height (h - 1)
  looking_below e = record {
    left = omega (arith, l.left);
    same = next e ∙ ap (looked_at (look (stack_of s (h - 1))).passes) (omega (arith, l.left, some));
  }

  -- the same by what its node says, where the frames that were looked at are counted from the place
  counted : height - h + 1 ≡ height - (h - 1)
  counted = omega (arith, l.left, some)

  pub node_passes : AtFrame look (get_or s (h - 1) 0) (Some true) → SaysSo (answer.Passes (height - (h - 1))) (look (stack_of s height))
  node_passes a = says_passes (here (a (stack_of s (h - 1))) ∙ ap (looked_at true) counted)

  pub node_fails : AtFrame look (get_or s (h - 1) 0) (Some false) → SaysSo (answer.Fails (height - (h - 1))) (look (stack_of s height))
  node_fails a = says_fails (here (a (stack_of s (h - 1))) ∙ ap (looked_at false) counted)

  pub node_below : AtFrame look (get_or s (h - 1) 0) None → Looking look s height (h - 1)
  node_below a = looking_below (a (stack_of s (h - 1)))

-- no frame is left
pub looking_end : {look : List ℕ → Inspected} {s : List ℕ} {height h : ℕ} → Looking look s height h → h ≤ 0 → look [] ≡ bottom → SaysSo (answer.Passes height) (look (stack_of s height))
looking_end {look} {s} {height} {h} l none e =
    let out : h ≡ 0 = omega (arith, none) in
    says_passes (
    l.same ∙ ap (λ (x : ℕ). further (height - x) (look (stack_of s x))) out ∙ ap (λ (x : List ℕ). further (height - 0) (look x)) (bare s)
    ∙ ap (further (height - 0)) e ∙ ap (looked_at true) (omega arith)
    )
