-- Runs of the call: what calls of `step` one after the other make of a slice is reachable, and every reachable stack is made so, where the slice has room for the stacks
-- on the way. So `Reachable` is neither too wide nor too narrow.
use Rattle.std.specs.Prelude.{ℕ, suc, ◌+◌, ◌≤◌, ◌<◌, ◌≡◌, refl, List, [], length, get_or, set}
use Rattle.std.proofs.Common.{sym, ◌∙◌, ap, arith, length-set, get_or-set_same, get_or-set_other, below_more}
use Rattle.truth.specs.Truth.{All}
use Rattle.graph.specs.Graph.{Graph, Acceptable, Leads}
use Rattle.stacks.specs.Machine.{stack_of, Step, Reachable}
use Rattle.stacks.specs.Machine.Slices.{bare, height_of}
use Rattle.frames.specs.Frames.{Frame, StackFits}
use Rattle.std.specs.Prelude.{Ok}
use Rattle.machine.specs.Steps.{Steps}
use Rattle.machine.specs.Steps.Parts.{place_low}
use Rattle.machine.specs.Steps.Sound.{step_reaches, step_complete, step_takes}

module _ (g : Graph) (slice : List ℕ) where
  -- from the empty stack, call after call
  pub data Runs : (stack : List ℕ) (height : ℕ) → Type 0 where
    begin : Runs slice 0
    then : {stack after : List ℕ} {height new next : ℕ} → Runs stack height → Steps g stack height next (Ok new) after → Runs after new

  pub runs_reach : {stack : List ℕ} {height : ℕ} → Runs stack height → Reachable g (stack_of stack height)
  runs_reach begin = rw (bare slice) Reachable.empty
  runs_reach (then {stack} {after} {height} {new} {next} r s) = step_reaches g stack height next (runs_reach r) s

-- ---- the other way round

-- reachable by stacks of at most so many frames
pub data ReachableWithin (g : Graph) (room : ℕ) : List ℕ → Type 0 where
  empty : ReachableWithin g room []
  then : {s t : List ℕ} → ReachableWithin g room s → Step g s t → length t ≤ room → ReachableWithin g room t

-- every reachable stack is, in some room
wider : {g : Graph} {a b : ℕ} {t : List ℕ} → a ≤ b → ReachableWithin g a t → ReachableWithin g b t
wider h ReachableWithin.empty = ReachableWithin.empty
wider h (ReachableWithin.then r s l) = ReachableWithin.then (wider h r) s (omega arith)

pub within_some : {g : Graph} {t : List ℕ} → Reachable g t → (room : ℕ) × ReachableWithin g room t
within_some Reachable.empty = (0, ReachableWithin.empty)
within_some (Reachable.then {s} {t} r x) =
    let w = within_some r in
    (w.0 + length t, ReachableWithin.then (wider (omega arith) w.1) x (omega arith))

module _ (g : Graph) (acc : Acceptable g) where
  end_low : {k a b : ℕ} → Leads g k a b → b < g.size.n
  end_low j = rw (sym j.ends) (acc.edges j.number j.low).to_node

  -- a step leads to a node
  step_low : {s t : List ℕ} → Step g s t → get_or t 0 0 < g.size.n
  step_low (Step.enter l e) = l
  step_low (Step.call k j) = end_low j
  step_low (Step.pass c f j) = end_low j
  step_low (Step.back k j) = end_low j

  -- the frames below a place, with one node more on them
  more_frames : (stack : List ℕ) (height next place : ℕ) → All (Frame g.size.n stack) height → place ≤ height → place < length stack → next < g.size.n
      → All (Frame g.size.n (set stack place next)) (place + 1)
  more_frames stack height next place f h l n =
      below_more _ _ (λ j b. rw (get_or-set_other stack place j next 0 (λ z. omega arith)) (f j (omega arith))) (rw (get_or-set_same stack place next 0 l) n)

  module _ (slice : List ℕ) (few : length slice ≤ 1024) where
    -- a run of the call that makes the stack t
    pub record Made (t : List ℕ) : Type 0 where
      pub stack : List ℕ
      pub height : ℕ
      pub runs : Runs g slice stack height
      pub holds : stack_of stack height ≡ t
      pub long : length stack ≡ length slice
      pub fits : StackFits g.size.n stack height

    grown : {s t : List ℕ} → Made s → Step g s t → length t ≤ length slice → Made t
    grown {s} {t} m x l =
        let x' : Step g (stack_of m.stack m.height) t = rw m.holds x in
        let c = step_complete g m.stack m.height x' in
        let n : c.next < g.size.n = rw (ap (λ (r : List ℕ). get_or r 0 0) c.leaves) (step_low x) in
        let high : suc c.place ≡ length t = sym (ap suc (height_of m.stack c.place)) ∙ ap length c.leaves in
        let room : c.place < length m.stack = omega (arith, high, l, m.long) in
        let w = step_takes g m.stack m.height x' (record { acceptable = acc; below = n; fits = m.fits }) room in
        record {
          stack = set m.stack c.place c.next;
          height = c.place + 1;
          runs = Runs.then m.runs w.0;
          holds = w.1;
          long = length-set m.stack c.place c.next ∙ m.long;
          fits = record {
            slice = omega (arith, length-set m.stack c.place c.next, m.fits.slice);
            held = omega (arith, length-set m.stack c.place c.next, room);
            nodes = more_frames m.stack m.height c.next c.place m.fits.nodes (place_low g c.rule) room n;
          };
        }

    pub calls_reach : {t : List ℕ} → ReachableWithin g (length slice) t → Made t
    calls_reach ReachableWithin.empty = record {
      stack = slice;
      height = 0;
      runs = Runs.begin;
      holds = bare slice;
      long = refl;
      fits = record { slice = few; held = omega arith; nodes = λ i h. absurd (omega arith) };
    }
    calls_reach (ReachableWithin.then r x l) = grown (calls_reach r) x l
