-- What the calls return, taken together: after `solve` accepted a graph, `quick` by its sets returns on every reachable stack what `full`
-- does, after no more frames, and what `verdict` says of a check holds on every reachable stack with the check on top.
use Rattle.std.specs.Prelude.{ℕ, ◌≤◌, ◌≡◌, refl, List, ◌∷◌, true, false, length, Ok, Err}
use Rattle.std.proofs.Common.{sym, ◌∙◌}
use Rattle.truth.specs.Truth.Bools.{clash}
use Rattle.graph.specs.Graph.{Graph, check, Slices, Acceptable, Content}
use Rattle.graph.specs.Refusals.Laws.{numbered_one}
use Rattle.graph.specs.declared.Refusal.{Refusal}
use Rattle.solver.specs.Solve.{Solves, solved}
use Rattle.verdict.specs.Verdict.{SetsLong, Rules, given}
use Rattle.verdict.specs.declared.Finding.TheVariants.{AlwaysPasses, AlwaysFails, NeverReached}
use Rattle.machine.specs.declared.Inspection.{Inspection}
use Rattle.machine.specs.declared.Inspection.TheVariants as answer
use Rattle.stacks.specs.Machine.{rights_of, Inspected, stack_of, Reachable, Agrees, full}
use Rattle.stacks.proofs.Machine.Demand3.{demand3, always_passes, always_fails, never_reached, verdict_at_is}
use Rattle.machine.specs.Inspect.{Answer, SaysSo, passes, fails, FullAnswers, QuickAnswers}
use Rattle.machine.specs.Inspect.Laws.{refusal_one, refusal_not}

-- What quick returns is what full returns, after no more frames.
pub data Returns : (quick full : Answer) → Type 0 where
  pass : {a b : ℕ} → a ≤ b → Returns (Ok (answer.Passes a)) (Ok (answer.Passes b))
  fail : {a b : ℕ} → a ≤ b → Returns (Ok (answer.Fails a)) (Ok (answer.Fails b))
  refuse : {r : Refusal} → Returns (Err r) (Err r)

returns_by : {u v : Inspection} {x z : Inspected} → SaysSo u x → SaysSo v z → Agrees x z → Returns (Ok u) (Ok v)
returns_by passes passes h = pass h.frames
returns_by passes fails h = absurd (clash refl h.answer)
returns_by fails passes h = absurd (clash refl (sym h.answer))
returns_by fails fails h = fail h.frames

-- `solve` accepted the graph and stored these slices.
module _ (g : Graph) {before x : Slices} (stored : Solves g before (Ok tt) x) where
  content : Acceptable g × Content g x
  content = go stored
    where
      go : Solves g before (Ok tt) x → Acceptable g × Content g x
      go (solved l a c) = (a, c)

  long : SetsLong g.size.n (length x.denied) (length x.granted)
  long = record { denied_long = content.1.denied_stored.long; granted_long = content.1.granted_stored.long }

  -- `stack` holds a reachable stack under its height.
  module _ (stack : List ℕ) (height p : ℕ) (h : Reachable g (stack_of stack height)) where
    pub quick_returns_full : {q f : Answer} → QuickAnswers g x.denied x.granted stack height p q → FullAnswers g stack height p f → Returns q f
    quick_returns_full (QuickAnswers.sets d e) k = absurd (d long)
    quick_returns_full (QuickAnswers.refused {r = a} l d) (FullAnswers.refused {r = b} k) =
        rw (numbered_one a b (refusal_one g d k)) refuse
    quick_returns_full (QuickAnswers.refused l d) (FullAnswers.looked a f) = absurd (refusal_not g d a)
    quick_returns_full (QuickAnswers.looked l a q) (FullAnswers.refused d) = absurd (refusal_not g d a)
    quick_returns_full (QuickAnswers.looked l a q) (FullAnswers.looked b f) = returns_by q f (demand3 g a.acceptable x content.1 h p a.below)

  -- What `verdict` returned of the check n, on every reachable stack with n on top, of any height.
  module _ {n : ℕ} {r : List ℕ} (h : Reachable g (n ∷ r)) where
    pub told_always_passes : Rules g x.denied x.granted n (Ok AlwaysPasses) → (full (rights_of g) (check g n) (n ∷ r)).passes ≡ true
    told_always_passes (given v) = always_passes g v.acceptable x content.1 h v.at_check (verdict_at_is g v.acceptable x content.1 n ∙ sym v.number)

    pub told_always_fails : Rules g x.denied x.granted n (Ok AlwaysFails) → (full (rights_of g) (check g n) (n ∷ r)).passes ≡ false
    told_always_fails (given v) = always_fails g v.acceptable x content.1 h v.at_check (verdict_at_is g v.acceptable x content.1 n ∙ sym v.number)

    pub told_never_reached : Rules g x.denied x.granted n (Ok NeverReached) → ⊥
    told_never_reached (given v) = never_reached g v.acceptable x content.1 h v.at_check (verdict_at_is g v.acceptable x content.1 n ∙ sym v.number)
