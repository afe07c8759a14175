use Rattle.std.specs.Prelude.{◌≡◌, ℕ, suc, ◌-◌, ◌≤◌, ◌<◌, Bool, true, false, cond, List, length, get_or, refl}
use Rattle.std.proofs.Common.{◌∙◌, ap, arith, length-set}
use Rattle.graph.specs.Graph.{System}
use Rattle.worklist.specs.Worklist.Linking.{last_le}
use Rattle.flow.specs.Walk as walk
use Rattle.flow.specs.Walk.{State, push, into}
use Rattle.flow.specs.Walk.Sent.{sent_all, sent_one}
use Rattle.solver.specs.declared.Ground.{Ground}
use Rattle.solver.specs.Walks.{Walkable}
use Rattle.solver.proofs.send.Goals.{After-from-next-in-Some}
use Rattle.solver.proofs.send.Goals as goal

-- ---- the sums keep their lengths where a set arrives

pushed : (s q d st : List ℕ) (top b : ℕ) (new : Bool) → ((push s q d st top b new).ins ≡ s) × ((push s q d st top b new).past ≡ q)
unfolding push
pushed s q d st top b true = (refl, refl)
pushed s q d st top b false = (refl, refl)

kept : (y : System) (b v : ℕ) (counted : Bool) (x z : State) → z ≡ walk.arrive y x b v counted → (length z.ins ≡ length x.ins) × (length z.past ≡ length x.past)
unfolding walk.arrive
kept y b v counted x z e = (
  ap (λ (a : State). length a.ins) e ∙ ap length (pushed _ _ _ _ _ _ _).0 ∙ length-set _ _ _,
  ap (λ (a : State). length a.past) e ∙ ap length (pushed _ _ _ _ _ _ _).1 ∙ past counted,
)
  where
    past : (t : Bool) → length (cond t (into y x.past b v) x.past) ≡ length x.past
    past true = length-set _ _ _
    past false = refl

-- ---- a turn: its edge is one, and the next one is below

down : (x : Ground) → Walkable x → (e : ℕ) → e < x.graph.size.m → get_or x.lists.now.prev.now e 0 ≤ e
down x w e l = omega (arith, w.linked.prevs e l, last_le x.graph.edges.froms.now (get_or x.graph.edges.froms.now e 0) e)

module _ (c : After-from-next-in-Some) where
  above : c.loop-e.next ≡ suc c.in-Some.e
  above = let k : (1 ≤ c.loop-e.next) × (c.in-Some.e ≡ c.loop-e.next - 1) = c.in-Some.ensures in omega arith

  own : c.in-Some.e < c.args.ground.now.graph.size.m
  own = omega (arith, above, c.loop-e.invariant.low)

  low : c.from-next-in-Some.result ≤ c.in-Some.e
  low = omega (arith, c.from-next-in-Some.ensures, down _ c.requires.walkable c.in-Some.e own)

pub loop-e-smaller : goal.loop-e-smaller
loop-e-smaller c = omega (arith, low c, above c)

pub loop-e-preserved : goal.loop-e-preserved
loop-e-preserved c =
    let w = c.requires.walkable in
    let m = w.setting.acc.shape.edges.tos in
    let here = c.loop-e.invariant in
    let long = kept _ _ _ _ _ _ c.arrive.ensures in
    record {
      same = rw c.from-next-in-Some.ensures (sent_one _ _ _ _ _ _ _ _ _ _ (λ e l. down _ w e (omega arith)) _ _ _ c.in-Some.e _ _ _ (above c) (omega (arith, own c)) c.bring.ensures c.arrive.ensures ∙ here.same);
      sums = record { ins_long = omega (arith, long.0, here.sums.ins_long); past_long = omega (arith, long.1, here.sums.past_long) };
      low = omega (arith, low c, own c);
    }

pub returns : goal.returns
returns c =
    let none : c.loop-e.next ≡ 0 = omega (arith, c.in_default.ensures) in
    sent_all _ _ _ _ _ _ _ _ _ _ _ _ _ none c.loop-e.invariant.same
