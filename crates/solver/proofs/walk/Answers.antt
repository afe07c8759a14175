use Rattle.std.specs.Prelude.{◌≡◌, ℕ, ◌≤◌, ◌<◌, List, get_or, Some, None}
use Rattle.std.proofs.Common.{arith}
use Rattle.graph.specs.Lent.{lent}
use Rattle.worklist.specs.Worklist.{Takes, taken, untaken}
use Rattle.worklist.specs.Worklist.Stack.{untaken_empty}
use Rattle.flow.specs.declared.Leaving.{Leaving}
use Rattle.flow.specs.Walk.{system_of, State, state, LeavesAt, to_do}
use Rattle.flow.proofs.Walk.Taken.{top_low, first_low, turn}
use Rattle.solver.specs.declared.Ground.{Ground}
use Rattle.solver.specs.Walks.{any, Walkable, sent, Walks}
use Rattle.solver.proofs.walk.Goals as goal

-- a node that is taken is one, and its list starts below the number of edges
low : (x : Ground) (s q : List ℕ) {d st d₁ st₁ : List ℕ} {top top₁ i : ℕ} → Walkable x → Walks x (state s q d st top) → Takes d st top (Some i) d₁ st₁ top₁
    → (i < x.graph.size.n) × (get_or x.lists.now.head.now i 0 ≤ x.graph.size.m)
low x s q w h (taken {t} e k) =
    let edges = w.setting.acc.shape.edges in (
      top_low (lent x.graph) _ _ _ _ _ w.setting w.linked _ t e h,
      omega (arith, first_low (lent x.graph) _ _ _ _ _ w.setting w.linked _ t e h, edges.tos),
    )

-- the turn keeps the walk on its way, and less is left to do
turned : (x : Ground) (s q : List ℕ) {d st d₁ st₁ : List ℕ} {top top₁ i : ℕ} (l : Leaving) (z : State) → Walkable x → Walks x (state s q d st top) → Takes d st top (Some i) d₁ st₁ top₁
    → LeavesAt x.graph.nodes.kinds.now x.graph.nodes.checks.now x.graph.nodes.privileged.now x.graph.nodes.grants.now (system_of x.system) (any x) s q i l.call l.trans
    → z ≡ sent x l (get_or x.lists.now.head.now i 0) (state s q d₁ st₁ top₁)
    → Walks x z × (to_do (system_of x.system) z < to_do (system_of x.system) (state s q d st top))
turned x s q l z w h (taken {t} e k) v r = turn (lent x.graph) _ _ _ _ _ w.setting w.linked _ t e h _ _ v.calls v.moves z r

-- where none is taken the stack is empty
rested : (x : Ground) (s q : List ℕ) {d st d₁ st₁ : List ℕ} {top top₁ : ℕ} → Walks x (state s q d st top) → Takes d st top None d₁ st₁ top₁
    → Walks x (state s q d₁ st₁ top₁) × (top₁ ≡ 0)
rested x s q h (untaken o) = (h, untaken_empty _ _ _ _ h.stacked o)

pub leave-leaving-requires-clause-i_in_bounds : goal.leave-leaving-requires-clause-i_in_bounds
leave-leaving-requires-clause-i_in_bounds c = (low _ _ _ c.requires.walkable c.loop-i.invariant c.in-Some.ensures.taken).0

pub offset_bounds-ground-i : goal.offset_bounds-ground-i
offset_bounds-ground-i c =
    omega (arith, (low _ _ _ c.requires.walkable c.loop-i.invariant c.in-Some.ensures.taken).0, c.requires.walkable.setting.acc.shape.ranges.n_high)

pub bounds-ground-i : goal.bounds-ground-i
bounds-ground-i c = omega (arith, (low _ _ _ c.requires.walkable c.loop-i.invariant c.in-Some.ensures.taken).0, c.requires.walkable.head_long)

pub send-requires-clause-first_in_bounds : goal.send-requires-clause-first_in_bounds
send-requires-clause-first_in_bounds c = (low _ _ _ c.requires.walkable c.loop-i.invariant c.in-Some.ensures.taken).1

pub loop-i-smaller : goal.loop-i-smaller
loop-i-smaller c = (turned _ _ _ _ _ c.requires.walkable c.loop-i.invariant c.in-Some.ensures.taken c.leave-leaving.ensures c.send.ensures).1

pub loop-i-preserved : goal.loop-i-preserved
loop-i-preserved c = (turned _ _ _ _ _ c.requires.walkable c.loop-i.invariant c.in-Some.ensures.taken c.leave-leaving.ensures c.send.ensures).0

pub returns-clause-walking : goal.returns-clause-walking
returns-clause-walking c = (rested c.args.ground.now _ _ c.loop-i.invariant c.in_default.ensures.taken).0

pub returns-clause-empty : goal.returns-clause-empty
returns-clause-empty c = (rested c.args.ground.now _ _ c.loop-i.invariant c.in_default.ensures.taken).1
