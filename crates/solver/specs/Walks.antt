-- What the solver's functions ask of what a walk goes over, and promise of what it writes, in the words of the walk (crate flow).
use Rattle.std.specs.Prelude.{ℕ, ◌≤◌, ◌<◌, ◌≡◌, List, length, get_or}
use Rattle.graph.specs.Graph.{Graph, System}
use Rattle.graph.specs.Lent.{lent}
use Rattle.worklist.specs.Worklist.{Linked}
use Rattle.worklist.specs.declared.Pending.{Pending}
use Rattle.sums.specs.declared.Sums.{Sums}
use Rattle.flow.specs.Walk as walk
use Rattle.flow.specs.Walk.{system_of, carried, State, state, send_from, LeavesAt, Setting, Good, Quiet, Walking}
use Rattle.flow.specs.declared.Leaving.{Leaving}
use Rattle.solver.specs.declared.Ground.{Ground}
use Rattle.solver.specs.declared.Brought.{Brought}
use Rattle.solver.specs.declared.SetPlaces.{SetPlaces}
use Rattle.solver.specs.Solve.{SameSets}

-- For SURE, MAY's out sets, and MAY's sums of what passes each check.
abbrev pub wide : Ground → List ℕ
wide x = x.sets.now.may.now

abbrev pub any : Ground → List ℕ
any x = x.left.now.past.now

-- A walk can go over it: the graph is accepted, what is said of MAY is true, the lists hold the graph's edges, and each slice has a place for
-- each node or edge.
pub record Walkable (x : Ground) : Type 0 where
  pub setting : Setting (lent x.graph) (system_of x.system) (wide x) (any x)
  pub linked : Linked x.graph.edges.froms.now x.graph.size.n x.lists.now.head.now x.lists.now.prev.now x.graph.size.m
  pub head_long : x.graph.size.n ≤ length x.lists.now.head.now
  pub prev_long : x.graph.size.m ≤ length x.lists.now.prev.now
  pub wide_long : x.graph.size.m ≤ length (wide x)
  pub any_long : x.graph.size.n ≤ length (any x)

-- The sums have a place for each of n nodes.
pub record HasSums (n : ℕ) (s : Sums) : Type 0 where
  pub ins_long : n ≤ length s.ins.now
  pub past_long : n ≤ length s.past.now

-- What leaves node i.
abbrev pub Leaves : Ground → Sums → ℕ → Leaving → Type 0
Leaves x s i l =
    LeavesAt x.graph.nodes.kinds.now x.graph.nodes.checks.now x.graph.nodes.privileged.now x.graph.nodes.grants.now (system_of x.system) (any x) s.ins.now s.past.now i l.call l.trans

-- What edge e brings of what leaves its from node.
abbrev pub Brings : Ground → Leaving → ℕ → Brought → Type 0
Brings x l e b =
    walk.Brings x.graph.nodes.kinds.now x.graph.nodes.checks.now x.graph.nodes.grants.now x.graph.edges.tos.now x.graph.edges.ways.now (system_of x.system) (wide x) l.call l.trans e b.to b.set b.counted

-- What a walk writes.
abbrev pub state_of : Sums → Pending → State
state_of s p = state s.ins.now s.past.now p.marks.now p.stack.now p.top

-- After what leaves a node was brought along its edges, which start before `first`.
abbrev pub sent : Ground → Leaving → (first : ℕ) → State → State
sent x l first =
    send_from x.graph.nodes.kinds.now x.graph.nodes.checks.now x.graph.nodes.grants.now x.graph.edges.tos.now x.graph.edges.ways.now (system_of x.system) (wide x) x.lists.now.prev.now l.call l.trans first first

-- A walk is on its way.
abbrev pub Walks : Ground → State → Type 0
Walks x = Walking (lent x.graph) (system_of x.system) (wide x) (any x)

-- A walk is at its end: no edge has anything more to tell.
pub record Settles (x : Ground) (s : Sums) : Type 0 where
  pub good : Good (lent x.graph) (system_of x.system) (wide x) s.ins.now s.past.now
  pub quiet : (e : ℕ) → e < x.graph.size.m → Quiet (lent x.graph) (system_of x.system) (wide x) (any x) s.ins.now s.past.now e

-- The out sets are what the edges carry by the sums s, where the other system left the sums l.
abbrev pub Carries : Graph → System → (l s : Sums) → (out : List ℕ) → Type 0
Carries g y l s out = (e : ℕ) → e < g.size.m → get_or out e 0 ≡ carried g y l.past.now s.ins.now s.past.now e

-- The sets of the nodes below n are stored, by the sums of both systems, and those of the edges stay.
pub record NodesStored (g : Graph) (by_may by_sure : Sums) (old new : SetPlaces) (n : ℕ) : Type 0 where
  pub nodes : walk.NodesStored g.size.k n g.nodes.privileged g.nodes.grants by_may.ins.now by_sure.ins.now new.denied.now new.granted.now
  pub denied_long : length new.denied.now ≡ length old.denied.now
  pub granted_long : length new.granted.now ≡ length old.granted.now
  pub may : new.may.now ≡ old.may.now
  pub sure : new.sure.now ≡ old.sure.now
  pub same : SameSets old new
