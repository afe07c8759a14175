-- The solver's walk, for both systems: what it computes from the running sums of the nodes, and what holds of them on the way.
-- A node has two running sums: of all that arrives, in the list s, and of what arrives and passes its check, in the list q.
pub mod Order
pub mod Sent
pub mod Settled
pub mod Left
use Rattle.std.specs.Prelude.{ℕ, zero, suc, ◌+◌, ◌-◌, ◌*◌, ◌≤◌, ◌<◌, ◌^◌, ◌≡◌, List, [], ◌∷◌, Bool, true, false, cond, ◌&&◌, not, ◌||◌, eqb, length, get_or, set, ◌↔◌}
use Rattle.sets.specs.Sets.{has, empty, all, join, common, without, add}
use Rattle.graph.specs.Graph.{Graph, privileged_by, is_check, check, Acceptable, System, may, sure, Outs, Arrival, arriving, in_set, past_set, out_set, Within, held}
use Rattle.graph.specs.Graph.Arrivals.{Arrives}
use Rattle.worklist.specs.Worklist.{fresh, Stacked}
use Rattle.flow.specs.declared.System.{System as Named}
use Rattle.flow.specs.declared.System.TheVariants.{May, Sure}

-- ---- numbers

abbrev pub system_of : Named → System
system_of May = may
system_of Sure = sure

-- what a sum is before anything arrives, and with one set more
unfoldable pub start : System → ℕ → ℕ
start may k = empty
start sure k = all k

unfoldable pub merge : System → ℕ → ℕ → ℕ
merge may a b = join a b
merge sure a b = common a b

-- call(n), by the node's numbers and its sum
unfoldable pub call_num : (privileged grants arrived : ℕ) → ℕ
call_num privileged grants arrived = cond (eqb privileged 1) grants arrived

-- all K without MAY call(n)
abbrev pub denied_num : (k privileged grants arrived : ℕ) → ℕ
denied_num k privileged grants arrived = without (all k) (call_num privileged grants arrived)

-- what is past an unprivileged check: for SURE the check's permission is added, and nothing is where nothing passes
unfoldable pub past_num : System → (check past : ℕ) (passes : Bool) → ℕ
past_num may check past passes = past
past_num sure check past passes = cond passes (add past check) empty

unfoldable pub trans_num : (kind check privileged grants arrived past : ℕ) → ℕ
trans_num kind check privileged grants arrived past =
    cond (eqb kind 2) (cond (privileged_by privileged check) (cond (has grants check) arrived empty) past) arrived

-- call(n) is c and trans(n) is t; any: for SURE, MAY's sum of what passes the check, which says whether anything does
pub record Leaves (y : System) (kind check privileged grants arrived past any c t : ℕ) : Type 0 where
  pub calls : c ≡ call_num privileged grants arrived
  pub moves : t ≡ trans_num kind check privileged grants arrived (past_num y check past (has any check))

unfoldable pub edge_num : (way called moved into : ℕ) → ℕ
edge_num way called moved into = cond (eqb way 0) (common called into) moved

-- the set by which a set v that arrives is judged at a check: itself for MAY, MAY's out set of the same edge for SURE
unfoldable pub judged_num : System → (wide v : ℕ) → ℕ
judged_num may wide v = v
judged_num sure wide v = wide

-- whether a set v that arrives at a node counts at the node's check
abbrev pub counts_num : System → (kind check wide v : ℕ) → Bool
counts_num y kind check wide v = eqb kind 2 && has (judged_num y wide v) check

-- a node's sums before anything arrives but its entry mark
unfoldable pub start_ins : System → (k entry grants : ℕ) → ℕ
start_ins y k entry grants = cond (eqb entry 1) grants (start y k)

unfoldable pub start_past : System → (k entry grants check : ℕ) → ℕ
start_past y k entry grants check = cond (eqb entry 1 && has grants check) grants (start y k)

-- ---- sums of nodes, and what edges carry

-- what is past node n's check; a: for SURE, MAY's sums of what passes, which say whether anything does
abbrev pub past_by : (checks : List ℕ) → System → (a q : List ℕ) → ℕ → ℕ
past_by checks y a q n = past_num y (get_or checks n 0) (get_or q n 0) (has (get_or a n 0) (get_or checks n 0))

abbrev pub moved_by : (kinds checks privileged grants : List ℕ) → System → (a s q : List ℕ) → ℕ → ℕ
moved_by kinds checks privileged grants y a s q n =
    trans_num (get_or kinds n 0) (get_or checks n 0) (get_or privileged n 0) (get_or grants n 0) (get_or s n 0) (past_by checks y a q n)

abbrev pub called_by : (privileged grants s : List ℕ) → ℕ → ℕ
called_by privileged grants s n = call_num (get_or privileged n 0) (get_or grants n 0) (get_or s n 0)

-- what edge e carries while the sums are s and q
abbrev pub carried_by : (kinds checks privileged grants froms tos ways : List ℕ) → System → (a s q : List ℕ) → ℕ → ℕ
carried_by kinds checks privileged grants froms tos ways y a s q e =
    edge_num (get_or ways e 0) (called_by privileged grants s (get_or froms e 0)) (moved_by kinds checks privileged grants y a s q (get_or froms e 0)) (get_or grants (get_or tos e 0) 0)

abbrev pub carried : Graph → System → (a s q : List ℕ) → ℕ → ℕ
carried g = carried_by g.nodes.kinds g.nodes.checks g.nodes.privileged g.nodes.grants g.edges.froms g.edges.tos g.edges.ways

abbrev pub from_of : Graph → ℕ → ℕ
from_of g e = get_or g.edges.froms e 0

abbrev pub to_of : Graph → ℕ → ℕ
to_of g e = get_or g.edges.tos e 0

-- whether a set v counts that arrives at a node by edge e
abbrev pub counts_by : (kinds checks tos : List ℕ) → System → (w : List ℕ) (e v : ℕ) → Bool
counts_by kinds checks tos y w e v = counts_num y (get_or kinds (get_or tos e 0) 0) (get_or checks (get_or tos e 0) 0) (get_or w e 0) v

abbrev pub counts : Graph → System → (w : List ℕ) (e v : ℕ) → Bool
counts g = counts_by g.nodes.kinds g.nodes.checks g.edges.tos

-- ---- the walk's steps

-- What the walk writes: the two sums of each node, a mark for each node that is on the stack, the stack, and how high it is.
pub record State : Type 0 where
  pub ins : List ℕ
  pub past : List ℕ
  pub marks : List ℕ
  pub stack : List ℕ
  pub top : ℕ

abbrev pub state : (ins past marks stack : List ℕ) (top : ℕ) → State
state ins past marks stack top = record { ins = ins; past = past; marks = marks; stack = stack; top = top }

-- a set v is merged into the sum of node b, and whether that changes it
abbrev pub into : System → List ℕ → (b v : ℕ) → List ℕ
into y s b v = set s b (merge y (get_or s b 0) v)

abbrev pub changes : System → List ℕ → (b v : ℕ) → Bool
changes y s b v = not (eqb (merge y (get_or s b 0) v) (get_or s b 0))

abbrev pub changed : System → (s q : List ℕ) (b v : ℕ) (counted : Bool) → Bool
changed y s q b v counted = changes y s b v || (counted && changes y q b v)

unfoldable pub push : (s q d st : List ℕ) (top b : ℕ) (new : Bool) → State
push s q d st top b true = state s q (set d b 1) (set st top b) (top + 1)
push s q d st top b false = state s q d st top

-- a set v arrives at node b
unfoldable pub arrive : System → State → (b v : ℕ) (counted : Bool) → State
arrive y x b v counted =
    push (into y x.ins b v) (cond counted (into y x.past b v) x.past) x.marks x.stack x.top b
    (fresh x.marks x.stack x.top b (changed y x.ins x.past b v counted))

-- what a node with the call set c and the trans set t sends along its edges, from the edge before cur on
module _ (kinds checks grants tos ways : List ℕ) (y : System) (w prev : List ℕ) (c t : ℕ) where
  abbrev pub sent : ℕ → ℕ
  sent e = edge_num (get_or ways e 0) c t (get_or grants (get_or tos e 0) 0)

  unfoldable pub send_from : (fuel cur : ℕ) → State → State
  send_from zero cur x = x
  send_from (suc f) zero x = x
  send_from (suc f) (suc e) x = send_from f (get_or prev e 0) (arrive y x (get_or tos e 0) (sent e) (counts_by kinds checks tos y w e (sent e)))

-- what sending needs of the slices: they are long enough, edges end at nodes, and lists of edges lead down
pub record Sendable (kinds checks grants tos ways w prev : List ℕ) (ins past : ℕ) : Type 0 where
  pub checks_long : length kinds ≤ length checks
  pub grants_long : length kinds ≤ length grants
  pub ways_long : length tos ≤ length ways
  pub wide_long : length tos ≤ length w
  pub prev_long : length tos ≤ length prev
  pub ins_long : length kinds ≤ ins
  pub past_long : length kinds ≤ past
  pub ends : (e : ℕ) → e < length tos → get_or tos e 0 < length kinds
  pub down : (e : ℕ) → e < length tos → get_or prev e 0 ≤ e

-- what one edge needs of them
pub record Bringable (kinds checks grants tos ways w : List ℕ) (e : ℕ) : Type 0 where
  pub own : e < length tos
  pub way : e < length ways
  pub wide : e < length w
  pub kind : get_or tos e 0 < length kinds
  pub check : get_or tos e 0 < length checks
  pub grant : get_or tos e 0 < length grants

-- what each of the walk's functions does with its slices

-- edge e brings the set v to node b, from a node with the call set c and the trans set t
pub record Brings (kinds checks grants tos ways : List ℕ) (y : System) (w : List ℕ) (c t e b v : ℕ) (counted : Bool) : Type 0 where
  pub to : b ≡ get_or tos e 0
  pub set_sent : v ≡ edge_num (get_or ways e 0) c t (get_or grants (get_or tos e 0) 0)
  pub counts_so : counted ≡ counts_by kinds checks tos y w e v

pub record Delivered (y : System) (s q : List ℕ) (b v : ℕ) (counted : Bool) (s' q' : List ℕ) (r : Bool) : Type 0 where
  pub ins : s' ≡ into y s b v
  pub past : q' ≡ cond counted (into y q b v) q
  pub told : r ≡ changed y s q b v counted

pub record Begun (y : System) (k n : ℕ) (checks entries grants s q : List ℕ) : Type 0 where
  pub ins : (i : ℕ) → i < n → get_or s i 0 ≡ start_ins y k (get_or entries i 0) (get_or grants i 0)
  pub past : (i : ℕ) → i < n → get_or q i 0 ≡ start_past y k (get_or entries i 0) (get_or grants i 0) (get_or checks i 0)

-- node n has the call set c and the trans set t
abbrev pub LeavesAt : (kinds checks privileged grants : List ℕ) → System → (a s q : List ℕ) (n c t : ℕ) → Type 0
LeavesAt kinds checks privileged grants y a s q n c t =
    Leaves y (get_or kinds n 0) (get_or checks n 0) (get_or privileged n 0) (get_or grants n 0) (get_or s n 0) (get_or q n 0) (get_or a n 0) c t

pub record NodesStored (k n : ℕ) (privileged grants may_ins sure_ins denied granted : List ℕ) : Type 0 where
  pub denies : (i : ℕ) → i < n → get_or denied i 0 ≡ denied_num k (get_or privileged i 0) (get_or grants i 0) (get_or may_ins i 0)
  pub grants_set : (i : ℕ) → i < n → get_or granted i 0 ≡ called_by privileged grants sure_ins i

-- ---- how far sums have come

-- b is at least as far from the start as a: more for MAY, less for SURE
abbrev pub Toward : System → Bool → Bool → Type 0
Toward may a b = a ≡ true → b ≡ true
Toward sure a b = b ≡ true → a ≡ true

-- out sets that hold at least (MAY), at most (SURE), what their equations give; w: MAY's out sets
abbrev pub Closed : Graph → System → List ℕ → Outs → Type 0
Closed g may w z = Within g (out_set g z may z) z
Closed g sure w z = Within g z (out_set g (held w) sure z)

-- b, which says whether p is in the sum of what passes the check n, goes no further than out sets z allow
abbrev pub PastBelow : Graph → System → List ℕ → Outs → (n p : ℕ) → Bool → Type 0
PastBelow g may w z n p b = b ≡ true → past_set g z may z n p ≡ true
PastBelow g sure w z n p b =
    ((x : Arrival) → Arrives g n x → arriving g (held w) n x (check g n) ≡ true → arriving g z n x p ≡ true) → b ≡ true

-- for SURE, a says of every check whether anything that arrives passes it, by MAY's out sets w
abbrev pub AnyPasses : Graph → System → (w a : List ℕ) → Type 0
AnyPasses g may w a = Unit {0}
AnyPasses g sure w a =
    (n : ℕ) → n < g.size.n → is_check g n ≡ true
    → (has (get_or a n 0) (check g n) ≡ true) ↔ ((x : Arrival) × Arrives g n x × (arriving g (held w) n x (check g n) ≡ true))

-- the graph that a walk goes over is accepted, and for SURE what is known of MAY is true
pub record Setting (g : Graph) (y : System) (w a : List ℕ) : Type 0 where
  pub acc : Acceptable g
  pub any : AnyPasses g y w a

-- the sums hold what the entry marks give, and nothing that closed out sets would not
pub record Good (g : Graph) (y : System) (w s q : List ℕ) : Type 0 where
  pub s_low : (n : ℕ) → n < g.size.n → get_or s n 0 < 2 ^ g.size.k
  pub q_low : (n : ℕ) → n < g.size.n → get_or q n 0 < 2 ^ g.size.k
  pub s_entry : (n p : ℕ) → n < g.size.n → p < g.size.k → get_or g.nodes.entries n 0 ≡ 1 → Toward y (has (get_or g.nodes.grants n 0) p) (has (get_or s n 0) p)
  pub q_entry : (n p : ℕ) → n < g.size.n → p < g.size.k → get_or g.nodes.entries n 0 ≡ 1 → has (get_or g.nodes.grants n 0) (get_or g.nodes.checks n 0) ≡ true
      → Toward y (has (get_or g.nodes.grants n 0) p) (has (get_or q n 0) p)
  pub s_below : (z : Outs) → Closed g y w z → (n p : ℕ) → n < g.size.n → p < g.size.k → Toward y (has (get_or s n 0) p) (in_set g y z n p)
  pub q_below : (z : Outs) → Closed g y w z → (n p : ℕ) → n < g.size.n → p < g.size.k → PastBelow g y w z n p (has (get_or q n 0) p)

-- edge e has nothing to tell its to node
pub record Quiet (g : Graph) (y : System) (w a s q : List ℕ) (e : ℕ) : Type 0 where
  pub told : (p : ℕ) → p < g.size.k → Toward y (has (carried g y a s q e) p) (has (get_or s (to_of g e) 0) p)
  pub told_past : counts g y w e (carried g y a s q e) ≡ true → (p : ℕ) → p < g.size.k → Toward y (has (carried g y a s q e) p) (has (get_or q (to_of g e) 0) p)

-- every edge is quiet but those that leave a node which is marked in d
pub record Pending (g : Graph) (y : System) (w a s q d : List ℕ) : Type 0 where
  pub good : Good g y w s q
  pub quiet : (e : ℕ) → e < g.size.m → get_or d (from_of g e) 0 ≡ 0 → Quiet g y w a s q e

-- ---- what is left to do

-- how far a sum can still move
unfoldable pub left_one : System → ℕ → ℕ
left_one may x = 2 ^ 64 - x
left_one sure x = x

unfoldable pub left : System → List ℕ → ℕ
left y [] = 0
left y (x ∷ l) = left_one y x + left y l

-- a sum that moves pays for a place of the stack
abbrev pub to_do : System → State → ℕ
to_do y x = (left y x.ins + left y x.past) * 2 + x.top

pub record Sized (n : ℕ) (x : State) : Type 0 where
  pub ins_long : n ≤ length x.ins
  pub past_long : n ≤ length x.past
  pub marks_long : n ≤ length x.marks

-- ---- the walk on its way: between two nodes, and at node n whose edges from before cur on are still to be told

pub record Walking (g : Graph) (y : System) (w a : List ℕ) (x : State) : Type 0 where
  pub pending : Pending g y w a x.ins x.past x.marks
  pub stacked : Stacked g.size.n x.marks x.stack x.top
  pub sized : Sized g.size.n x

-- x₀ is the state in which n was taken up: while n is not marked again its sums are what they were
pub record Sending (g : Graph) (y : System) (w a : List ℕ) (x₀ x : State) (n cur : ℕ) : Type 0 where
  pub good : Good g y w x.ins x.past
  pub quiet : (e : ℕ) → e < g.size.m → get_or x.marks (from_of g e) 0 ≡ 0 → (from_of g e ≡ n → cur ≤ e) → Quiet g y w a x.ins x.past e
  pub own : get_or x.marks n 0 ≡ 0 → (get_or x.ins n 0 ≡ get_or x₀.ins n 0) × (get_or x.past n 0 ≡ get_or x₀.past n 0)
  pub stacked : Stacked g.size.n x.marks x.stack x.top
  pub sized : Sized g.size.n x
  pub falls : to_do y x ≤ to_do y x₀
