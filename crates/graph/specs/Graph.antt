-- The graph, its rules, its equations, and what the solver stores. Definitions alone: the laws and the theory are in
-- the modules below this one, and nothing here unfolds outside them.
pub mod Rules
pub mod Arrivals
pub mod Edges
pub mod Rule
pub mod Code
pub mod Growth
pub mod Rounds
pub mod Results
pub mod Tables
pub mod Gateway
pub mod Backwards
pub mod LooksRight
use Rattle.std.specs.Prelude.{ℕ, ◌≤◌, ◌<◌, ◌≡◌, ◌⊎◌, List, Bool, true, false, not, cond, ◌&&◌, ◌||◌, eqb, length, get_or}
use Rattle.truth.specs.Truth.{All, ◌⇒◌, some, every}
use Rattle.sets.specs.Sets.{has}
use Rattle.graph.specs.declared.Size.{Size}

-- ---- The graph

-- One thing for each slice of nodes, and one for each slice of edges: lists, lengths, or the numbers of one node or edge. A slice more is a
-- field more here, and a line more in each of the definitions up to `EachEdge`.
pub record PerNode (A : Type 0) : Type 0 where
  pub kinds : A
  pub checks : A
  pub privileged : A
  pub entries : A
  pub grants : A

pub record PerEdge (A : Type 0) : Type 0 where
  pub froms : A
  pub tos : A
  pub ways : A

abbrev pub nodes_of : {A : Type 0} → (kinds checks privileged entries grants : A) → PerNode A
nodes_of kinds checks privileged entries grants = record { kinds = kinds; checks = checks; privileged = privileged; entries = entries; grants = grants }

abbrev pub edges_of : {A : Type 0} → (froms tos ways : A) → PerEdge A
edges_of froms tos ways = record { froms = froms; tos = tos; ways = ways }

abbrev pub map_node : {A B : Type 0} → (A → B) → PerNode A → PerNode B
map_node f x = nodes_of (f x.kinds) (f x.checks) (f x.privileged) (f x.entries) (f x.grants)

abbrev pub map_edge : {A B : Type 0} → (A → B) → PerEdge A → PerEdge B
map_edge f x = edges_of (f x.froms) (f x.tos) (f x.ways)

-- P holds of each.
pub record EachNode {A : Type 0} (P : A → Type 0) (x : PerNode A) : Type 0 where
  pub kinds : P x.kinds
  pub checks : P x.checks
  pub privileged : P x.privileged
  pub entries : P x.entries
  pub grants : P x.grants

pub record EachEdge {A : Type 0} (P : A → Type 0) (x : PerEdge A) : Type 0 where
  pub froms : P x.froms
  pub tos : P x.tos
  pub ways : P x.ways

abbrev pub every_node : PerNode Bool → Bool
every_node x = x.kinds && (x.checks && (x.privileged && (x.entries && x.grants)))

abbrev pub every_edge : PerEdge Bool → Bool
every_edge x = x.froms && (x.tos && x.ways)

abbrev pub size_of : (k n m : ℕ) → Size
size_of k n m = record { k = k; n = n; m = m }

-- What a caller lends: K, N and M, and each slice as a list.
pub record Graph : Type 0 where
  pub size : Size
  pub nodes : PerNode (List ℕ)
  pub edges : PerEdge (List ℕ)

abbrev pub graph_of : Size → (kinds checks privileged entries grants froms tos ways : List ℕ) → Graph
graph_of size kinds checks privileged entries grants froms tos ways = record {
  size = size;
  nodes = nodes_of kinds checks privileged entries grants;
  edges = edges_of froms tos ways;
}

-- The numbers of node i, and of edge i.
abbrev pub node_at : PerNode (List ℕ) → ℕ → PerNode ℕ
node_at x i = map_node (λ l. get_or l i 0) x

abbrev pub edge_at : PerEdge (List ℕ) → ℕ → PerEdge ℕ
edge_at x i = map_edge (λ l. get_or l i 0) x

-- Node n: its kind (0 call, 1 return, 2 check), its check permission, its entry mark, and whether it grants permission p.
abbrev pub kind : Graph → ℕ → ℕ
kind g n = get_or g.nodes.kinds n 0

abbrev pub is_check : Graph → ℕ → Bool
is_check g n = eqb (kind g n) 2

abbrev pub check : Graph → ℕ → ℕ
check g n = get_or g.nodes.checks n 0

abbrev pub entry : Graph → ℕ → Bool
entry g n = eqb (get_or g.nodes.entries n 0) 1

abbrev pub grants : Graph → ℕ → ℕ → Bool
grants g n p = has (get_or g.nodes.grants n 0) p

-- A node with this mark is privileged for p: in this edition for every p, where the mark is there.
pub privileged_by : (mark p : ℕ) → Bool
privileged_by mark p = eqb mark 1

abbrev pub privileged : Graph → ℕ → ℕ → Bool
privileged g n p = privileged_by (get_or g.nodes.privileged n 0) p

-- Edge e: its from node, its to node, its kind (0 call, 1 transfer).
abbrev pub from : Graph → ℕ → ℕ
from g e = get_or g.edges.froms e 0

abbrev pub to : Graph → ℕ → ℕ
to g e = get_or g.edges.tos e 0

abbrev pub way : Graph → ℕ → ℕ
way g e = get_or g.edges.ways e 0

abbrev pub is_call : Graph → ℕ → Bool
is_call g e = eqb (way g e) 0

-- ---- The rules

-- The rule of a node, by its numbers.
pub record NodeRule (k : ℕ) (x : PerNode ℕ) : Type 0 where
  pub kind_known : x.kinds ≤ 2
  pub check_below : x.kinds ≡ 2 → x.checks < k
  pub check_none : (x.kinds ≡ 2 → ⊥) → x.checks ≡ 0
  pub privileged_mark : x.privileged ≤ 1
  pub entry_mark : x.entries ≤ 1
  pub grants_below : (p : ℕ) → has x.grants p ≡ true → p < k

-- The rule of an edge's kind, by the kind of the node that it leaves and the grants of its two ends. Nothing leaves a return node.
pub record EndsRule (way leaves out into : ℕ) : Type 0 where
  pub way_known : way ≤ 1
  pub call_leaves : way ≡ 0 → leaves ≡ 0
  pub transfer_leaves : way ≡ 1 → (leaves ≡ 0) ⊎ (leaves ≡ 2)
  pub transfer_grants : way ≡ 1 → out ≡ into

-- The rule of an edge, by its numbers and those of the nodes at its two ends.
pub record EdgeRule (n : ℕ) (x : PerEdge ℕ) (leaves out into : ℕ) : Type 0 where
  pub from_node : x.froms < n
  pub to_node : x.tos < n
  pub ends : EndsRule x.ways leaves out into

abbrev pub EdgeAt : (n : ℕ) (kinds grants : List ℕ) → PerEdge (List ℕ) → ℕ → Type 0
EdgeAt n kinds grants x e =
    EdgeRule n (edge_at x e) (get_or kinds (get_or x.froms e 0) 0) (get_or grants (get_or x.froms e 0) 0) (get_or grants (get_or x.tos e 0) 0)

-- Node i, and edge e, of the lent lists obey their rules.
abbrev pub NodesAt : ℕ → PerNode (List ℕ) → ℕ → Type 0
NodesAt k x i = NodeRule k (node_at x i)

abbrev pub NodeObeys : Graph → ℕ → Type 0
NodeObeys g = NodesAt g.size.k g.nodes

abbrev pub EdgeObeys : Graph → ℕ → Type 0
EdgeObeys g = EdgeAt g.size.n g.nodes.kinds g.nodes.grants g.edges

-- K, N and M in range.
pub record Ranges (s : Size) : Type 0 where
  pub k_low : 1 ≤ s.k
  pub k_high : s.k ≤ 64
  pub n_low : 1 ≤ s.n
  pub n_high : s.n ≤ 1024
  pub m_high : s.m ≤ 4096

-- Every slice as long as it has to be, by their lengths: N entries for a node's, M for an edge's.
abbrev pub NodesLong : ℕ → PerNode ℕ → Type 0
NodesLong n = EachNode (λ l. l ≡ n)

abbrev pub EdgesLong : ℕ → PerEdge ℕ → Type 0
EdgesLong m = EachEdge (λ l. l ≡ m)

pub record ShapeRule (s : Size) (x : PerNode ℕ) (y : PerEdge ℕ) : Type 0 where
  pub ranges : Ranges s
  pub nodes : NodesLong s.n x
  pub edges : EdgesLong s.m y

abbrev pub Shape : Graph → Type 0
Shape g = ShapeRule g.size (map_node length g.nodes) (map_edge length g.edges)

-- Node i is no entry.
abbrev pub NoEntry : List ℕ → ℕ → Type 0
NoEntry entries i = get_or entries i 0 ≡ 1 → ⊥

-- A graph that is accepted: it has its shape, every node and every edge obeys its rule, and some node is an entry.
pub record Acceptable (g : Graph) : Type 0 where
  pub shape : Shape g
  pub nodes : All (NodeObeys g) g.size.n
  pub edges : All (EdgeObeys g) g.size.m
  pub entered : (i : ℕ) × (i < g.size.n) × (get_or g.nodes.entries i 0 ≡ 1)

-- ---- Which edge leads where

-- An edge of a kind leads from node a to node b: one of the first m edges in the lists x.
pub record LeadsIn (m : ℕ) (x : PerEdge (List ℕ)) (kind a b : ℕ) : Type 0 where
  pub number : ℕ
  pub low : number < m
  pub starts : get_or x.froms number 0 ≡ a
  pub ends : get_or x.tos number 0 ≡ b
  pub kindred : get_or x.ways number 0 ≡ kind

abbrev pub Leads : Graph → (kind a b : ℕ) → Type 0
Leads g = LeadsIn g.size.m g.edges

-- ---- The equations

-- The two systems: figures 5 and 6 of Bartoletti, Degano and Ferrari, "Static Analysis for Stack Inspection", with two departures from the print:
-- * The figures empty trans at a privileged check of P whenever no arriving edge carries P. The inspection passes there if the check's
--   own node grants P, so `trans_rule` empties it only if that node does not.
-- * The paper asks for the "largest" sets without making the side plain. Here MAY is the least solution (with a transfer loop the
--   largest would leave ungranted permissions undenied), and SURE is the greatest, with MAY already found.
pub data System : Type 0 where
  may : System
  sure : System

-- Out sets: is permission p in the out set of edge e?
abbrev pub Outs : Type 0
Outs = ℕ → ℕ → Bool

-- What arrives at a node: an edge, or the entry mark as one more.
pub data Arrival : Type 0 where
  mark : Arrival
  edge : ℕ → Arrival

-- The out set of what arrives at n; the entry mark's is the node's grants.
pub arriving : Graph → Outs → ℕ → Arrival → ℕ → Bool
arriving g x n mark p = grants g n p
arriving g x n (edge e) p = x e p

pub some_arrival : Graph → ℕ → (Arrival → Bool) → Bool
some_arrival g n f = (entry g n && f mark) || some g.size.m (λ e. eqb (to g e) n && f (edge e))

pub every_arrival : Graph → ℕ → (Arrival → Bool) → Bool
every_arrival g n f = (entry g n ⇒ f mark) && every g.size.m (λ e. eqb (to g e) n ⇒ f (edge e))

-- In what follows w are the MAY out sets, and x the out sets of the system at hand: for MAY, w itself. Each says whether permission p is
-- in the set of node n or edge e.

-- in(n): MAY joins the out sets of all that arrives (nothing: empty). SURE takes their common part (nothing: all K).
unfoldable pub in_set : Graph → System → Outs → ℕ → ℕ → Bool
in_set g may x n p = some_arrival g n (λ a. arriving g x n a p)
in_set g sure x n p = every_arrival g n (λ a. arriving g x n a p)

-- call(n): the grants of n if n is privileged, else in(n), which `arrived` says of p.
unfoldable pub call_rule : Graph → (n p : ℕ) (arrived : Bool) → Bool
call_rule g n p arrived = cond (privileged g n p) (grants g n p) arrived

pub call_set : Graph → System → Outs → ℕ → ℕ → Bool
call_set g y x n p = call_rule g n p (in_set g y x n p)

-- Past an unprivileged check n of q only what arrives with q in its MAY out set counts. Nothing: empty, in both systems. Otherwise MAY
-- joins their MAY out sets; SURE takes the common part of their SURE out sets and adds q.
unfoldable pub past_set : Graph → Outs → System → Outs → ℕ → ℕ → Bool
past_set g w may x n p = some_arrival g n (λ a. arriving g w n a (check g n) && arriving g x n a p)
past_set g w sure x n p =
    some_arrival g n (λ a. arriving g w n a (check g n))
    && (eqb p (check g n) || every_arrival g n (λ a. arriving g w n a (check g n) ⇒ arriving g x n a p))

-- trans(n): of a privileged check of q in(n) if q is among its grants, else empty; of an unprivileged one as above, which `past` says of p; else
-- in(n).
unfoldable pub trans_rule : Graph → (n p : ℕ) (arrived past : Bool) → Bool
trans_rule g n p arrived past =
    cond (is_check g n) (cond (privileged g n (check g n)) (grants g n (check g n) && arrived) past) arrived

-- The out set of a call edge: call of its from node, cut to the grants of its to node. Of a transfer edge: trans of its from node.
unfoldable pub out_rule : Graph → (e p : ℕ) (arrived past : Bool) → Bool
out_rule g e p arrived past =
    cond (is_call g e) (call_rule g (from g e) p arrived && grants g (to g e) p) (trans_rule g (from g e) p arrived past)

pub out_set : Graph → Outs → System → Outs → ℕ → ℕ → Bool
out_set g w y x e p = out_rule g e p (in_set g y x (from g e) p) (past_set g w y x (from g e) p)

-- ---- The solutions, over every edge below M and every permission below K

abbrev pub Within : Graph → Outs → Outs → Type 0
Within g x y = (e p : ℕ) → e < g.size.m → p < g.size.k → x e p ≡ true → y e p ≡ true

abbrev pub Same : Graph → Outs → Outs → Type 0
Same g x y = (e p : ℕ) → e < g.size.m → p < g.size.k → x e p ≡ y e p

-- m obeys the MAY equations; s obeys the SURE equations, with the MAY out sets m.
abbrev pub MaySolution : Graph → Outs → Type 0
MaySolution g m = Same g m (out_set g m may m)

abbrev pub SureSolution : Graph → Outs → Outs → Type 0
SureSolution g m s = Same g s (out_set g m sure s)

-- The least MAY solution lies within every one; the greatest SURE solution holds every one.
pub record LeastMay (g : Graph) (m : Outs) : Type 0 where
  pub solves : MaySolution g m
  pub least : (x : Outs) → MaySolution g x → Within g m x

pub record GreatestSure (g : Graph) (m s : Outs) : Type 0 where
  pub solves : SureSolution g m s
  pub greatest : (x : Outs) → SureSolution g m x → Within g x s

-- Out sets that are sound: each MAY out holds at least what its equation gives, and lies within the grants of its to node; each SURE out
-- lies within what its equation gives. Demand 3 asks no more of them.
pub record Sound (g : Graph) (m s : Outs) : Type 0 where
  pub may_enough : Within g (out_set g m may m) m
  pub may_granted : Within g m (λ e p. grants g (to g e) p)
  pub sure_backed : Within g s (out_set g m sure s)

-- ---- What the sets say of a node

-- The denied set of n is all K without MAY call(n); the granted set is SURE call(n). Both for p below K.
pub denied_set : Graph → Outs → ℕ → ℕ → Bool
denied_set g m n p = not (call_set g may m n p)

pub granted_set : Graph → Outs → ℕ → ℕ → Bool
granted_set g s n p = call_set g sure s n p

-- The verdict at a check whose permission is denied, and granted, or not: 0 needed (in neither set), 1 always passes (granted only),
-- 2 always fails (denied only), 3 never reached (both).
pub verdict_of : (denied granted : Bool) → ℕ
verdict_of false false = 0
verdict_of false true = 1
verdict_of true false = 2
verdict_of true true = 3

-- ---- What the solver stores

-- The four lent result slices: denied and granted for each node, MAY and SURE out for each edge.
pub record Slices : Type 0 where
  pub denied : List ℕ
  pub granted : List ℕ
  pub may_out : List ℕ
  pub sure_out : List ℕ

-- The result slices are as long as they have to be, by their lengths: N sets of nodes, M of edges.
pub record ResultsLong (n m denied granted may_out sure_out : ℕ) : Type 0 where
  pub denied_long : denied ≡ n
  pub granted_long : granted ≡ n
  pub may_long : may_out ≡ m
  pub sure_long : sure_out ≡ m

-- The out sets that a slice holds.
abbrev pub held : List ℕ → Outs
held l e p = has (get_or l e 0) p

-- A slice of n sets, none with a member at k or above.
pub record Stored (k n : ℕ) (l : List ℕ) : Type 0 where
  pub long : length l ≡ n
  pub below : (i p : ℕ) → i < n → has (get_or l i 0) p ≡ true → p < k

-- What the slices hold when an accepted graph is solved.
pub record Content (g : Graph) (s : Slices) : Type 0 where
  pub denied_stored : Stored g.size.k g.size.n s.denied
  pub granted_stored : Stored g.size.k g.size.n s.granted
  pub may_stored : Stored g.size.k g.size.m s.may_out
  pub sure_stored : Stored g.size.k g.size.m s.sure_out
  pub least : LeastMay g (held s.may_out)
  pub greatest : GreatestSure g (held s.may_out) (held s.sure_out)
  pub denies : (n p : ℕ) → n < g.size.n → p < g.size.k → has (get_or s.denied n 0) p ≡ denied_set g (held s.may_out) n p
  pub grants : (n p : ℕ) → n < g.size.n → p < g.size.k → has (get_or s.granted n 0) p ≡ granted_set g (held s.sure_out) n p
