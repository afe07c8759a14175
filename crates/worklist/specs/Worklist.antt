-- What a walk over nodes and edges keeps: lists of the edges that leave each node, and a stack of nodes with a mark for each that is on it.
-- Definitions alone: their laws are in the modules below.
pub mod Filled
pub mod Linking
pub mod Stack
use Rattle.std.specs.Prelude.{ℕ, zero, suc, ◌+◌, ◌-◌, ◌≤◌, ◌<◌, ◌≡◌, List, [], ◌∷◌, Bool, true, false, cond, ◌&&◌, eqb, leb, ltb, length, get_or, set, Option, Some, None}
use Rattle.truth.specs.Truth.{All}
use Rattle.worklist.specs.declared.EdgeLists.{EdgeLists}
use Rattle.worklist.specs.declared.Pending.{Pending}

-- ---- lists of edges

-- one more than the last edge below i that leaves n, 0 where there is none
unfoldable pub last : (froms : List ℕ) (n i : ℕ) → ℕ
last froms n zero = 0
last froms n (suc i) = cond (eqb (get_or froms i 0) n) (suc i) (last froms n i)

-- the lists hold the edges below i: a node's list starts at `head`, an edge's list goes on at `prev`
pub record Linked (froms : List ℕ) (nodes : ℕ) (head prev : List ℕ) (i : ℕ) : Type 0 where
  pub heads : (n : ℕ) → n < nodes → get_or head n 0 ≡ last froms n i
  pub prevs : (e : ℕ) → e < i → get_or prev e 0 ≡ last froms (get_or froms e 0) e

pub record Lists : Type 0 where
  pub head : List ℕ
  pub prev : List ℕ

abbrev pub lists : (head prev : List ℕ) → Lists
lists head prev = record { head = head; prev = prev }

-- edge e goes before the list of the node that it leaves
abbrev pub link_one : (froms : List ℕ) (e : ℕ) → Lists → Lists
link_one froms e x = lists (set x.head (get_or froms e 0) (e + 1)) (set x.prev e (get_or x.head (get_or froms e 0) 0))

unfoldable pub link_to : (froms : List ℕ) (i : ℕ) → Lists → Lists
link_to froms zero x = x
link_to froms (suc i) x = link_one froms i (link_to froms i x)

-- the lists have room for all edges, by their lengths
pub record Linkable (froms : List ℕ) (head prev : ℕ) : Type 0 where
  pub room : length froms ≤ prev
  pub few : length froms ≤ 65535
  pub starts : All (λ e. get_or froms e 0 < head) (length froms)

pub data Links (froms head prev : List ℕ) : Bool → Lists → Type 0 where
  linked : Linkable froms (length head) (length prev) → Links froms head prev true (link_to froms (length froms) (lists head prev))
  kept : (Linkable froms (length head) (length prev) → ⊥) → Links froms head prev false (lists head prev)

-- both are lent the same slices
abbrev pub SameLists : EdgeLists → EdgeLists → Type 0
SameLists x z = (z.head.ghost_name ≡ x.head.ghost_name) × (z.prev.ghost_name ≡ x.prev.ghost_name)

-- ---- the stack: marks d, places st, of which those below top are in use

-- node b has a mark, and there is a place that holds its number
abbrev pub holds : (d st : List ℕ) (top b : ℕ) → Bool
holds d st top b = ltb top (length st) && (ltb b (length d) && leb b 65535)

-- whether node b goes on the stack: it is wanted, and is not there
abbrev pub fresh : (d st : List ℕ) (top b : ℕ) (wanted : Bool) → Bool
fresh d st top b wanted = wanted && (holds d st top b && eqb (get_or d b 0) 0)

pub record Put (d st : List ℕ) (top b : ℕ) (new : Bool) (d' st' : List ℕ) (top' : ℕ) : Type 0 where
  pub marks : d' ≡ cond new (set d b 1) d
  pub stack : st' ≡ cond new (set st top b) st
  pub height : top' ≡ cond new (top + 1) top

-- the node on top is taken off, and its mark with it; none is where the stack is empty, or ends below its top
pub data Takes (d st : List ℕ) (top : ℕ) : Option ℕ → (d' st' : List ℕ) (top' : ℕ) → Type 0 where
  taken : {t : ℕ} → top ≡ t + 1 → t < length st → Takes d st top (Some (get_or st t 0)) (set d (get_or st t 0) 0) st t
  untaken : ((t : ℕ) → top ≡ t + 1 → t < length st → ⊥) → Takes d st top None d st top

abbrev pub SamePending : Pending → Pending → Type 0
SamePending x z = (z.marks.ghost_name ≡ x.marks.ghost_name) × (z.stack.ghost_name ≡ x.stack.ghost_name)

-- the nodes below n, the first on top; i of them are written
unfoldable pub count_down : (n : ℕ) (st : List ℕ) (i : ℕ) → List ℕ
count_down n st zero = st
count_down n st (suc i) = set (count_down n st i) i (n - 1 - i)

pub data Fills (n : ℕ) (st : List ℕ) : List ℕ → Type 0 where
  filled : n ≤ length st → n ≤ 65535 → Fills n st (count_down n st n)
  kept : (n ≤ length st → n ≤ 65535 → ⊥) → Fills n st st

unfoldable pub zeros : List ℕ → ℕ
zeros [] = 0
zeros (x ∷ d) = cond (eqb x 0) 1 0 + zeros d

-- the stack has room for every node that is not marked, holds nodes, and holds every node that is marked
pub record Stacked (nodes : ℕ) (d st : List ℕ) (top : ℕ) : Type 0 where
  pub free : zeros d + top ≤ length st
  pub entries : (j : ℕ) → j < top → get_or st j 0 < nodes
  pub marked : (n : ℕ) → n < nodes → (get_or d n 0 ≡ 0 → ⊥) → (j : ℕ) × (j < top) × (get_or st j 0 ≡ n)
