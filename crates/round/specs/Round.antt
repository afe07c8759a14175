-- One round of the equations by slices: from the sums of the nodes to the out sets of the edges, and from these to the sums. Definitions alone:
-- their laws are in the modules below. There are as many nodes as kinds, and as many edges as from nodes, or to nodes: of a graph's size k alone
-- is looked at. A node has two sums: of all that arrives, in the list s, and of what arrives and passes its check, in the list q; a: for SURE,
-- MAY's sums of what passes; w: for SURE, MAY's out sets.
pub mod Laws
pub mod Gathered
use Rattle.std.specs.Prelude.{ℕ, zero, suc, ◌≤◌, ◌<◌, ◌≡◌, List, Bool, true, false, cond, length, get_or}
use Rattle.truth.specs.Truth.{All}
use Rattle.graph.specs.Graph.{Graph, System}
use Rattle.flow.specs.Walk.{into, counts, carried, from_of, to_of}
use Rattle.sums.specs.Sums.{Begins}

abbrev pub nodes : Graph → ℕ
nodes g = length g.nodes.kinds

-- what one edge's out set needs of the slices
pub record Carriable (g : Graph) (a s q : List ℕ) (e : ℕ) : Type 0 where
  pub from : e < length g.edges.froms
  pub to : e < length g.edges.tos
  pub way : e < length g.edges.ways
  pub kind : from_of g e < length g.nodes.kinds
  pub check : from_of g e < length g.nodes.checks
  pub mark : from_of g e < length g.nodes.privileged
  pub grant : from_of g e < length g.nodes.grants
  pub any : from_of g e < length a
  pub ins : from_of g e < length s
  pub past : from_of g e < length q
  pub into_grant : to_of g e < length g.nodes.grants

-- the slices have a place for each node and each edge
pub record Room (g : Graph) (a s q out : List ℕ) : Type 0 where
  pub checks_long : nodes g ≤ length g.nodes.checks
  pub privileged_long : nodes g ≤ length g.nodes.privileged
  pub grants_long : nodes g ≤ length g.nodes.grants
  pub any_long : nodes g ≤ length a
  pub ins_long : nodes g ≤ length s
  pub past_long : nodes g ≤ length q
  pub tos_long : length g.edges.tos ≡ length g.edges.froms
  pub ways_long : length g.edges.froms ≤ length g.edges.ways
  pub out_long : length g.edges.froms ≤ length out

-- all ends of edges are nodes below n, and 16 bits hold n
pub record EndsLow (n : ℕ) (froms tos : List ℕ) : Type 0 where
  pub few : n ≤ 65535
  pub starts : All (λ e. get_or froms e 0 < n) (length froms)
  pub ends : All (λ e. get_or tos e 0 < n) (length tos)

pub record CanSpread (g : Graph) (a s q out : List ℕ) : Type 0 where
  pub room : Room g a s q out
  pub low : EndsLow (nodes g) g.edges.froms g.edges.tos

module _ (g : Graph) (y : System) (a s q out : List ℕ) where
  -- every edge's out set is what it carries, the rest is as it was
  pub record SpreadAll (out' : List ℕ) : Type 0 where
    pub long : length out' ≡ length out
    pub sets : (e : ℕ) → e < length g.edges.froms → get_or out' e 0 ≡ carried g y a s q e
    pub rest : (e : ℕ) → length g.edges.froms ≤ e → get_or out' e 0 ≡ get_or out e 0

  -- what the slice of out sets holds after it, and whether it was stored
  pub data Spreads : Bool → List ℕ → Type 0 where
    spread : {out' : List ℕ} → CanSpread g a s q out → SpreadAll out' → Spreads true out'
    unspread : (CanSpread g a s q out → ⊥) → Spreads false out

-- ---- from the out sets o to the sums

-- the sums after the out sets of the edges below i arrived, one after the other, of those edges that count
unfoldable pub sums_to : (tos : List ℕ) (y : System) (o : List ℕ) (counted : ℕ → Bool) → ℕ → List ℕ → List ℕ
sums_to tos y o counted zero s = s
sums_to tos y o counted (suc e) s =
    cond (counted e) (into y (sums_to tos y o counted e s) (get_or tos e 0) (get_or o e 0)) (sums_to tos y o counted e s)

abbrev pub ins_to : Graph → System → (o : List ℕ) → ℕ → List ℕ → List ℕ
ins_to g y o = sums_to g.edges.tos y o (λ e. true)

abbrev pub past_to : Graph → System → (w o : List ℕ) → ℕ → List ℕ → List ℕ
past_to g y w o = sums_to g.edges.tos y o (λ e. counts g y w e (get_or o e 0))

-- every edge ends at a node, which 16 bits hold, and has both out sets
pub record Gatherable (g : Graph) (w o : List ℕ) : Type 0 where
  pub few : nodes g ≤ 65535
  pub checks_long : nodes g ≤ length g.nodes.checks
  pub wide_long : length g.edges.tos ≤ length w
  pub out_long : length g.edges.tos ≤ length o
  pub ends : All (λ e. to_of g e < nodes g) (length g.edges.tos)

-- what the sums of the nodes hold after it, and whether it was stored: they begin as the entry marks have it, and then all edges arrive
module _ (g : Graph) (y : System) (w o s q : List ℕ) where
  pub data Gathers : Bool → (s' q' : List ℕ) → Type 0 where
    gathered : {s₀ q₀ : List ℕ} → Gatherable g w o → Begins y g.size.k (nodes g) g.nodes s q true s₀ q₀
        → Gathers true (ins_to g y o (length g.edges.tos) s₀) (past_to g y w o (length g.edges.tos) q₀)
    unsent : (Gatherable g w o → ⊥) → Gathers false s q
    unbegun : {s₀ q₀ : List ℕ} → Begins y g.size.k (nodes g) g.nodes s q false s₀ q₀ → Gathers false s q
