-- What the check answers: when each of the refusals 1 to 4 is given, and the answer as a computation. Definitions alone.
pub mod Laws
use Rattle.std.specs.Prelude.{ℕ, ◌<◌, ◌^◌, Bool, true, false, cond, not, ◌&&◌, ◌||◌, leb, ltb, eqb, length, get_or}
use Rattle.truth.specs.Truth.{All, First, first}
use Rattle.graph.specs.Graph.{Graph, PerNode, PerEdge, map_node, map_edge, node_at, every_node, every_edge, Shape, NodeObeys, EdgeObeys, NoEntry, Acceptable}
use Rattle.graph.specs.declared.Size.{Size}
use Rattle.graph.specs.Refusals.{Numbered, ◌at◌, numbered}
use Rattle.graph.specs.declared.Refusal.{Refusal}
use Rattle.graph.specs.declared.Refusal.TheVariants as why
use Rattle.graph.specs.Refusals.{Judged}
use Rattle.std.specs.Prelude.{Ok, Err}

-- The lowest number that applies is given, with its place.
pub data Refuses (g : Graph) : Numbered → Type 0 where
  shape : (Shape g → ⊥) → Refuses g (1 at 0)
  node : {i : ℕ} → Shape g → i < g.size.n → First (NodeObeys g) g.size.n i → Refuses g (2 at i)
  edge : {e : ℕ} → Shape g → All (NodeObeys g) g.size.n → e < g.size.m → First (EdgeObeys g) g.size.m e → Refuses g (3 at e)
  entry : Shape g → All (NodeObeys g) g.size.n → All (EdgeObeys g) g.size.m → All (NoEntry g.nodes.entries) g.size.n → Refuses g (4 at 0)

pub data Judges (g : Graph) : Judged → Type 0 where
  accepted : Acceptable g → Judges g (Ok tt)
  refused : {r : Refusal} → Refuses g (numbered r) → Judges g (Err r)

-- ---- The same as a computation

abbrev pub range_test : Size → Bool
range_test s = leb 1 s.k && (leb s.k 64 && (leb 1 s.n && (leb s.n 1024 && leb s.m 4096)))

unfoldable pub shape_test : Graph → Bool
shape_test g =
    range_test g.size
    && (every_node (map_node (λ l. eqb (length l) g.size.n) g.nodes) && every_edge (map_edge (λ l. eqb (length l) g.size.m) g.edges))

abbrev pub node_passes : (k : ℕ) → PerNode ℕ → Bool
node_passes k x =
    leb x.kinds 2 && (cond (eqb x.kinds 2) (ltb x.checks k) (eqb x.checks 0)
    && (leb x.privileged 1 && (leb x.entries 1 && ltb x.grants (2 ^ k))))

unfoldable pub node_test : Graph → ℕ → Bool
node_test g n = node_passes g.size.k (node_at g.nodes n)

unfoldable pub edge_test : Graph → ℕ → Bool
edge_test g e =
    let from = get_or g.edges.froms e 0 in
    let to = get_or g.edges.tos e 0 in
    let leaves = get_or g.nodes.kinds from 0 in
    ltb from g.size.n && (ltb to g.size.n
    && cond (eqb (get_or g.edges.ways e 0) 0) (eqb leaves 0)
    (eqb (get_or g.edges.ways e 0) 1 && ((eqb leaves 0 || eqb leaves 2) && eqb (get_or g.nodes.grants from 0) (get_or g.nodes.grants to 0))))

unfoldable pub no_entry : Graph → ℕ → Bool
no_entry g n = not (eqb (get_or g.nodes.entries n 0) 1)

unfoldable pub judge : Graph → Judged
judge g =
    let i = first (node_test g) g.size.n in
    let e = first (edge_test g) g.size.m in
    cond (shape_test g)
    (cond (ltb i g.size.n) (Err (why.Node i))
    (cond (ltb e g.size.m) (Err (why.Edge e))
    (cond (ltb (first (no_entry g) g.size.n) g.size.n) (Ok tt) (Err why.NoEntry))))
    (Err why.Shape)
