-- What a text means, and what the reader answers and stores. Definitions alone.
pub mod Kept
pub mod Parts
pub mod Slots
pub mod Ends
pub mod Laws
pub mod Gateway
use Rattle.std.specs.Prelude.{ℕ, zero, suc, ◌+◌, ◌≡◌, List, [], ◌∷◌, map, cond, length, ltb, Option, Some, None, Result, Ok, Err}
use Rattle.graph.specs.Graph.{Graph, size_of, PerNode, PerEdge, nodes_of, edges_of}
use Rattle.graph.specs.Refusals.{Numbered, ◌at◌, numbered}
use Rattle.graph.specs.Judge.{judge}
use Rattle.graph.specs.declared.Refusal.{Refusal}
use Rattle.graph.specs.Refusals.{Judged}
use Rattle.graph.specs.declared.Node.{Node}
use Rattle.graph.specs.declared.Edge.{Edge}
use Rattle.graph.specs.declared.Size.{Size}
use Rattle.extent.specs.Extent.{most_bytes}
use Rattle.handover.specs.Handover.{Lent, roomy, NodesWritten, EdgesWritten}
use Rattle.scan.specs.declared.At.{At}
use Rattle.scan.specs.Scan.{read_to}
use Rattle.records.specs.Records.{header_at, node_at, edge_at}

-- The size of the graph that was read, or why there is none.
abbrev pub Reading : Type 0
Reading = Result Size Refusal

-- ---- A text

-- Rows that follow one another: what they say and where the text goes on after them; or the number of the first that is wrong.
abbrev pub Rows : Type 0 → Type 0
Rows X = Result (At (List X)) ℕ

abbrev pub on_row : {X Y : Type 0} → Option (At X) → Y → (X → (next : ℕ) → Y) → Y
on_row (Some x) a f = f x.value x.next
on_row None a f = a

abbrev pub onto : {X : Type 0} → X → Rows X → Rows X
onto x (Ok xs) = Ok (read_to (x ∷ xs.value) xs.next)
onto x (Err i) = Err i

-- So many rows from a position on, the first with number i.
unfoldable pub rows_at : {X : Type 0} → (row : (from i : ℕ) → Option (At X)) → (count from i : ℕ) → Rows X
rows_at row zero from i = Ok (read_to [] from)
rows_at row (suc count) from i = on_row (row from i) (Err i) (λ x p. onto x (rows_at row count p (i + 1)))

abbrev pub on_rows : {X Y : Type 0} → Rows X → (ℕ → Y) → (List X → (next : ℕ) → Y) → Y
on_rows (Ok xs) f g = g xs.value xs.next
on_rows (Err i) f g = f i

abbrev pub edge_row : List ℕ → (from i : ℕ) → Option (At Edge)
edge_row s from i = edge_at s from

-- What a text says: K, its nodes and its edges; or which row is wrong, missing or extra.
pub data Meaning : Type 0 where
  says : (k : ℕ) → List Node → List Edge → Meaning
  wrong : (row : ℕ) → Meaning

-- The text from a position on, whose first row has this number: the first row, N node rows, M edge rows, and nothing after them.
unfoldable pub text_at : List ℕ → (from row : ℕ) → Meaning
text_at s from row =
    on_row (header_at s from) (wrong row) (λ c p.
    on_rows (rows_at (node_at s) c.n p 0) (λ i. wrong (row + 1 + i)) (λ nodes p.
    on_rows (rows_at (edge_row s) c.m p 0) (λ j. wrong (row + 1 + c.n + j)) (λ edges p.
    cond (ltb p (length s)) (wrong (row + 1 + c.n + c.m)) (says c.k nodes edges))))

-- ---- Its graph

-- What the rows give for each slice.
abbrev pub node_columns : List Node → PerNode (List ℕ)
node_columns ns = nodes_of (map (λ x. x.kind) ns) (map (λ x. x.check) ns) (map (λ x. x.privileged) ns) (map (λ x. x.entry) ns) (map (λ x. x.grants) ns)

abbrev pub edge_columns : List Edge → PerEdge (List ℕ)
edge_columns es = edges_of (map (λ x. x.from) es) (map (λ x. x.to) es) (map (λ x. x.way) es)

abbrev pub graph_from : ℕ → List Node → List Edge → Graph
graph_from k ns es = record { size = size_of k (length ns) (length es); nodes = node_columns ns; edges = edge_columns es }

-- ---- The reader

-- What is read: a graph, or the refusal.
pub data Outcome : Type 0 where
  read : (k : ℕ) → List Node → List Edge → Outcome
  refused : Numbered → Outcome

abbrev pub on_judged : Judged → (k : ℕ) → List Node → List Edge → Outcome
on_judged (Ok tt) k ns es = read k ns es
on_judged (Err r) k ns es = refused (numbered r)

abbrev pub on_meaning : Meaning → Outcome
on_meaning (wrong row) = refused (11 at row)
on_meaning (says k ns es) = on_judged (judge (graph_from k ns es)) k ns es

-- 12 for a text above 65,536 bytes, 11 for its rows, then 2 to 4 as the graph is judged. The text is read from a position on, and its first row
-- there has this number.
unfoldable pub outcome_from : List ℕ → (from row : ℕ) → Outcome
outcome_from s from row = cond (ltb most_bytes (length s)) (refused (12 at 0)) (on_meaning (text_at s from row))

-- 1 for the slices' lengths comes first.
unfoldable pub reading_from : Lent → List ℕ → (from row : ℕ) → Outcome
reading_from x s from row = cond (roomy x) (outcome_from s from row) (refused (1 at 0))

-- The same for a whole text.
abbrev pub outcome : List ℕ → Outcome
outcome s = outcome_from s 0 1

abbrev pub reading : Lent → List ℕ → Outcome
reading x s = reading_from x s 0 1

-- The first places hold what the rows say, and every other place what it held.
pub record Stores (before : Lent) (ns : List Node) (es : List Edge) (after : Lent) : Type 0 where
  pub nodes : NodesWritten before.nodes (node_columns ns) after.nodes
  pub edges : EdgesWritten before.edges (edge_columns es) after.edges

-- The answer that says what is read, and what the slices hold after it: a refusal stores nothing.
pub data Tells (o : Outcome) (before : Lent) : Reading → Lent → Type 0 where
  stored : {k : ℕ} {ns : List Node} {es : List Edge} {after : Lent} → o ≡ read k ns es → Stores before ns es after
      → Tells o before (Ok (size_of k (length ns) (length es))) after
  refuses : {r : Refusal} → o ≡ refused (numbered r) → Tells o before (Err r) before
