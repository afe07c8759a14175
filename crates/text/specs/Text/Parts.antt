-- What the parts of the reader say.
use Rattle.std.specs.Prelude.{ℕ, zero, suc, ◌+◌, ◌≡◌, List, [], ◌∷◌, set, length, Option, Ok, Err}
use Rattle.scan.specs.declared.At.{At}
use Rattle.graph.specs.Graph.{PerNode, PerEdge, Ranges}
use Rattle.graph.specs.Refusals.{Judged}
use Rattle.graph.specs.declared.Node.{Node}
use Rattle.graph.specs.declared.Edge.{Edge}
use Rattle.graph.specs.declared.Size.{Size}
use Rattle.graph.specs.declared.Refusal.TheVariants as why
use Rattle.records.specs.Records.{read_as, node_at, kept}
use Rattle.extent.specs.Extent.{Ran, Parsed, end_of}
use Rattle.extent.specs.Room.{node_slots, edge_slots}
use Rattle.extent.specs.declared.NodeSlots.{NodeSlots}
use Rattle.extent.specs.declared.EdgeSlots.{EdgeSlots}
use Rattle.extent.specs.declared.Slots.{Slots}
use Rattle.handover.specs.Handover.{Lent, NodesWritten, EdgesWritten}
use Rattle.text.specs.Text.{Reading, on_row, edge_row, says, wrong, text_at, node_columns, edge_columns, Stores}
use Rattle.text.specs.Text.Kept.{kept_all}

-- ---- rows, by what they say and by where they end

module _ {X : Type 0} (row : (from i : ℕ) → Option (At X)) where
  -- what so many rows say, up to the first that is wrong
  unfoldable pub rows_from : (count from i : ℕ) → List X
  rows_from zero from i = []
  rows_from (suc count) from i = on_row (row from i) [] (λ x p. x ∷ rows_from count p (i + 1))

  -- where they end, if the first row of all has this number
  unfoldable pub end_from : (first count from i : ℕ) → Ran
  end_from first zero from i = Ok from
  end_from first (suc count) from i = on_row (row from i) (Err (why.Row (first + i))) (λ x p. end_from first count p (i + 1))

-- a node's row, as it is handed on
abbrev pub kept_row : List ℕ → (from i : ℕ) → Option (At Node)
kept_row s from i = read_as kept (node_at s from i)

-- ---- places, by what is put there

abbrev pub node_put : NodeSlots → (i : ℕ) → Node → NodeSlots
node_put x i v = record { kinds = set x.kinds i v.kind; checks = set x.checks i v.check; privileged = set x.privileged i v.privileged; entries = set x.entries i v.entry; grants = set x.grants i v.grants }

abbrev pub edge_put : EdgeSlots → (i : ℕ) → Edge → EdgeSlots
edge_put x i v = record { froms = set x.froms i v.from; tos = set x.tos i v.to; ways = set x.ways i v.way }

-- one after another, from place i on
unfoldable pub put_all : {X S : Type 0} → (put : S → (i : ℕ) → X → S) → S → (i : ℕ) → List X → S
put_all put x i [] = x
put_all put x i (v ∷ vs) = put_all put (put x i v) (i + 1) vs

-- so many rows, read from a position on and put there
pub record RowsRead {X S : Type 0} (row : (from i : ℕ) → Option (At X)) (put : S → (i : ℕ) → X → S) (from first n : ℕ) (before : S) (r : Ran) (after : S) : Type 0 where
  pub answer : r ≡ end_from row first n from 0
  pub so : after ≡ put_all put before 0 (rows_from row n from 0)

pub record NodesRead (s : List ℕ) (from first n : ℕ) (r : Ran) (before after : PerNode (List ℕ)) : Type 0 where
  pub answer : r ≡ end_from (kept_row s) first n from 0
  pub so : NodesWritten before (node_columns (rows_from (kept_row s) n from 0)) after

pub record EdgesRead (s : List ℕ) (from first m : ℕ) (r : Ran) (before after : PerEdge (List ℕ)) : Type 0 where
  pub answer : r ≡ end_from (edge_row s) first m from 0
  pub so : EdgesWritten before (edge_columns (rows_from (edge_row s) m from 0)) after

abbrev pub slots : Slots → Lent
slots x = record { nodes = node_slots x.nodes; edges = edge_slots x.edges }

-- ---- a whole text, by its parts

-- the edge rows, the first of which has this number, and the text's end
unfoldable pub tail_of : List ℕ → (p row : ℕ) → Size → Parsed
tail_of s p row c = end_of (end_from (edge_row s) row c.m p 0) (length s) (row + c.m) c

pub record TailRead (s : List ℕ) (p row : ℕ) (c : Size) (r : Parsed) (before after : PerEdge (List ℕ)) : Type 0 where
  pub answer : r ≡ tail_of s p row c
  pub so : EdgesWritten before (edge_columns (rows_from (edge_row s) c.m p 0)) after

-- What the text means, with its nodes as they are kept.
pub data Parses (before : Lent) (s : List ℕ) (from row : ℕ) : Parsed → Lent → Type 0 where
  counted : {c : Size} {ns : List Node} {es : List Edge} {after : Lent} → Ranges c → text_at s from row ≡ says c.k ns es → c.n ≡ length ns → c.m ≡ length es
      → Stores before (kept_all ns) es after → Parses before s from row (Ok c) after
  faulty : {r : ℕ} {after : Lent} → text_at s from row ≡ wrong r → Parses before s from row (Err (why.Row r)) after

-- ---- what was parsed, judged and handed over

abbrev pub told : Judged → Size → Reading
told (Ok tt) c = Ok c
told (Err r) c = Err r
