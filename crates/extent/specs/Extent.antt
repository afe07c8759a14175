-- How long slices and a text may be, and how a text ends. Definitions alone.
pub mod Laws
use Rattle.std.specs.Prelude.{ℕ, ◌≤◌, ◌<◌, cond, ltb, Result, Ok, Err}
use Rattle.graph.specs.Graph.{PerNode, PerEdge, NodesLong, EdgesLong}
use Rattle.graph.specs.declared.Size.{Size}
use Rattle.graph.specs.declared.Refusal.{Refusal}
use Rattle.graph.specs.declared.Refusal.TheVariants as why
use Rattle.graph.specs.Refusals.{Judged}

-- 1,024 places for what is a node's, 4,096 for what is an edge's: room for every graph.
abbrev pub most_nodes : ℕ
most_nodes = 1024

abbrev pub most_edges : ℕ
most_edges = 4096

abbrev pub Ample : PerNode ℕ → PerEdge ℕ → Type 0
Ample x y = NodesLong most_nodes x × EdgesLong most_edges y

-- A text has at most 65,536 bytes.
abbrev pub most_bytes : ℕ
most_bytes = 65536

-- 1 for the slices' lengths, then 12 for the text's.
pub data SizesSo (x : PerNode ℕ) (y : PerEdge ℕ) (text : ℕ) : Judged → Type 0 where
  cramped : (Ample x y → ⊥) → SizesSo x y text (Err why.Shape)
  long : Ample x y → most_bytes < text → SizesSo x y text (Err why.TooLong)
  fit : Ample x y → text ≤ most_bytes → SizesSo x y text (Ok tt)

-- Where rows end: at the position past the last of them, or with the refusal of the first that is wrong. What a text says of its counts, or the refusal
-- of its first wrong, missing or extra row.
abbrev pub Ran : Type 0
Ran = Result ℕ Refusal

abbrev pub Parsed : Type 0
Parsed = Result Size Refusal

abbrev pub on_ran : {Y : Type 0} → Ran → (Refusal → Y) → (ℕ → Y) → Y
on_ran (Err r) f g = f r
on_ran (Ok q) f g = g q

-- A wrong row's refusal; or, where the text goes on past the last row, the extra row's; or else the counts.
unfoldable pub end_of : Ran → (len extra : ℕ) → Size → Parsed
end_of ran len extra c = on_ran ran Err (λ q. cond (ltb q len) (Err (why.Row extra)) (Ok c))
