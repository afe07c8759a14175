-- A node whose grants have a member at 64 or above is handed to the graph's judge with no kind. It breaks the node's rule as its grants do, so
-- that the judge answers as it would of the text's own graph.
use Rattle.std.specs.Prelude.{ℕ, zero, suc, ◌≤◌, ◌<◌, ◌^◌, ◌≡◌, refl, List, [], ◌∷◌, map, ◌↔◌, length, ltb}
use Rattle.std.proofs.Common.{suc-le-suc, sym, ap₂, subst, arith, lt_of_lt_of_le, pow_mono, lt-ltb}
use Rattle.std.proofs.lemmas.List.{length-map}
use Rattle.truth.specs.Truth.{All, First}
use Rattle.truth.specs.Truth.Bools.{by_split}
use Rattle.sets.specs.Sets.Members.{below_members}
use Rattle.graph.specs.Graph.{size_of, nodes_of, map_node, map_edge, NodesLong, EdgesLong, Graph, NodeRule, NodeObeys, Ranges, Shape, Acceptable}
use Rattle.graph.specs.Refusals.{Numbered}
use Rattle.graph.specs.Judge.{Refuses, Judges}
use Rattle.graph.specs.Refusals.{Judged}
use Rattle.graph.specs.declared.Node.{Node}
use Rattle.graph.specs.declared.Edge.{Edge}
use Rattle.records.specs.Records.{kept}
use Rattle.text.specs.Text.{graph_from, node_columns, edge_columns}

abbrev pub kept_all : List Node → List Node
kept_all = map kept

-- ---- a node that obeys its rule is kept as it is

abbrev Obeys : ℕ → Node → Type 0
Obeys k x = NodeRule k (nodes_of x.kind x.check x.privileged x.entry x.grants)

kept_obeying : (k : ℕ) (x : Node) → Obeys k (kept x) → kept x ≡ x
kept_obeying k x r = by_split (ltb x.grants (2 ^ 64)) (λ t. rw t refl) (λ t. absurd (omega (arith, rw t at r.kind_known)))

obeying_kept : {k : ℕ} → k ≤ 64 → (x : Node) → Obeys k x → kept x ≡ x
obeying_kept {k} l x r = rw (lt-ltb x.grants (2 ^ 64) (lt_of_lt_of_le ((below_members k x.grants).1 r.grants_below) (pow_mono l))) refl

module _ (k : ℕ) (es : List Edge) where
  obeys_same : k ≤ 64 → (ns : List Node) (i : ℕ) → NodeObeys (graph_from k (kept_all ns) es) i ↔ NodeObeys (graph_from k ns es) i
  obeys_same l [] i = (λ r. r, λ r. r)
  obeys_same l (x ∷ ns) zero = (λ r. subst (Obeys k) (kept_obeying k x r) r, λ r. subst (Obeys k) (sym (obeying_kept l x r)) r)
  obeys_same l (x ∷ ns) (suc i) = obeys_same l ns i

  all_same : (ns : List Node) → All (NodeObeys (graph_from k (kept_all ns) es)) (length (kept_all ns)) → kept_all ns ≡ ns
  all_same [] a = refl
  all_same (x ∷ ns) a = ap₂ ◌∷◌ (kept_obeying k x (a 0 (omega arith))) (all_same ns (λ i h. a (suc i) (suc-le-suc h)))

-- ---- a text's slices are as long as its counts say, so that only its counts can break the shape

pub columns_long : (ns : List Node) → NodesLong (length ns) (map_node length (node_columns ns))
columns_long ns = record { kinds = length-map ns _; checks = length-map ns _; privileged = length-map ns _; entries = length-map ns _; grants = length-map ns _ }

pub edge_columns_long : (es : List Edge) → EdgesLong (length es) (map_edge length (edge_columns es))
edge_columns_long es = record { froms = length-map es _; tos = length-map es _; ways = length-map es _ }

shape_same : {k : ℕ} (ms ns : List Node) (es : List Edge) → length ms ≡ length ns → Shape (graph_from k ms es) → Shape (graph_from k ns es)
shape_same {k} ms ns es e s = record {
  ranges = subst (λ n. Ranges (size_of k n (length es))) e s.ranges;
  nodes = columns_long ns;
  edges = edge_columns_long es;
}

-- ---- the judge's answer

first_same : {P Q : ℕ → Type 0} {n r : ℕ} → ((i : ℕ) → P i ↔ Q i) → First P n r → First Q n r
first_same e f = record { within = f.within; before = λ i h. (e i).0 (f.before i h); broken = λ h q. f.broken h ((e _).1 q) }

module _ (k : ℕ) (ns : List Node) (es : List Edge) where
  pub kept_same : Acceptable (graph_from k (kept_all ns) es) → kept_all ns ≡ ns
  kept_same a = all_same k es ns a.nodes

  long : length (kept_all ns) ≡ length ns
  long = length-map ns kept

  onto_text : (P : Graph → Type 0) → All (NodeObeys (graph_from k (kept_all ns) es)) (length (kept_all ns)) → P (graph_from k (kept_all ns) es) → P (graph_from k ns es)
  onto_text P a = subst (λ l. P (graph_from k l es)) (all_same k es ns a)

  kept_refuses : {x : Numbered} → Refuses (graph_from k (kept_all ns) es) x → Refuses (graph_from k ns es) x
  kept_refuses (Refuses.shape d) = Refuses.shape (λ s. d (shape_same ns (kept_all ns) es (sym long) s))
  kept_refuses (Refuses.node {i} s h f) =
      Refuses.node (shape_same (kept_all ns) ns es long s) (subst (λ n. i < n) long h)
      (first_same (obeys_same k es s.ranges.k_high ns) (subst (λ n. First (NodeObeys (graph_from k (kept_all ns) es)) n i) long f))
  kept_refuses {x} (Refuses.edge s a h f) = onto_text (λ g. Refuses g x) a (Refuses.edge s a h f)
  kept_refuses {x} (Refuses.entry s a b n) = onto_text (λ g. Refuses g x) a (Refuses.entry s a b n)

  pub kept_judges : {j : Judged} → Judges (graph_from k (kept_all ns) es) j → Judges (graph_from k ns es) j
  kept_judges (Judges.accepted a) = Judges.accepted (onto_text Acceptable a.nodes a)
  kept_judges (Judges.refused f) = Judges.refused (kept_refuses f)
