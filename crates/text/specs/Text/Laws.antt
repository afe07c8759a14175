-- How the answer follows from what was parsed and judged; and one answer and one content for every input.
use Rattle.std.specs.Prelude.{ℕ, ◌≤◌, ◌<◌, ◌≡◌, List, ltb, length, take, Ok, Err}
use Rattle.std.proofs.Math.Path.{refl}
use Rattle.std.proofs.Common.{sym, ap, ◌∙◌, subst, arith}
use Rattle.std.proofs.lemmas.List.{length-map}
use borrow.Author.Tests.{lt-ltb, le-ltb}
use Rattle.truth.specs.Truth.Bools.{by_split}
use Rattle.truth.specs.Truth.Tests.{true_says, false_says}
use Rattle.graph.specs.Graph.{Graph, PerNode, PerEdge, size_of, map_node, map_edge, NodesLong, EdgesLong, Ranges, Acceptable}
use Rattle.graph.specs.Refusals.{numbered, ◌at◌}
use Rattle.graph.specs.Refusals.Laws.{numbered_one}
use Rattle.graph.specs.Judge.{Judges, judge}
use Rattle.graph.specs.Judge.Laws.{judge_judges, judges_judge, accepted_is}
use Rattle.graph.specs.declared.Size.{Size}
use Rattle.graph.specs.declared.Refusal.{Refusal}
use Rattle.graph.specs.declared.Refusal.TheVariants as why
use Rattle.graph.specs.Refusals.{Judged}
use Rattle.handover.specs.Handover.{Lent, lists_lent, Room, held_graph, NodesWritten, EdgesWritten, Copied, HandsOver, cramped, refused, accepted}
use Rattle.handover.specs.Handover.Laws.{room?, held_judges, wrote, nodes_back, edges_back, written_one, edges_written_one}
use Rattle.graph.specs.declared.Node.{Node}
use Rattle.graph.specs.declared.Edge.{Edge}
use Rattle.records.specs.Records.{kept}
use Rattle.extent.specs.Extent.{SizesSo}
use Rattle.extent.specs.Extent as extent
use Rattle.extent.specs.Extent.{Parsed}
use Rattle.extent.specs.Room.{slots_graph, Clear}
use Rattle.extent.specs.declared.Slots.{Slots}
use Rattle.graph.specs.Lent.{lent}
use Rattle.graph.specs.declared.LentGraph.{LentGraph}
use Rattle.text.specs.Text.{Reading}
use Rattle.text.specs.Text.{Meaning, says, wrong, text_at, node_columns, edge_columns, graph_from, Outcome, read, on_judged, on_meaning, outcome_from, reading_from, Stores, Tells, stored, refuses}
use Rattle.text.specs.Text as text
use Rattle.text.specs.Text.Kept.{columns_long, edge_columns_long, kept_all, kept_judges, kept_same}
use Rattle.text.specs.Text.Parts.{slots, Parses, counted, faulty, told}

-- ---- what was parsed

pub record Said (c : Size) (before : Lent) (s : List ℕ) (from row : ℕ) (after : Lent) : Type 0 where
  pub ns : List Node
  pub es : List Edge
  pub ranges : Ranges c
  pub means : text_at s from row ≡ says c.k ns es
  pub n_is : c.n ≡ length ns
  pub m_is : c.m ≡ length es
  pub so : Stores before (kept_all ns) es after

pub counted_is : {c : Size} {before : Lent} {s : List ℕ} {from row : ℕ} {after : Lent} → Parses before s from row (Ok c) after → Said c before s from row after
counted_is (counted {ns = ns} {es = es} r e n m h) = record { ns = ns; es = es; ranges = r; means = e; n_is = n; m_is = m; so = h }

pub faulty_is : {x : ℕ} {before : Lent} {s : List ℕ} {from row : ℕ} {after : Lent} → Parses before s from row (Err (why.Row x)) after → text_at s from row ≡ wrong x
faulty_is (faulty e) = e

-- what is refused of a text is a row
faulty_row : {r : Refusal} {before : Lent} {s : List ℕ} {from row : ℕ} {after : Lent} → Parses before s from row (Err r) after → (x : ℕ) × (r ≡ why.Row x) × (text_at s from row ≡ wrong x)
faulty_row (faulty {r = x} e) = (x, refl, e)

pub stores_room : {before after : Lent} {ns : List Node} {es : List Edge} → Stores before ns es after → Room before → Room after
stores_room {before} {after} {ns} {es} h r =
    let cs = node_columns ns in
    let ds = edge_columns es in
    let a = h.nodes in
    let b = h.edges in
    let p = r.nodes in
    let q = r.edges in
    record {
      nodes = record { kinds = wrote before.nodes.kinds cs.kinds after.nodes.kinds a.kinds p.kinds; checks = wrote before.nodes.checks cs.checks after.nodes.checks a.checks p.checks; privileged = wrote before.nodes.privileged cs.privileged after.nodes.privileged a.privileged p.privileged; entries = wrote before.nodes.entries cs.entries after.nodes.entries a.entries p.entries; grants = wrote before.nodes.grants cs.grants after.nodes.grants a.grants p.grants };
      edges = record { froms = wrote before.edges.froms ds.froms after.edges.froms b.froms q.froms; tos = wrote before.edges.tos ds.tos after.edges.tos b.tos q.tos; ways = wrote before.edges.ways ds.ways after.edges.ways b.ways q.ways };
    }

module _ {c : Size} {zeros held : Lent} {s : List ℕ} {from row : ℕ} (d : Said c zeros s from row held) (room : Room zeros) where
  n_kept : length (kept_all d.ns) ≡ c.n
  n_kept = length-map d.ns kept ∙ sym d.n_is

  nodes_are : map_node (take c.n) held.nodes ≡ node_columns (kept_all d.ns)
  nodes_are = nodes_back d.ranges.n_high d.so.nodes room.nodes (subst (λ n. NodesLong n (map_node length (node_columns (kept_all d.ns)))) n_kept (columns_long (kept_all d.ns)))

  edges_are : map_edge (take c.m) held.edges ≡ edge_columns d.es
  edges_are = edges_back d.ranges.m_high d.so.edges room.edges (subst (λ n. EdgesLong n (map_edge length (edge_columns d.es))) (sym d.m_is) (edge_columns_long d.es))

  held_is : held_graph c held ≡ graph_from c.k (kept_all d.ns) d.es
  held_is = λ i. record { size = size_of c.k (sym n_kept i) (d.m_is i); nodes = nodes_are i; edges = edges_are i }

  judged_text : {j : Judged} → Judges (held_graph c held) j → judge (graph_from c.k d.ns d.es) ≡ j
  judged_text {j} h = sym (judges_judge (graph_from c.k d.ns d.es) (kept_judges c.k d.ns d.es (subst (λ (g : Graph). Judges g j) held_is h)))

  means_so : {j : Judged} → Judges (held_graph c held) j → on_meaning (text_at s from row) ≡ on_judged j c.k d.ns d.es
  means_so {j} h = ap on_meaning d.means ∙ ap (λ (i : Judged). on_judged i c.k d.ns d.es) (judged_text h)

  module _ {before after : Lent} (h : Judges (held_graph c held) (Ok tt)) (p : Copied c held before after) where
    same : kept_all d.ns ≡ d.ns
    same = kept_same c.k d.ns d.es (accepted_is (subst (λ (g : Graph). Judges g (Ok tt)) held_is h))

    copied_so : Stores before d.ns d.es after
    copied_so =
        subst (λ l. Stores before l d.es after) same
        (record { nodes = subst (λ v. NodesWritten before.nodes v after.nodes) nodes_are p.nodes; edges = subst (λ v. EdgesWritten before.edges v after.edges) edges_are p.edges })

  -- the slices had room, so it is the graph that is judged
  pub handed_tells : {before after : Lent} {j : Judged} → Room held → Room before → HandsOver c held before j after → Tells (on_meaning (text_at s from row)) before (told j c) after
  handed_tells p q (cramped e) = absurd (e q)
  handed_tells {before} {after} p q (accepted _ h w) =
      subst (λ (x : Size). Tells (on_meaning (text_at s from row)) before (Ok x) after) (λ i. size_of c.k (sym d.n_is i) (sym d.m_is i))
      (stored (means_so (held_judges p h)) (copied_so (held_judges p h) w))
  handed_tells p q (refused _ h) = refuses (means_so (held_judges p h))

-- what was parsed into has room as before
pub counted_room : {zeros : Lent} (s : List ℕ) (from row : ℕ) {p : Parsed} {held : Lent} {c : Size} → Parses zeros s from row p held → p ≡ Ok c → Room zeros → Room held
counted_room {zeros} s from row {held = held} h e z = stores_room (counted_is (subst (λ (q : Parsed). Parses zeros s from row q held) e h)).so z

-- arrays made by repetition have room, and are lent as they are
pub clear_room : {x : Slots} → Clear x → Room (slots x)
clear_room c = record { nodes = c.room.0; edges = c.room.1 }

pub slots_handed : (g : LentGraph) {c : Size} (x : Slots) {before after : Lent} {j : Judged} → lent g ≡ slots_graph c x → HandsOver g.size (lists_lent g) before j after → HandsOver c (slots x) before j after
slots_handed g x {before = before} {after = after} {j = j} e h = subst (λ (y : Graph). HandsOver y.size (record { nodes = y.nodes; edges = y.edges }) before j after) e h

-- the answer, by what was parsed
module _ {before zeros : Lent} (s : List ℕ) (from row : ℕ) {p : Parsed} {held : Lent} (h : Parses zeros s from row p held) where
  pub wrong_tells : {r : Refusal} → p ≡ Err r → Tells (on_meaning (text_at s from row)) before (Err r) before
  wrong_tells e =
      let f = faulty_row (subst (λ (q : Parsed). Parses zeros s from row q held) e h) in
      rw f.1 (refuses (ap on_meaning f.2))

  pub counted_tells : {c : Size} {after : Lent} {j : Judged} {r : Reading} → p ≡ Ok c → Room zeros → Room before → HandsOver c held before j after → r ≡ told j c → Tells (on_meaning (text_at s from row)) before r after
  counted_tells {after = after} e z k o f =
      let d = counted_is (subst (λ (q : Parsed). Parses zeros s from row q held) e h) in
      subst (λ (q : Reading). Tells (on_meaning (text_at s from row)) before q after) (sym f) (handed_tells d z (stores_room d.so z) k o)

-- ---- the slices' lengths and the text's

module _ (x : Lent) (s : List ℕ) (from row : ℕ) where
  reading_short : (Room x → ⊥) → reading_from x s from row ≡ text.refused (1 at 0)
  unfolding reading_from
  reading_short d = rw (false_says (room? x) d) refl

  module _ (r : Room x) where
    pub reading_roomy : reading_from x s from row ≡ outcome_from s from row
    unfolding reading_from
    reading_roomy = rw (true_says (room? x) r) refl

    reading_long : 65536 < length s → reading_from x s from row ≡ text.refused (12 at 0)
    unfolding reading_from outcome_from
    reading_long h = rw (true_says (room? x) r, lt-ltb 65536 (length s) h) refl

    reading_sized : length s ≤ 65536 → reading_from x s from row ≡ on_meaning (text_at s from row)
    unfolding reading_from outcome_from
    reading_sized h = rw (true_says (room? x) r, le-ltb 65536 (length s) h) refl

  -- refused for the lengths, or read
  pub sizes_refused : {r : Refusal} → SizesSo (map_node length x.nodes) (map_edge length x.edges) (length s) (Err r) → reading_from x s from row ≡ text.refused (numbered r)
  sizes_refused (extent.cramped d) = reading_short (λ r. d (r.nodes, r.edges))
  sizes_refused (extent.long l k) = reading_long (record { nodes = l.0; edges = l.1 }) k

  pub sizes_fit : SizesSo (map_node length x.nodes) (map_edge length x.edges) (length s) (Ok tt) → Room x × (reading_from x s from row ≡ on_meaning (text_at s from row))
  sizes_fit (extent.fit l k) = let r : Room x = record { nodes = l.0; edges = l.1 } in (r, reading_sized r k)

-- the lengths as they were told
pub sizes_told : (x : Lent) {a : PerNode ℕ} {b : PerEdge ℕ} {text : ℕ} {z : Judged} → a ≡ map_node length x.nodes → b ≡ map_edge length x.edges → SizesSo a b text z → SizesSo (map_node length x.nodes) (map_edge length x.edges) text z
sizes_told x {a} {b} {text} {z} e f h = subst (λ y. SizesSo (map_node length x.nodes) y text z) f (subst (λ y. SizesSo y b text z) e h)

pub tells_by : {o p : Outcome} {before after : Lent} {r : Reading} → o ≡ p → Tells p before r after → Tells o before r after
tells_by {before = before} {after = after} {r = r} e t = subst (λ (q : Outcome). Tells q before r after) (sym e) t

-- ---- what the caller of the reader knows of a graph that was read

judged_read : (j : Judged) (k l : ℕ) (ns ms : List Node) (es fs : List Edge) → Judges (graph_from k ns es) j → on_judged j k ns es ≡ read l ms fs → Acceptable (graph_from l ms fs)
judged_read (Ok tt) k l ns ms es fs h e =
    let u : k ≡ l = cc in
    let v : ns ≡ ms = cc in
    let w : es ≡ fs = cc in
    subst (λ i. Acceptable (graph_from i ms fs)) u (subst (λ x. Acceptable (graph_from k x fs)) v (subst (λ x. Acceptable (graph_from k ns x)) w (accepted_is h)))
judged_read (Err r) k l ns ms es fs h e = let z : ◌≡◌ {A = ℕ} 0 1 = cc in absurd (omega arith)

meaning_read : (t : Meaning) (l : ℕ) (ms : List Node) (fs : List Edge) → on_meaning t ≡ read l ms fs → Acceptable (graph_from l ms fs)
meaning_read (wrong row) l ms fs e = let z : ◌≡◌ {A = ℕ} 0 1 = cc in absurd (omega arith)
meaning_read (says k ns es) l ms fs e = judged_read (judge (graph_from k ns es)) k l ns ms es fs (judge_judges (graph_from k ns es)) e

never_read : (x : _) (k : ℕ) (ns : List Node) (es : List Edge) → text.refused x ≡ read k ns es → ⊥
never_read x k ns es e = let z : ◌≡◌ {A = ℕ} 0 1 = cc in omega arith

-- it is accepted
pub outcome_accepted : (s : List ℕ) (from row : ℕ) {k : ℕ} {ns : List Node} {es : List Edge} → outcome_from s from row ≡ read k ns es → Acceptable (graph_from k ns es)
unfolding outcome_from
outcome_accepted s from row {k} {ns} {es} e =
    by_split (ltb 65536 (length s)) (λ t. absurd (never_read (12 at 0) k ns es (rw t at e))) (λ t. meaning_read (text_at s from row) k ns es (rw t at e))

-- it stands in the first places of slices that have room
module _ {before after : Lent} (k : ℕ) (ns : List Node) (es : List Edge) (r : Room before) (h : Stores before ns es after) where
  pub stored_held : length ns ≤ 1024 → length es ≤ 4096 → held_graph (size_of k (length ns) (length es)) after ≡ graph_from k ns es
  stored_held n m =
      λ i. record { size = size_of k (length ns) (length es); nodes = nodes_back n h.nodes r.nodes (columns_long ns) i; edges = edges_back m h.edges r.edges (edge_columns_long es) i }

-- ---- one answer and one content

stores_one : {before x y : Lent} {ns : List Node} {es : List Edge} → Stores before ns es x → Stores before ns es y → x ≡ y
stores_one a b = λ i. record { nodes = written_one a.nodes b.nodes i; edges = edges_written_one a.edges b.edges i }

pub reads_one : {o : Outcome} {before x y : Lent} {a b : Reading} → Tells o before a x → Tells o before b y → (a ≡ b) × (x ≡ y)
reads_one {before = before} {x = x} {y = y} (stored {k = k} {ns = ns} {es = es} e h) (stored {k = l} {ns = ms} {es = fs} f i) = go (sym e ∙ f)
  where
    go : read k ns es ≡ read l ms fs → ◌≡◌ {A = Reading} (Ok (size_of k (length ns) (length es))) (Ok (size_of l (length ms) (length fs))) × (x ≡ y)
    go q =
        let u : k ≡ l = cc in
        let v : ns ≡ ms = cc in
        let w : es ≡ fs = cc in
        (rw (u, v, w) refl, stores_one (subst (λ l. Stores before l fs x) v (subst (λ l. Stores before ns l x) w h)) i)
reads_one (stored e h) (refuses f) = let q = sym e ∙ f in let z : ◌≡◌ {A = ℕ} 0 1 = cc in absurd (omega arith)
reads_one (refuses e) (stored f h) = let q = sym e ∙ f in let z : ◌≡◌ {A = ℕ} 0 1 = cc in absurd (omega arith)
reads_one (refuses {r = r} e) (refuses {r = t} f) = (ap Err (numbered_one r t (same_refused (sym e ∙ f))), refl)
  where
    same_refused : text.refused (numbered r) ≡ text.refused (numbered t) → numbered r ≡ numbered t
    same_refused q = cc
