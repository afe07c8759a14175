-- How a text's meaning follows from where its rows end.
use Rattle.std.specs.Prelude.{ℕ, zero, suc, ◌+◌, ◌≡◌, refl, true, false, List, ◌∷◌, length, ltb, Option, Some, None, Ok, Err}
use Rattle.std.proofs.Common.{sym, ap, subst, ◌∙◌, ltb-true, ltb-false}
use Rattle.truth.specs.Truth.Bools.{by_split}
use Rattle.scan.specs.declared.At.{At}
use Rattle.scan.specs.Scan.{read_to}
use Rattle.graph.specs.declared.Node.{Node}
use Rattle.graph.specs.declared.Edge.{Edge}
use Rattle.graph.specs.declared.Size.{Size}
use Rattle.graph.specs.declared.Refusal.{Refusal}
use Rattle.graph.specs.declared.Refusal.TheVariants as why
use Rattle.records.specs.Records.{header_at, node_at, kept}
use Rattle.records.specs.Records.Rows.{header_ranges}
use Rattle.extent.specs.Extent.{Ran, Parsed, end_of}
use Rattle.extent.specs.Extent.Laws.{end_wrong, end_more, end_done}
use Rattle.handover.specs.Handover.{Lent, NodesWritten}
use Rattle.text.specs.Text.{onto, rows_at, edge_row, says, wrong, text_at, node_columns, Stores}
use Rattle.text.specs.Text.Kept.{kept_all}
use Rattle.text.specs.Text.Parts.{rows_from, end_from, kept_row, tail_of, NodesRead, TailRead, Parses, counted, faulty}

past_stop : {P : Type 0} {q : ℕ} {r : Refusal} → ◌≡◌ {A = Ran} (Ok q) (Err r) → P
past_stop e = cc

-- ---- rows, by where they end

module _ {X : Type 0} (row : (from i : ℕ) → Option (At X)) (first : ℕ) where
  -- rows that are all right are as many as were asked for, and are the rows
  pub rows_past : (n p i : ℕ) {q : ℕ} → end_from row first n p i ≡ Ok q → (rows_at row n p i ≡ Ok (read_to (rows_from row n p i) q)) × (length (rows_from row n p i) ≡ n)
  unfolding end_from rows_from rows_at
  rows_past zero p i {q} e = let f : p ≡ q = cc in (rw f refl, refl)
  rows_past (suc n) p i {q} e = by (row p i) refl (λ r. rows_past n r (i + 1))
    where
      by : (g : Option (At X)) → row p i ≡ g → ((r : ℕ) → end_from row first n r (i + 1) ≡ Ok q → (rows_at row n r (i + 1) ≡ Ok (read_to (rows_from row n r (i + 1)) q)) × (length (rows_from row n r (i + 1)) ≡ n))
          → (rows_at row (suc n) p i ≡ Ok (read_to (rows_from row (suc n) p i) q)) × (length (rows_from row (suc n) p i) ≡ suc n)
      by None w r = let f : ◌≡◌ {A = Ran} (Err (why.Row (first + i))) (Ok q) = simp w at e in past_stop (sym f)
      by (Some x) w r =
          let f : end_from row first n x.next (i + 1) ≡ Ok q = simp w at e in
          (simp w (ap (onto x.value) (r x.next f).0), simp w (ap suc (r x.next f).1))

  -- the first that is wrong, by its number
  pub rows_stop : (n p i : ℕ) {r : Refusal} → end_from row first n p i ≡ Err r → (k : ℕ) × (rows_at row n p i ≡ Err k) × (r ≡ why.Row (first + k))
  unfolding end_from rows_at
  rows_stop zero p i e = past_stop e
  rows_stop (suc n) p i {r} e = by (row p i) refl (λ q. rows_stop n q (i + 1))
    where
      by : (g : Option (At X)) → row p i ≡ g → ((q : ℕ) → end_from row first n q (i + 1) ≡ Err r → (k : ℕ) × (rows_at row n q (i + 1) ≡ Err k) × (r ≡ why.Row (first + k)))
          → (k : ℕ) × (rows_at row (suc n) p i ≡ Err k) × (r ≡ why.Row (first + k))
      by None w h =
          let f : ◌≡◌ {A = Ran} (Err (why.Row (first + i))) (Err r) = simp w at e in
          let q : r ≡ why.Row (first + i) = cc in
          (i, simp w, q)
      by (Some x) w h =
          let f : end_from row first n x.next (i + 1) ≡ Err r = simp w at e in
          let k = h x.next f in
          (k.0, simp w (ap (onto x.value) k.1), k.2)

-- ---- node rows as they are kept

kept_end : (s : List ℕ) (first n p i : ℕ) → end_from (kept_row s) first n p i ≡ end_from (node_at s) first n p i
unfolding end_from
kept_end s first zero p i = refl
kept_end s first (suc n) p i = by (node_at s p i) refl (λ q. kept_end s first n q (i + 1))
  where
    by : (g : Option (At Node)) → node_at s p i ≡ g → ((q : ℕ) → end_from (kept_row s) first n q (i + 1) ≡ end_from (node_at s) first n q (i + 1)) → end_from (kept_row s) first (suc n) p i ≡ end_from (node_at s) first (suc n) p i
    by None w r = simp w
    by (Some x) w r = simp w (r x.next)

kept_rows : (s : List ℕ) (n p i : ℕ) → rows_from (kept_row s) n p i ≡ kept_all (rows_from (node_at s) n p i)
unfolding rows_from
kept_rows s zero p i = refl
kept_rows s (suc n) p i = by (node_at s p i) refl (λ q. kept_rows s n q (i + 1))
  where
    by : (g : Option (At Node)) → node_at s p i ≡ g → ((q : ℕ) → rows_from (kept_row s) n q (i + 1) ≡ kept_all (rows_from (node_at s) n q (i + 1))) → rows_from (kept_row s) (suc n) p i ≡ kept_all (rows_from (node_at s) (suc n) p i)
    by None w r = simp w
    by (Some x) w r = simp w (ap (λ l. kept x.value ∷ l) (r x.next))

-- ---- the edge rows and the end

pub tail_by : (s : List ℕ) (p row : ℕ) (c : Size) {r : Ran} → r ≡ end_from (edge_row s) row c.m p 0 → end_of r (length s) (row + c.m) c ≡ tail_of s p row c
unfolding tail_of
tail_by s p row c e = ap (λ (x : Ran). end_of x (length s) (row + c.m) c) e

-- ---- the text

module _ (s : List ℕ) (from row : ℕ) where
  text_none : header_at s from ≡ None → text_at s from row ≡ wrong row
  unfolding text_at
  text_none e = simp e

  pub parse_none : {before after : Lent} → header_at s from ≡ None → Parses before s from row (Err (why.Row row)) after
  parse_none e = faulty (text_none e)

  module _ {c : At Size} (e : header_at s from ≡ Some c) where
    text_node : {i : ℕ} → rows_at (node_at s) c.value.n c.next 0 ≡ Err i → text_at s from row ≡ wrong (row + 1 + i)
    unfolding text_at
    text_node f = simp (e, f)

    module _ {ns : List Node} {q : ℕ} (f : rows_at (node_at s) c.value.n c.next 0 ≡ Ok (read_to ns q)) where
      text_edge : {j : ℕ} → rows_at (edge_row s) c.value.m q 0 ≡ Err j → text_at s from row ≡ wrong (row + 1 + c.value.n + j)
      unfolding text_at
      text_edge g = simp (e, f, g)

      text_extra : {es : List Edge} {t : ℕ} → rows_at (edge_row s) c.value.m q 0 ≡ Ok (read_to es t) → ltb t (length s) ≡ true → text_at s from row ≡ wrong (row + 1 + c.value.n + c.value.m)
      unfolding text_at
      text_extra g h = simp (e, f, g, h)

      text_says : {es : List Edge} {t : ℕ} → rows_at (edge_row s) c.value.m q 0 ≡ Ok (read_to es t) → ltb t (length s) ≡ false → text_at s from row ≡ says c.value.k ns es
      unfolding text_at
      text_says g h = simp (e, f, g, h)

    parses : {before after : Lent} {r y : Parsed} → r ≡ y → Parses before s from row y after → Parses before s from row r after
    parses {before} {after} a d = subst (λ (y : Parsed). Parses before s from row y after) (sym a) d

    -- a node row that is wrong
    pub parse_stop : {before after : Lent} {ran : Ran} {r : Refusal} → ran ≡ end_from (kept_row s) (row + 1) c.value.n c.next 0 → ran ≡ Err r → Parses before s from row (Err r) after
    parse_stop a u =
        let w = rows_stop (node_at s) (row + 1) c.value.n c.next 0 (sym (kept_end s (row + 1) c.value.n c.next 0) ∙ sym a ∙ u) in
        parses (ap Err w.2) (faulty (text_node w.1))

    -- node rows that are right, and the rest
    module _ {before after : Lent} {ran : Ran} {q : ℕ} {r : Parsed} (h : NodesRead s c.next (row + 1) c.value.n ran before.nodes after.nodes) (u : ran ≡ Ok q) (t : TailRead s q (row + 1 + c.value.n) c.value r before.edges after.edges) where
      ns : List Node
      ns = rows_from (node_at s) c.value.n c.next 0

      es : List Edge
      es = rows_from (edge_row s) c.value.m q 0

      nodes_are : (rows_at (node_at s) c.value.n c.next 0 ≡ Ok (read_to ns q)) × (length ns ≡ c.value.n)
      unfolding ns
      nodes_are = rows_past (node_at s) (row + 1) c.value.n c.next 0 (sym (kept_end s (row + 1) c.value.n c.next 0) ∙ sym h.answer ∙ u)

      so : Stores before (kept_all ns) es after
      unfolding ns es
      so = record { nodes = subst (λ l. NodesWritten before.nodes (node_columns l) after.nodes) (kept_rows s c.value.n c.next 0) h.so; edges = t.so }

      answers : {x : Ran} {y : Parsed} → end_from (edge_row s) (row + 1 + c.value.n) c.value.m q 0 ≡ x → end_of x (length s) (row + 1 + c.value.n + c.value.m) c.value ≡ y → r ≡ y
      answers v w = t.answer ∙ sym (tail_by s q (row + 1 + c.value.n) c.value (sym v)) ∙ w

      by_edges : (x : Ran) → end_from (edge_row s) (row + 1 + c.value.n) c.value.m q 0 ≡ x → Parses before s from row r after
      unfolding es
      by_edges (Err x) v =
          let w = rows_stop (edge_row s) (row + 1 + c.value.n) c.value.m q 0 v in
          parses (answers v (end_wrong _ _ c.value refl) ∙ ap Err w.2) (faulty (text_edge nodes_are.0 w.1))
      by_edges (Ok x) v =
          let g = rows_past (edge_row s) (row + 1 + c.value.n) c.value.m q 0 v in
          by_split (ltb x (length s))
          (λ l. parses (answers v (end_more _ _ c.value refl (ltb-true x (length s) l))) (faulty (text_extra nodes_are.0 g.0 l)))
          (λ l. parses (answers v (end_done _ _ c.value refl (ltb-false x (length s) l))) (counted (header_ranges s from e) (text_says nodes_are.0 g.0 l) (sym nodes_are.1) (sym g.1) so))

      pub parse_past : Parses before s from row r after
      parse_past = by_edges (end_from (edge_row s) (row + 1 + c.value.n) c.value.m q 0) refl
