-- One output for every text, and never too long; how an answer follows from those of the calls that are made for it.
use Rattle.std.specs.Prelude.{ℕ, suc, ◌≤◌, ◌<◌, ◌≡◌, refl, List, length, take, replicate}
use Rattle.std.proofs.Common.{sym, ap, ◌∙◌, subst, arith, lt-ltb}
use Rattle.std.proofs.lemmas.List.{length-replicate}
use Rattle.truth.specs.Truth.Bools.{by_split}
use Rattle.truth.specs.Truth.Tests.{says_true}
use Rattle.truth.specs.Truth.Kit.{take_sets}
use Rattle.graph.specs.Graph.{Graph, size_of, Acceptable, Slices, Content}
use Rattle.graph.proofs.Graph.Results.{content_one, content_exists}
use Rattle.graph.specs.Refusals.{Numbered, ◌at◌}
use Rattle.graph.specs.declared.Size.{Size}
use Rattle.graph.specs.declared.Refusal.{Refusal}
use Rattle.graph.specs.declared.Node.{Node}
use Rattle.graph.specs.declared.Edge.{Edge}
use Rattle.text.specs.Text.{Reading}
use Rattle.std.specs.Prelude.{Ok, Err}
use Rattle.handover.specs.Handover.{Lent, Room, roomy, held_graph}
use Rattle.handover.specs.Handover.Laws.{room?}
use Rattle.text.specs.Text.{Outcome, outcome_from, outcome, reading_from, reading, read, node_columns, graph_from, Stores, Tells, stored, refuses}
use Rattle.text.specs.Text as text
use Rattle.text.specs.Text.Laws.{reading_roomy, outcome_accepted, stores_room, stored_held, reads_one}
use Rattle.graph.specs.Refusals.{Written}
use Rattle.refusals.specs.Writes.{Writes, written, too_short, refusal_bytes, refusal_row}
use Rattle.refusals.specs.Writes.Laws.{writes_one}
use Rattle.refusals.specs.Writes.Laws.{refusal_short}
use Rattle.rows.specs.Result.Rows.{result_short}
use Rattle.report.specs.Report.{rows_of, WritesGraph}
use Rattle.report.specs.Report.Laws.{rows_only}
use Rattle.answer.specs.Prints.{PrintsFor, refused, printed, Prints, AnswersFor, Answers, ReadsAnswers}
use Rattle.answer.specs.Prints.Parts.{Places, Held, WritesRead, graph_read, nothing_read}

-- ---- one output

refused_one : {x y : Numbered} → text.refused x ≡ text.refused y → x ≡ y
refused_one e = cc

never_both : {x : Numbered} {k : ℕ} {ns : List Node} {es : List Edge} → text.refused x ≡ read k ns es → ⊥
never_both e = let z : ◌≡◌ {A = ℕ} 0 1 = cc in omega arith

printed_one : {k l : ℕ} {ns ms : List Node} {es fs : List Edge} {t u : Slices} → read k ns es ≡ read l ms fs → Content (graph_from k ns es) t → Content (graph_from l ms fs) u
    → rows_of (graph_from k ns es) t ≡ rows_of (graph_from l ms fs) u
printed_one {k} {l} {ns} {ms} {es} {fs} {t} {u} e c d =
    let a : k ≡ l = cc in
    let b : ns ≡ ms = cc in
    let w : es ≡ fs = cc in
    let g : graph_from k ns es ≡ graph_from l ms fs = λ i. graph_from (a i) (b i) (w i) in
    ap (λ x. rows_of x t) g ∙ ap (rows_of (graph_from l ms fs)) (content_one (graph_from l ms fs) (subst (λ x. Content x t) g c) d)

pub prints_one : {o : Outcome} {a b : List ℕ} → PrintsFor o a → PrintsFor o b → a ≡ b
prints_one (refused e) (refused f) = ap (λ (x : Numbered). refusal_row x.number x.place) (refused_one (sym e ∙ f))
prints_one (refused e) (printed f c) = absurd (never_both (sym e ∙ f))
prints_one (printed e c) (refused f) = absurd (never_both (sym f ∙ e))
prints_one (printed e c) (printed f d) = printed_one (sym e ∙ f) c d

-- every text has one
prints_outcome : (s : List ℕ) (o : Outcome) → outcome s ≡ o → (b : List ℕ) × Prints s b
prints_outcome s (read k ns es) e = let c = content_exists (graph_from k ns es) (outcome_accepted s 0 1 e) in (rows_of (graph_from k ns es) c.0, printed e c.1)
prints_outcome s (text.refused x) e = (refusal_row x.number x.place, refused e)

pub prints_exists : (s : List ℕ) → (b : List ℕ) × Prints s b
prints_exists s = prints_outcome s (outcome s) refl

-- so the promise leaves one answer and one content
answers_by : {o : Outcome} {before after : List ℕ} {r : Written} {b : List ℕ} → PrintsFor o b → AnswersFor o before r after → Writes b before r after
answers_by {before = before} {after = after} {r = r} p a = subst (λ x. Writes x before r after) (prints_one a.prints p) a.writes

pub answers_one : {o : Outcome} {before a b : List ℕ} {r q : Written} → AnswersFor o before r a → AnswersFor o before q b → (r ≡ q) × (a ≡ b)
answers_one x y = writes_one x.writes (answers_by x.prints y)

pub reads_answers_one : {x y z : Lent} {s before a b : List ℕ} {r q : Written} → ReadsAnswers x s before r a y → ReadsAnswers x s before q b z → (r ≡ q) × (a ≡ b) × (y ≡ z)
reads_answers_one p q = let e = answers_one p.answers q.answers in (e.0, e.1, (reads_one p.tells q.tells).1)

-- ---- no output is longer than 440,000 bytes

pub prints_short : (s : List ℕ) {b : List ℕ} → Prints s b → length b ≤ 440000
prints_short s (refused {x} e) = omega (arith, refusal_short x.number x.place)
prints_short s (printed {k = k} {ns = ns} {es = es} {t = t} e c) =
    omega (arith, (outcome_accepted s 0 1 e).shape.ranges.n_high, result_short (node_columns ns).kinds (node_columns ns).checks t.denied t.granted (length ns))

writes_low : {bytes before after : List ℕ} {n : ℕ} → Writes bytes before (Ok n) after → n ≤ length before
writes_low (written h) = h

writes_not : {bytes before after : List ℕ} {r : Refusal} → Writes bytes before (Err r) after → length bytes ≤ length before → ⊥
writes_not (too_short d) h = d h

-- what is to be printed lies within the buffer
pub answers_low : {o : Outcome} {before after : List ℕ} {n : ℕ} → AnswersFor o before (Ok n) after → n ≤ length before
answers_low a = writes_low a.writes

pub answers_fit : (s : List ℕ) {before after : List ℕ} {r : Refusal} → Answers s before (Err r) after → 440000 ≤ length before → ⊥
answers_fit s a h = writes_not a.writes (omega (arith, prints_short s a.prints, h))

-- and it is that
writes_part : {bytes before after : List ℕ} {n : ℕ} → Writes bytes before (Ok n) after → take n after ≡ bytes
writes_part {bytes} {before} (written h) = take_sets before bytes h

pub answers_part : {o : Outcome} {before after : List ℕ} {n : ℕ} → AnswersFor o before (Ok n) after → PrintsFor o (take n after)
answers_part {o} a = subst (PrintsFor o) (sym (writes_part a.writes)) a.prints

-- ---- a text above 65,536 bytes

pub long_prints : (s : List ℕ) → 65536 < length s → Prints s (refusal_row 12 0)
unfolding outcome_from
long_prints s h = refused {x = 12 at 0} (rw (lt-ltb 65536 (length s) h) refl)

pub long_answers : {before after : List ℕ} {r : Written} → Writes (refusal_row 12 0) before r after → (s : List ℕ) → 65536 < length s → Answers s before r after
long_answers w s h = record { bytes = refusal_row 12 0; prints = long_prints s h; writes = w }

-- there is one
long_text : (n : ℕ) → (s : List ℕ) × (n < length s)
long_text n = (replicate (suc n) 0, omega (arith, length-replicate {A = ℕ} (suc n) 0))

module _ {before after : List ℕ} where
  pub long_low : {n : ℕ} → ((s : List ℕ) → 65536 < length s → Answers s before (Ok n) after) → n ≤ length before
  long_low h = let t = long_text 65536 in answers_low (h t.0 t.1)

  pub long_part : {n : ℕ} → ((s : List ℕ) → 65536 < length s → Answers s before (Ok n) after) → (s : List ℕ) → 65536 < length s → Prints s (take n after)
  long_part h s l = answers_part (h s l)

  pub long_fit : {r : Refusal} → ((s : List ℕ) → 65536 < length s → Answers s before (Err r) after) → 51 ≤ length before → ⊥
  long_fit h k =
      let t = long_text 65536 in
      writes_not (answers_by (long_prints t.0 t.1) (h t.0 t.1)) (omega (arith, refusal_short 12 0))

-- ---- the answer

-- slices into which a text was read have room
read_room : (x : Lent) (s : List ℕ) {k : ℕ} {ns : List Node} {es : List Edge} → reading x s ≡ read k ns es → Room x
unfolding reading_from
read_room x s e = by_split (roomy x) (λ t. says_true (room? x) t) (λ t. absurd (never_both (rw t at e)))

places_as : {y : Lent} {c d : Size} → ◌≡◌ {A = Reading} (Ok d) (Ok c) → Places d y → Places c y
places_as {y} {c} {d} e p = let u : d ≡ c = cc in subst (λ i. Places i y) u p

module _ {x y : Lent} (s : List ℕ) where
  -- what was read has places in the slices
  module _ {k : ℕ} {ns : List Node} {es : List Edge} (e : reading x s ≡ read k ns es) (h : Stores x ns es y) where
    room : Room x
    room = read_room x s e

    acceptable : Acceptable (graph_from k ns es)
    acceptable = outcome_accepted s 0 1 (sym (reading_roomy x s 0 1 room) ∙ e)

    lent_is : held_graph (size_of k (length ns) (length es)) y ≡ graph_from k ns es
    lent_is = stored_held k ns es room h acceptable.shape.ranges.n_high acceptable.shape.ranges.m_high

    places : Places (size_of k (length ns) (length es)) y
    places =
        let r = stores_room h room in
        let n = acceptable.shape.ranges.n_high in
        let m = acceptable.shape.ranges.m_high in
        record {
          n_high = n;
          m_high = m;
          nodes = record { kinds = omega (arith, n, r.nodes.kinds); checks = omega (arith, n, r.nodes.checks); privileged = omega (arith, n, r.nodes.privileged); entries = omega (arith, n, r.nodes.entries); grants = omega (arith, n, r.nodes.grants) };
          edges = record { froms = omega (arith, m, r.edges.froms); tos = omega (arith, m, r.edges.tos); ways = omega (arith, m, r.edges.ways) };
        }

    graph_answers : {b c : List ℕ} {r : Written} → WritesGraph (held_graph (size_of k (length ns) (length es)) y) b r c → AnswersFor (reading x s) b r c
    graph_answers {b} {c} {r} w =
        let v = rows_only (graph_from k ns es) acceptable (subst (λ (g : Graph). WritesGraph g b r c) lent_is w) in
        record { bytes = rows_of (graph_from k ns es) v.0; prints = printed e v.1; writes = v.2 }

pub tells_held : (s : List ℕ) {x y : Lent} {told : Reading} → Tells (reading x s) x told y → Held told y
tells_held s (stored e h) c f = places_as f (places s e h)
tells_held s (refuses e) c f = let z : ◌≡◌ {A = ℕ} 0 1 = cc in absurd (omega arith)

answers_read : (s : List ℕ) {x y : Lent} {told : Reading} {b c : List ℕ} {r : Written} → Tells (reading x s) x told y → WritesRead y b told r c → AnswersFor (reading x s) b r c
answers_read s (stored e h) (graph_read w) = graph_answers s e h w
answers_read s (refuses {r = q} e) (nothing_read w) = record { bytes = refusal_bytes q; prints = refused e; writes = w }

pub reads_answers : (s : List ℕ) {x y : Lent} {told : Reading} {b c : List ℕ} {r : Written} → Tells (reading x s) x told y → WritesRead y b told r c → ReadsAnswers x s b r c y
reads_answers s {told = told} t w = record { told = told; tells = t; answers = answers_read s t w }

-- slices with room are lent: the answer is the text's
pub roomy_answers : {x y : Lent} {s before after : List ℕ} {r : Written} → Room x → ReadsAnswers x s before r after y → Answers s before r after
roomy_answers {x} {y} {s} {before} {after} {r} h a = subst (λ (o : Outcome). AnswersFor o before r after) (reading_roomy x s 0 1 h) a.answers
