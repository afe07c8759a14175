-- One answer and one content of what is handed over, and what slices hold that were written to.
use Rattle.std.specs.Prelude.{ℕ, ◌-◌, ◌≤◌, ◌≡◌, refl, List, Bool, eqb, length, take, drop}
use Rattle.std.proofs.Common.{sym, ap, ◌∙◌, subst, arith}
use Rattle.std.proofs.Math.Nat.{sub-zero}
use Rattle.std.proofs.lemmas.List.Edits.{sets}
use Rattle.std.proofs.Math.Seq.{length-sets}
use Rattle.truth.specs.Truth.{Says}
use Rattle.truth.specs.Truth.Kit.{take_sets}
use Rattle.truth.specs.Truth.Tests.{says_same, eq?, and?}
use Rattle.graph.specs.Graph.{PerNode, PerEdge, nodes_of, edges_of, map_node, map_edge, NodesLong, EdgesLong, Ranges}
use Rattle.graph.specs.Judge.{Refuses, Judges}
use Rattle.graph.specs.Judge.Laws.{each_node?, each_edge?, accepted_is, judges_one}
use Rattle.graph.specs.declared.Size.{Size}
use Rattle.graph.specs.declared.Refusal.{Refusal}
use Rattle.graph.specs.declared.Refusal.TheVariants as why
use Rattle.graph.specs.Refusals.{Judged}
use Rattle.std.specs.Prelude.{Ok, Err}
use Rattle.extent.specs.Extent.{Ample}
use Rattle.handover.specs.Handover.{Lent, Room, roomy, held_graph, NodesWritten, EdgesWritten, Copied, HeldJudged, bare, judged, HandsOver, cramped, refused, accepted}

-- room, by the lengths of slices
pub room_says : (x : Lent) {a : PerNode ℕ} {b : PerEdge ℕ} {r : Bool} → a ≡ map_node length x.nodes → b ≡ map_edge length x.edges → Says (Ample a b) r → Says (Room x) r
room_says x {a} {b} {r} e f s =
    says_same (subst (λ y. Says (Ample (map_node length x.nodes) y) r) f (subst (λ y. Says (Ample y b) r) e s)) (λ h. record { nodes = h.0; edges = h.1 }) (λ k. (k.nodes, k.edges))

-- the first places of each slice, as the check is lent them
pub judged_held : (x : Lent) (c : Size) {j : Judged}
    → Judges (record { size = c; nodes = map_node (λ l. take (c.n - 0) (drop 0 l)) x.nodes; edges = map_edge (λ l. take (c.m - 0) (drop 0 l)) x.edges }) j
    → Judges (held_graph c x) j
judged_held x c h = rw (sub-zero c.n, sub-zero c.m) at h

pub held_by : {c : Size} {held : Lent} {i j : Judged} → i ≡ j → HeldJudged c held i → HeldJudged c held j
held_by {c} {held} e h = subst (HeldJudged c held) e h

pub held_judges : {c : Size} {held : Lent} {j : Judged} → Room held → HeldJudged c held j → Judges (held_graph c held) j
held_judges r (bare d) = absurd (d r)
held_judges r (judged _ j) = j

-- what is accepted has room, and counts in range
pub record Fine (c : Size) (held : Lent) : Type 0 where
  pub room : Room held
  pub ranges : Ranges c

pub held_fine : {c : Size} {held : Lent} → HeldJudged c held (Ok tt) → Fine c held
held_fine (judged r j) = record { room = r; ranges = (accepted_is j).shape.ranges }

-- counts out of range are refused as the graph's own check refuses them
pub range_refuses : (c : Size) (x : Lent) → (Ranges c → ⊥) → Judges (held_graph c x) (Err why.Shape)
range_refuses c x d = Judges.refused (Refuses.shape (λ s. d s.ranges))

pub room? : (x : Lent) → Says (Room x) (roomy x)
room? x =
    says_same
    (and? (each_node? {f = λ l. eqb l 1024} (λ l. eq? l 1024) (map_node length x.nodes)) (each_edge? {f = λ l. eqb l 4096} (λ l. eq? l 4096) (map_edge length x.edges)))
    (λ h. record { nodes = h.0; edges = h.1 })
    (λ r. (r.nodes, r.edges))

-- what is written keeps the lengths
pub wrote : {n : ℕ} (l v l' : List ℕ) → l' ≡ sets l 0 v → length l ≡ n → length l' ≡ n
wrote l v l' e h = ap length e ∙ length-sets l 0 v ∙ h

-- what is read back of a slice that so many numbers were written to
back : (n : ℕ) (l l' vs : List ℕ) → l' ≡ sets l 0 vs → n ≡ length vs → n ≤ length l → take n l' ≡ vs
back n l l' vs e q h = ap (take n) e ∙ ap (λ i. take i (sets l 0 vs)) q ∙ take_sets l vs (rw q at h)

pub nodes_back : {m n : ℕ} {x v y : PerNode (List ℕ)} → n ≤ m → NodesWritten x v y → NodesLong m (map_node length x) → NodesLong n (map_node length v) → map_node (take n) y ≡ v
nodes_back {m} {n} {x} {v} {y} h w a b =
    λ i. nodes_of (one x.kinds v.kinds y.kinds w.kinds a.kinds b.kinds i) (one x.checks v.checks y.checks w.checks a.checks b.checks i) (one x.privileged v.privileged y.privileged w.privileged a.privileged b.privileged i) (one x.entries v.entries y.entries w.entries a.entries b.entries i) (one x.grants v.grants y.grants w.grants a.grants b.grants i)
  where
    one : (l v l' : List ℕ) → l' ≡ sets l 0 v → length l ≡ m → length v ≡ n → take n l' ≡ v
    one l v l' e p q = back n l l' v e (sym q) (omega (arith, p))

pub edges_back : {m n : ℕ} {x v y : PerEdge (List ℕ)} → n ≤ m → EdgesWritten x v y → EdgesLong m (map_edge length x) → EdgesLong n (map_edge length v) → map_edge (take n) y ≡ v
edges_back {m} {n} {x} {v} {y} h w a b = λ i. edges_of (one x.froms v.froms y.froms w.froms a.froms b.froms i) (one x.tos v.tos y.tos w.tos a.tos b.tos i) (one x.ways v.ways y.ways w.ways a.ways b.ways i)
  where
    one : (l v l' : List ℕ) → l' ≡ sets l 0 v → length l ≡ m → length v ≡ n → take n l' ≡ v
    one l v l' e p q = back n l l' v e (sym q) (omega (arith, p))

-- ---- one answer and one content

pub written_one : {x v y z : PerNode (List ℕ)} → NodesWritten x v y → NodesWritten x v z → y ≡ z
written_one a b =
    λ i. nodes_of ((a.kinds ∙ sym b.kinds) i) ((a.checks ∙ sym b.checks) i) ((a.privileged ∙ sym b.privileged) i) ((a.entries ∙ sym b.entries) i) ((a.grants ∙ sym b.grants) i)

pub edges_written_one : {x v y z : PerEdge (List ℕ)} → EdgesWritten x v y → EdgesWritten x v z → y ≡ z
edges_written_one a b = λ i. edges_of ((a.froms ∙ sym b.froms) i) ((a.tos ∙ sym b.tos) i) ((a.ways ∙ sym b.ways) i)

copied_one : {c : Size} {held before x y : Lent} → Copied c held before x → Copied c held before y → x ≡ y
copied_one a b = λ i. record { nodes = written_one a.nodes b.nodes i; edges = edges_written_one a.edges b.edges i }

held_one : {c : Size} {held : Lent} {a b : Judged} → HeldJudged c held a → HeldJudged c held b → a ≡ b
held_one (bare d) (bare e) = refl
held_one (bare d) (judged r j) = absurd (d r)
held_one (judged r j) (bare d) = absurd (d r)
held_one {c} {held} (judged r j) (judged s i) = judges_one (held_graph c held) j i

never_both : {r : Refusal} → ◌≡◌ {A = Judged} (Err r) (Ok tt) → ⊥
never_both e = cc

pub hands_over_one : {c : Size} {held before x y : Lent} {a b : Judged} → HandsOver c held before a x → HandsOver c held before b y → (a ≡ b) × (x ≡ y)
hands_over_one (cramped d) (cramped e) = (refl, refl)
hands_over_one (cramped d) (refused k j) = absurd (d k)
hands_over_one (cramped d) (accepted k j p) = absurd (d k)
hands_over_one (refused k j) (cramped d) = absurd (d k)
hands_over_one (accepted k j p) (cramped d) = absurd (d k)
hands_over_one (refused k j) (refused _ i) = (held_one j i, refl)
hands_over_one (refused k j) (accepted _ i p) = absurd (never_both (held_one j i))
hands_over_one (accepted k j p) (refused _ i) = absurd (never_both (held_one i j))
hands_over_one (accepted k j p) (accepted _ i q) = (refl, copied_one p q)
