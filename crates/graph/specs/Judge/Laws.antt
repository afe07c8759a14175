-- The check's promise by cases and by computation are one, and give one answer.
use Rattle.std.specs.Prelude.{ℕ, ◌≤◌, ◌<◌, Bool, true, false, cond, ◌&&◌, ◌||◌, ◌≡◌, refl, ◌⊎◌, ltb, eqb, length, get_or}
use Rattle.std.proofs.Math.Path.{sym, ap}
use Rattle.std.proofs.Common.{◌∙◌, arith}
use borrow.Author.Tests.{lt-ltb, le-ltb, eqb-true, eqb-false}
use Rattle.truth.specs.Truth.{Says, holds, fails, All, First, first}
use Rattle.truth.specs.Truth.Tests.{says_same, true_says, false_says, le?, lt?, eq?, and?, or?, if?, not?, first?, first_all, first_one, all_first, first_found}
use Rattle.truth.specs.Truth.Bools.{by_split}
use Rattle.sets.specs.Sets.Members.{below_members}
use Rattle.graph.specs.Graph.{Graph, PerNode, PerEdge, map_node, map_edge, EachNode, EachEdge, every_node, every_edge, Ranges, Shape, EndsRule, NodeObeys, EdgeObeys, NoEntry, Acceptable}
use Rattle.graph.specs.declared.Size.{Size}
use Rattle.graph.specs.Refusals.{Numbered, numbered}
use Rattle.graph.specs.Refusals.Laws.{refusal, refusal_numbered}
use Rattle.graph.specs.Judge.{Refuses, shape, node, edge, entry, Judges, accepted, refused, range_test, shape_test, node_test, edge_test, no_entry, judge}
use Rattle.graph.specs.declared.Refusal.{Refusal}
use Rattle.graph.specs.declared.Refusal.TheVariants as why
use Rattle.graph.specs.Refusals.{Judged}
use Rattle.std.specs.Prelude.{Ok, Err}

-- ---- each test says whether its rule holds

pub range? : (s : Size) → Says (Ranges s) (range_test s)
range? s =
    says_same (and? (le? 1 s.k) (and? (le? s.k 64) (and? (le? 1 s.n) (and? (le? s.n 1024) (le? s.m 4096)))))
    (λ x. record { k_low = x.0; k_high = x.1.0; n_low = x.1.1.0; n_high = x.1.1.1.0; m_high = x.1.1.1.1 })
    (λ r. (r.k_low, (r.k_high, (r.n_low, (r.n_high, r.m_high)))))

-- a test of each says whether it holds of each
pub each_node? : {A : Type 0} {P : A → Type 0} {f : A → Bool} → ((a : A) → Says (P a) (f a)) → (x : PerNode A) → Says (EachNode P x) (every_node (map_node f x))
each_node? t x =
    says_same (and? (t x.kinds) (and? (t x.checks) (and? (t x.privileged) (and? (t x.entries) (t x.grants)))))
    (λ y. record { kinds = y.0; checks = y.1.0; privileged = y.1.1.0; entries = y.1.1.1.0; grants = y.1.1.1.1 })
    (λ r. (r.kinds, (r.checks, (r.privileged, (r.entries, r.grants)))))

pub each_edge? : {A : Type 0} {P : A → Type 0} {f : A → Bool} → ((a : A) → Says (P a) (f a)) → (x : PerEdge A) → Says (EachEdge P x) (every_edge (map_edge f x))
each_edge? t x =
    says_same (and? (t x.froms) (and? (t x.tos) (t x.ways)))
    (λ y. record { froms = y.0; tos = y.1.0; ways = y.1.1 })
    (λ r. (r.froms, (r.tos, r.ways)))

shape? : (g : Graph) → Says (Shape g) (shape_test g)
unfolding shape_test
shape? g =
    says_same
    (and? (range? g.size)
    (and? (each_node? {f = λ l. eqb l g.size.n} (λ l. eq? l g.size.n) (map_node length g.nodes)) (each_edge? {f = λ l. eqb l g.size.m} (λ l. eq? l g.size.m) (map_edge length g.edges))))
    (λ x. record { ranges = x.0; nodes = x.1.0; edges = x.1.1 })
    (λ s. (s.ranges, (s.nodes, s.edges)))

node? : (g : Graph) (n : ℕ) → Says (NodeObeys g n) (node_test g n)
unfolding node_test
node? g n =
    says_same
    (and? (le? _ 2) (and? (if? (eq? _ 2) (lt? _ _) (eq? _ 0)) (and? (le? _ 1) (and? (le? _ 1) (lt? _ _)))))
    (λ x. record {
      kind_known = x.0;
      check_below = x.1.0.0;
      check_none = x.1.0.1;
      privileged_mark = x.1.1.0;
      entry_mark = x.1.1.1.0;
      grants_below = (below_members g.size.k (get_or g.nodes.grants n 0)).0 x.1.1.1.1;
    })
    (λ r. (r.kind_known, ((r.check_below, r.check_none), (r.privileged_mark, (r.entry_mark, (below_members g.size.k (get_or g.nodes.grants n 0)).1 r.grants_below)))))

ends? : (way leaves out into : ℕ) → Says (EndsRule way leaves out into) (cond (eqb way 0) (eqb leaves 0) (eqb way 1 && ((eqb leaves 0 || eqb leaves 2) && eqb out into)))
ends? way leaves out into =
    says_same
    (if? (eq? way 0) (eq? leaves 0) (and? (eq? way 1) (and? (or? (eq? leaves 0) (eq? leaves 2)) (eq? out into))))
    (λ x. record {
      way_known = known (eqb way 0) (eq? way 0) x;
      call_leaves = x.0;
      transfer_leaves = λ e. (x.1 (λ z. omega arith)).1.0;
      transfer_grants = λ e. (x.1 (λ z. omega arith)).1.1;
    })
    (λ r. (r.call_leaves, λ d. let e : way ≡ 1 = omega (arith, r.way_known, d) in (e, (r.transfer_leaves e, r.transfer_grants e))))
  where
    known : (b : Bool) → Says (way ≡ 0) b → ((way ≡ 0 → leaves ≡ 0) × ((way ≡ 0 → ⊥) → (way ≡ 1) × (((leaves ≡ 0) ⊎ (leaves ≡ 2)) × (out ≡ into)))) → way ≤ 1
    known true (holds z) x = omega arith
    known false (fails z) x = omega (arith, (x.1 z).0)

edge? : (g : Graph) (e : ℕ) → Says (EdgeObeys g e) (edge_test g e)
unfolding edge_test
edge? g e =
    says_same (and? (lt? _ _) (and? (lt? _ _) (ends? _ _ _ _)))
    (λ x. record { from_node = x.0; to_node = x.1.0; ends = x.1.1 })
    (λ r. (r.from_node, (r.to_node, r.ends)))

entry? : (g : Graph) (n : ℕ) → Says (NoEntry g.nodes.entries n) (no_entry g n)
unfolding no_entry
entry? g n = not? (eq? (get_or g.nodes.entries n 0) 1)

-- ---- the answer that the searches lead to

pub edge_given : (g : Graph) {i e : ℕ} → Shape g → First (NodeObeys g) g.size.n i → g.size.n ≤ i → e < g.size.m → First (EdgeObeys g) g.size.m e → Judges g (Err (why.Edge e))
edge_given g s fi h l fe = refused (edge s (first_all fi h) l fe)

module _ (g : Graph) {i e r : ℕ} (s : Shape g) (fi : First (NodeObeys g) g.size.n i) (hi : g.size.n ≤ i) (fe : First (EdgeObeys g) g.size.m e) (he : g.size.m ≤ e) (fr : First (NoEntry g.nodes.entries) g.size.n r) where
  marked : (NoEntry g.nodes.entries r → ⊥) → get_or g.nodes.entries r 0 ≡ 1
  marked d = by_split (eqb (get_or g.nodes.entries r 0) 1) (eqb-true _ 1) (λ f. absurd (d (eqb-false _ 1 f)))

  pub accepted_given : r < g.size.n → Judges g (Ok tt)
  accepted_given l = accepted (record { shape = s; nodes = first_all fi hi; edges = first_all fe he; entered = (r, l, marked (fr.broken l)) })

  pub entry_given : g.size.n ≤ r → Judges g (Err why.NoEntry)
  entry_given h = refused (entry s (first_all fi hi) (first_all fe he) (first_all fr h))

pub judge_judges : (g : Graph) → Judges g (judge g)
unfolding judge
judge_judges g =
    go (shape_test g) (shape? g)
    (first (node_test g) g.size.n) (first? (node_test g) (node? g) g.size.n) (ltb (first (node_test g) g.size.n) g.size.n) (lt? _ _)
    (first (edge_test g) g.size.m) (first? (edge_test g) (edge? g) g.size.m) (ltb (first (edge_test g) g.size.m) g.size.m) (lt? _ _)
    (first (no_entry g) g.size.n) (first? (no_entry g) (entry? g) g.size.n) (ltb (first (no_entry g) g.size.n) g.size.n) (lt? _ _)
  where
    go : (s : Bool) → Says (Shape g) s → (i : ℕ) → First (NodeObeys g) g.size.n i → (a : Bool) → Says (i < g.size.n) a
        → (e : ℕ) → First (EdgeObeys g) g.size.m e → (b : Bool) → Says (e < g.size.m) b
        → (r : ℕ) → First (NoEntry g.nodes.entries) g.size.n r → (d : Bool) → Says (r < g.size.n) d
        → Judges g (cond s (cond a (Err (why.Node i)) (cond b (Err (why.Edge e)) (cond d (Ok tt) (Err why.NoEntry)))) (Err why.Shape))
    go false (fails s) i fi a _ e fe b _ r fr d _ = refused (shape s)
    go true (holds s) i fi true (holds p) e fe b _ r fr d _ = refused (node s p fi)
    go true (holds s) i fi false (fails p) e fe true (holds q) r fr d _ = edge_given g s fi (omega arith) q fe
    go true (holds s) i fi false (fails p) e fe false (fails q) r fr true (holds t) = accepted_given g s fi (omega arith) fe (omega arith) fr t
    go true (holds s) i fi false (fails p) e fe false (fails q) r fr false (fails t) = entry_given g s fi (omega arith) fe (omega arith) fr (omega arith)

-- ---- what is given is the computed answer

module _ (g : Graph) where
  all_nodes : All (NodeObeys g) g.size.n → ltb (first (node_test g) g.size.n) g.size.n ≡ false
  all_nodes a = le-ltb _ _ (all_first (first? (node_test g) (node? g) g.size.n) a)

  all_edges : All (EdgeObeys g) g.size.m → ltb (first (edge_test g) g.size.m) g.size.m ≡ false
  all_edges a = le-ltb _ _ (all_first (first? (edge_test g) (edge? g) g.size.m) a)

  computed : {x : Numbered} → Refuses g x → judge g ≡ Err (refusal x)
  unfolding judge
  computed (shape s) = rw (false_says (shape? g) s)
  computed (node s l f) =
      let e = first_one (first? (node_test g) (node? g) g.size.n) f in
      rw (true_says (shape? g) s, e, lt-ltb _ _ l)
  computed (edge s a l f) =
      let e = first_one (first? (edge_test g) (edge? g) g.size.m) f in
      rw (true_says (shape? g) s, all_nodes a, e, lt-ltb _ _ l)
  computed (entry s a b n) =
      rw (true_says (shape? g) s, all_nodes a, all_edges b, le-ltb _ _ (all_first (first? (no_entry g) (entry? g) g.size.n) n))

  pub judges_judge : {r : Judged} → Judges g r → r ≡ judge g
  unfolding judge
  judges_judge (accepted a) =
      let e = a.entered in
      let l = lt-ltb _ _ (first_found (first? (no_entry g) (entry? g) g.size.n) e.1 (λ f. f e.2)) in
      sym (rw (true_says (shape? g) a.shape, all_nodes a.nodes, all_edges a.edges, l))
  judges_judge (refused {r} f) = sym (computed f ∙ ap Err (refusal_numbered r))

-- one answer for a graph
pub judges_one : (g : Graph) {r s : Judged} → Judges g r → Judges g s → r ≡ s
judges_one g a b = judges_judge g a ∙ sym (judges_judge g b)

-- ---- what an answer tells

pub accepted_is : {g : Graph} → Judges g (Ok tt) → Acceptable g
accepted_is (accepted a) = a

pub refused_is : {g : Graph} {r : Refusal} → Judges g (Err r) → Refuses g (numbered r)
refused_is (refused f) = f

-- one refusal for a graph, and none for one that is accepted
module _ (g : Graph) where
  numbers : {x : Numbered} → Refuses g x → numbered (refusal x) ≡ x
  numbers (shape _) = refl
  numbers (node _ _ _) = refl
  numbers (edge _ _ _ _) = refl
  numbers (entry _ _ _ _) = refl

  pub refuses_one : {x z : Numbered} → Refuses g x → Refuses g z → x ≡ z
  refuses_one {x} {z} a b =
      let p : Err (refusal x) ≡ Err (refusal z) = sym (computed g a) ∙ computed g b in
      let q : refusal x ≡ refusal z = cc in
      sym (numbers a) ∙ ap numbered q ∙ numbers b

  pub refuses_not : {x : Numbered} → Refuses g x → Acceptable g → ⊥
  refuses_not {x} a b =
      let p : (Ok tt) ≡ Err (refusal x) = judges_judge g (accepted b) ∙ computed g a in
      let z : ◌≡◌ {A = ℕ} 0 1 = cc in
      omega arith
