-- The sums that are gathered from out sets hold what the equations say: in(n) of these sets, and what is past each check, for any sets.
use Prim.Native.Nat.{ℕ, zero, suc, ◌≤◌, ◌<◌, ◌^◌}
use Rattle.std.specs.Prelude.{◌≡◌, List, Bool, cond, ◌&&◌, ◌||◌, ◌↔◌, length, get_or, ltb}
use Rattle.std.proofs.Math.Path.{refl, sym, subst}
use Rattle.std.proofs.Common.{◌∙◌, ⊎_elim, arith, eqb-true, lt-ltb}
use Rattle.std.proofs.Math.Bool.{true, false}
use Rattle.std.proofs.Math.Decide.{ℕ_discrete}
use Rattle.std.proofs.Math.ListN.{length-set}
use Rattle.std.proofs.Math.Seq.{get_or-set_same}
use Rattle.std.proofs.lemmas.Bool.{eqb-false}
use Rattle.std.proofs.Math.Dec.{eqb}
use Rattle.truth.specs.Truth.Bools.{same_bool, by_split, clash, both, right, either, or_left, or_right}
use Rattle.sets.specs.Sets.{has}
use Rattle.graph.specs.Graph.{Graph, Acceptable, System, may, sure, Arrival, arriving, in_set, past_set, out_set, is_check, check, from, held}
use Rattle.graph.specs.Graph.Arrivals.{Arrives, by_mark, by_edge, arriving_mark, arriving_edge}
use Rattle.graph.proofs.Graph.Edges.{in_may, in_sure, past_may, past_sure}
use Rattle.graph.specs.Graph.Rule.{out_by_rule, out_rule_mono}
use Rattle.graph.specs.Graph.Rules.{from_low, check_low}
use Rattle.flow.specs.Walk.{merge, past_num, judged_num, carried, AnyPasses, into, counts, Toward, PastBelow, Begun, to_of}
use Rattle.flow.specs.Walk.Order.{toward_refl, toward_trans, merge_left, merge_right, merge_both}
use Rattle.flow.proofs.Walk.Sums.{has_carried, has_past_sure, set_holds, edge_toward, edge_past, begun_below, begun_past_below, begun_good}
use Rattle.sums.specs.Sums.{Room, begun, kept}
use Rattle.round.specs.Round.{nodes, sums_to, ins_to, past_to, Gatherable, Gathers, gathered, unsent, unbegun}

-- ---- the sums of what counts, while edges arrive

module _ (tos : List ℕ) (y : System) (o : List ℕ) (counted : ℕ → Bool) (s : List ℕ) (m : ℕ) (ends : (e : ℕ) → e < m → get_or tos e 0 < length s) where
  abbrev sums : ℕ → List ℕ
  sums i = sums_to tos y o counted i s

  cond_long : (t : Bool) (l : List ℕ) (b v : ℕ) → length (cond t (into y l b v) l) ≡ length l
  cond_long true l b v = length-set l b _
  cond_long false l b v = refl

  sums_long : (i : ℕ) → length (sums i) ≡ length s
  unfolding sums_to
  sums_long zero = refl
  sums_long (suc e) = cond_long (counted e) (sums e) (get_or tos e 0) (get_or o e 0) ∙ sums_long e

  end_low : (e : ℕ) → e < m → get_or tos e 0 < length (sums e)
  end_low e l = rw (sums_long e) (ends e l)

  -- what holds of a node's sum before an edge, and is kept where the edge's set counts and arrives there, holds after it
  one_holds : (P : ℕ → Type 0) (n e : ℕ) → e < m → (counted e ≡ true → get_or tos e 0 ≡ n → (x : ℕ) → P x → P (merge y x (get_or o e 0)))
      → P (get_or (sums e) n 0) → P (get_or (sums (suc e)) n 0)
  unfolding sums_to
  one_holds P n e l f before = go (counted e) refl
    where
      go : (t : Bool) → counted e ≡ t → P (get_or (cond t (into y (sums e) (get_or tos e 0) (get_or o e 0)) (sums e)) n 0)
      go false c = before
      go true c =
          set_holds (λ (a x : ℕ). (a ≡ n → P x)) (sums e) (get_or tos e 0) _ (end_low e l)
          (λ q. f c q (get_or (sums e) (get_or tos e 0) 0) (rw q before)) n (λ _. before) refl

  -- so it is with all edges
  pub all_hold : (P : ℕ → Type 0) (n i : ℕ) → i ≤ m → ((e : ℕ) → e < m → counted e ≡ true → get_or tos e 0 ≡ n → (x : ℕ) → P x → P (merge y x (get_or o e 0)))
      → P (get_or s n 0) → P (get_or (sums i) n 0)
  unfolding sums_to
  all_hold P n zero h f base = base
  all_hold P n (suc e) h f base = one_holds P n e h (f e h) (all_hold P n e (omega arith) f base)

  -- a sum keeps what it had
  pub keeps : (i n p : ℕ) → i ≤ m → Toward y (has (get_or s n 0) p) (has (get_or (sums i) n 0) p)
  keeps i n p h =
      all_hold (λ (x : ℕ). Toward y (has (get_or s n 0) p) (has x p)) n i h
      (λ e _ _ _ x before. toward_trans y _ _ _ before (merge_left x (get_or o e 0) p y)) (toward_refl y _)

  -- and gets what each edge brings that counts
  pub gets : (i e p : ℕ) → e < i → i ≤ m → counted e ≡ true → Toward y (has (get_or o e 0) p) (has (get_or (sums i) (get_or tos e 0) 0) p)
  unfolding sums_to
  gets zero e p l h c = absurd (omega arith)
  gets (suc d) e p l h c = go (ℕ_discrete e d) (λ f. gets d e p (omega arith) (omega arith) c)
    where
      here : counted d ≡ true → Toward y (has (get_or o d 0) p) (has (get_or (sums (suc d)) (get_or tos d 0) 0) p)
      here k =
          rw (k, get_or-set_same (sums d) (get_or tos d 0) (merge y (get_or (sums d) (get_or tos d 0) 0) (get_or o d 0)) 0 (end_low d h))
          (merge_right (get_or (sums d) (get_or tos d 0) 0) (get_or o d 0) p y)

      go : Dec (e ≡ d) → ((e ≡ d → ⊥) → Toward y (has (get_or o e 0) p) (has (get_or (sums d) (get_or tos e 0) 0) p))
          → Toward y (has (get_or o e 0) p) (has (get_or (sums (suc d)) (get_or tos e 0) 0) p)
      go (yes q) f = rw q (here (rw q at c))
      go (no q) f =
          one_holds (λ (x : ℕ). Toward y (has (get_or o e 0) p) (has x p)) (get_or tos e 0) d h
          (λ _ _ x before. toward_trans y _ _ _ before (merge_left x (get_or o d 0) p y)) (f q)

-- ---- in(n)

module _ (g : Graph) (acc : Acceptable g) (w o s q : List ℕ) (long : g.size.n ≤ length s) where
  abbrev arriving_all : System → List ℕ
  arriving_all y = ins_to g y o g.size.m s

  ends : (e : ℕ) → e < g.size.m → to_of g e < length s
  ends e l = omega (arith, (acc.edges e l).to_node)

  module _ (y : System) (b : Begun y g.size.k g.size.n g.nodes.checks g.nodes.entries g.nodes.grants s q) (n p : ℕ) (u : n < g.size.n) (k : p < g.size.k) where
    toward : Toward y (has (get_or (arriving_all y) n 0) p) (in_set g y (held o) n p)
    toward =
        all_hold g.edges.tos y o (λ e. true) s g.size.m ends (λ (x : ℕ). Toward y (has x p) (in_set g y (held o) n p)) n g.size.m (omega arith)
        (λ e l _ c x before. merge_both x (get_or o e 0) p y (in_set g y (held o) n p) before (rw c at (edge_toward g e p l k y (held o))))
        (begun_below g y acc w s q b (held o) n p u k)

    by_entry : get_or g.nodes.entries n 0 ≡ 1 → Toward y (has (get_or g.nodes.grants n 0) p) (has (get_or (arriving_all y) n 0) p)
    by_entry e =
        toward_trans y _ _ _ ((begun_good g y acc w s q b).s_entry n p u k e)
        (keeps g.edges.tos y o (λ e. true) s g.size.m ends g.size.m n p (omega arith))

    by_edges : (e : ℕ) → e < g.size.m → to_of g e ≡ n → Toward y (has (get_or o e 0) p) (has (get_or (arriving_all y) n 0) p)
    by_edges e l c = rw c at (gets g.edges.tos y o (λ e. true) s g.size.m ends g.size.m e p l (omega arith) refl)

  pub gathered_in : (y : System) → Begun y g.size.k g.size.n g.nodes.checks g.nodes.entries g.nodes.grants s q
      → (n p : ℕ) → n < g.size.n → p < g.size.k → has (get_or (arriving_all y) n 0) p ≡ in_set g y (held o) n p
  gathered_in may b n p u k = same_bool _ _ (toward may b n p u k) (λ t. let r = (in_may g (held o) n p).0 t in back r.0 r.1 r.2)
    where
      back : (x : Arrival) → Arrives g n x → arriving g (held o) n x p ≡ true → has (get_or (arriving_all may) n 0) p ≡ true
      back x (by_mark m) v = by_entry may b n p u k (eqb-true _ 1 m) (sym (arriving_mark g (held o) n p) ∙ v)
      back x (by_edge e l c) v = by_edges may b n p u k e l c (sym (arriving_edge g (held o) n e p) ∙ v)
  gathered_in sure b n p u k = same_bool _ _ (λ t. (in_sure g (held o) n p).1 (back t)) (toward sure b n p u k)
    where
      back : has (get_or (arriving_all sure) n 0) p ≡ true → (x : Arrival) → Arrives g n x → arriving g (held o) n x p ≡ true
      back t x (by_mark m) = arriving_mark g (held o) n p ∙ by_entry sure b n p u k (eqb-true _ 1 m) t
      back t x (by_edge e l c) = arriving_edge g (held o) n e p ∙ by_edges sure b n p u k e l c t

-- ---- what is past a check n

module _ (g : Graph) (acc : Acceptable g) (w o s q : List ℕ) (long : g.size.n ≤ length q) (few : (e : ℕ) → e < g.size.m → get_or o e 0 < 2 ^ g.size.k)
    (n p : ℕ) (u : n < g.size.n) (k : p < g.size.k) (i : is_check g n ≡ true) where
  q_ends : (e : ℕ) → e < g.size.m → to_of g e < length q
  q_ends e l = omega (arith, (acc.edges e l).to_node)

  abbrev counted : System → ℕ → Bool
  counted y e = counts g y w e (get_or o e 0)

  abbrev passing : System → ℕ
  passing y = get_or (past_to g y w o g.size.m q) n 0

  module _ (y : System) (b : Begun y g.size.k g.size.n g.nodes.checks g.nodes.entries g.nodes.grants s q) where
    no_more : PastBelow g y w (held o) n p (has (passing y) p)
    no_more =
        all_hold g.edges.tos y o (counted y) q g.size.m q_ends (λ (x : ℕ). PastBelow g y w (held o) n p (has x p)) n g.size.m (omega arith)
        (λ e l c r x before. one e l c r x before)
        (begun_past_below g y acc w s q b (held o) n p u k)
      where
        one : (e : ℕ) → e < g.size.m → counted y e ≡ true → to_of g e ≡ n → (x : ℕ) → PastBelow g y w (held o) n p (has x p) → PastBelow g y w (held o) n p (has (merge y x (get_or o e 0)) p)
        one e l c r x before =
            subst (λ (a : ℕ). PastBelow g y w (held o) a p (has (merge y x (get_or o e 0)) p)) r
            (edge_past g e p l k y w (held o) x (get_or o e 0) (few e l) (λ p' _. toward_refl y _) c (rw r before))

    of_entry : get_or g.nodes.entries n 0 ≡ 1 → has (get_or g.nodes.grants n 0) (get_or g.nodes.checks n 0) ≡ true → Toward y (has (get_or g.nodes.grants n 0) p) (has (passing y) p)
    of_entry e h =
        toward_trans y _ _ _ ((begun_good g y acc w s q b).q_entry n p u k e h) (keeps g.edges.tos y o (counted y) q g.size.m q_ends g.size.m n p (omega arith))

    of_edge : (e : ℕ) → e < g.size.m → to_of g e ≡ n → counted y e ≡ true → Toward y (has (get_or o e 0) p) (has (passing y) p)
    of_edge e l c t = rw c at (gets g.edges.tos y o (counted y) q g.size.m q_ends g.size.m e p l (omega arith) t)

  -- for MAY it is what arrives and passes
  pub gathered_past : Begun may g.size.k g.size.n g.nodes.checks g.nodes.entries g.nodes.grants s q → has (passing may) p ≡ past_set g (held o) may (held o) n p
  unfolding judged_num
  gathered_past b = same_bool _ _ (no_more may b) (λ t. let r = (past_may g (held o) (held o) n p).0 t in back r.0 r.1 r.2 r.3)
    where
      back : (x : Arrival) → Arrives g n x → arriving g (held o) n x (check g n) ≡ true → arriving g (held o) n x p ≡ true → has (passing may) p ≡ true
      back x (by_mark m) c v = of_entry may b (eqb-true _ 1 m) (sym (arriving_mark g (held o) n (check g n)) ∙ c) (sym (arriving_mark g (held o) n p) ∙ v)
      back x (by_edge e l j) c v =
          let d : n ≡ to_of g e = sym j in
          let kind : eqb (get_or g.nodes.kinds (to_of g e) 0) 2 ≡ true = rw d at i in
          let holds : has (get_or o e 0) (get_or g.nodes.checks n 0) ≡ true = (sym (arriving_edge g (held o) n e (check g n)) ∙ c) in
          let holds2 : has (get_or o e 0) (get_or g.nodes.checks (to_of g e) 0) ≡ true = rw d at holds in
          of_edge may b e l j (both kind holds2) (sym (arriving_edge g (held o) n e p) ∙ v)

  -- for SURE what is held by all that passes, by MAY's out sets w
  pub gathered_held : Begun sure g.size.k g.size.n g.nodes.checks g.nodes.entries g.nodes.grants s q
      → (has (passing sure) p ≡ true) ↔ ((x : Arrival) → Arrives g n x → arriving g (held w) n x (check g n) ≡ true → arriving g (held o) n x p ≡ true)
  unfolding judged_num
  gathered_held b = (back, no_more sure b)
    where
      back : has (passing sure) p ≡ true → (x : Arrival) → Arrives g n x → arriving g (held w) n x (check g n) ≡ true → arriving g (held o) n x p ≡ true
      back t x (by_mark m) c = arriving_mark g (held o) n p ∙ of_entry sure b (eqb-true _ 1 m) (sym (arriving_mark g (held w) n (check g n)) ∙ c) t
      back t x (by_edge e l j) c =
          let d : n ≡ to_of g e = sym j in
          let kind : eqb (get_or g.nodes.kinds (to_of g e) 0) 2 ≡ true = rw d at i in
          let holds : has (get_or w e 0) (get_or g.nodes.checks n 0) ≡ true = (sym (arriving_edge g (held w) n e (check g n)) ∙ c) in
          let holds2 : has (get_or w e 0) (get_or g.nodes.checks (to_of g e) 0) ≡ true = rw d at holds in
          arriving_edge g (held o) n e p ∙ of_edge sure b e l j (both kind holds2) t

-- ---- what the call stores of an accepted graph

module _ (g : Graph) (acc : Acceptable g) (y : System) (w o s q : List ℕ) (ls : g.size.n ≤ length s) (lq : g.size.n ≤ length q) (lw : g.size.m ≤ length w) (lo : g.size.m ≤ length o) where
  can_send : Gatherable g w o
  can_send =
      let n = acc.shape.nodes in
      record {
        few = omega (arith, n.kinds, acc.shape.ranges.n_high);
        checks_long = omega arith;
        wide_long = omega (arith, acc.shape.edges.tos);
        out_long = omega (arith, acc.shape.edges.tos);
        ends = λ e l. rw n.kinds (acc.edges e (omega (arith, acc.shape.edges.tos))).to_node;
      }

  can_begin : Room (nodes g) g.nodes s q
  can_begin =
      let n = acc.shape.nodes in
      record { ins_long = omega (arith, n.kinds); past_long = omega (arith, n.kinds); checks_long = omega arith; entries_long = omega arith; grants_long = omega arith }

  -- the sums begin, and then all edges arrive
  pub record Stores (s' q' : List ℕ) : Type 0 where
    pub s₀ : List ℕ
    pub q₀ : List ℕ
    pub s_long : length s₀ ≡ length s
    pub q_long : length q₀ ≡ length q
    pub first : Begun y g.size.k g.size.n g.nodes.checks g.nodes.entries g.nodes.grants s₀ q₀
    pub ins_is : s' ≡ ins_to g y o g.size.m s₀
    pub past_is : q' ≡ past_to g y w o g.size.m q₀

  pub gathers_stores : {r : Bool} {s' q' : List ℕ} → Gathers g y w o s q r s' q' → Stores s' q'
  gathers_stores (gathered {s₀ = s₀} {q₀ = q₀} h (begun _ b)) = record {
    s₀ = s₀;
    q₀ = q₀;
    s_long = b.ins_long;
    q_long = b.past_long;
    first = rw acc.shape.nodes.kinds at b.first;
    ins_is = rw acc.shape.edges.tos;
    past_is = rw acc.shape.edges.tos;
  }
  gathers_stores (unsent d) = absurd (d can_send)
  gathers_stores (unbegun (kept d)) = absurd (d can_begin)

  -- so the sums are in(n) of the out sets
  pub gathers_in : {r : Bool} {s' q' : List ℕ} → Gathers g y w o s q r s' q'
      → (n p : ℕ) → n < g.size.n → p < g.size.k → has (get_or s' n 0) p ≡ in_set g y (held o) n p
  gathers_in f n p u k =
      let t = gathers_stores f in
      rw t.ins_is (gathered_in g acc w o t.s₀ t.q₀ (omega (arith, t.s_long)) y t.first n p u k)

-- ---- one round: what the edges carry by gathered sums is what the equations give of the out sets

module _ (g : Graph) (acc : Acceptable g) (w o s q a : List ℕ) (ls : g.size.n ≤ length s) (lq : g.size.n ≤ length q) (lw : g.size.m ≤ length w) (lo : g.size.m ≤ length o)
    (few : (e : ℕ) → e < g.size.m → get_or o e 0 < 2 ^ g.size.k) where
  -- of a node n whose sums were gathered, and of the from node of an edge
  gathers_past : {r : Bool} {s' q' : List ℕ} → Gathers g may w o s q r s' q' → (n p : ℕ) → n < g.size.n → p < g.size.k → is_check g n ≡ true
      → has (get_or q' n 0) p ≡ past_set g (held o) may (held o) n p
  gathers_past f n p u k i =
      let t = gathers_stores g acc may w o s q ls lq lw lo f in
      rw t.past_is (gathered_past g acc w o t.s₀ t.q₀ (omega (arith, t.q_long)) few n p u k i t.first)

  gathers_held : {r : Bool} {s' q' : List ℕ} → Gathers g sure w o s q r s' q' → (n p : ℕ) → n < g.size.n → p < g.size.k → is_check g n ≡ true
      → (has (get_or q' n 0) p ≡ true) ↔ ((x : Arrival) → Arrives g n x → arriving g (held w) n x (check g n) ≡ true → arriving g (held o) n x p ≡ true)
  gathers_held f n p u k i =
      let t = gathers_stores g acc sure w o s q ls lq lw lo f in
      rw t.past_is (gathered_held g acc w o t.s₀ t.q₀ (omega (arith, t.q_long)) few n p u k i t.first)

  from_in : (y : System) {r : Bool} {s' q' : List ℕ} → Gathers g y w o s q r s' q' → (e p : ℕ) → e < g.size.m → p < g.size.k
      → has (get_or s' (from g e) 0) p ≡ in_set g y (held o) (from g e) p
  from_in y f e p l k = gathers_in g acc y w o s q ls lq lw lo f (from g e) p (from_low g acc e l) k

  pub may_round : {r : Bool} {s' q' : List ℕ} → Gathers g may w o s q r s' q'
      → (e p : ℕ) → e < g.size.m → p < g.size.k → has (carried g may a s' q' e) p ≡ out_set g (held o) may (held o) e p
  unfolding past_num
  may_round {s' = s'} {q' = q'} f e p l k =
      has_carried g may a s' q' e p ∙ same_bool _ _ (out_rule_mono g e p _ _ _ _ (λ t. sym in_is ∙ t) (λ i t. sym (past_is i) ∙ t)) (out_rule_mono g e p _ _ _ _ (λ t. in_is ∙ t) (λ i t. past_is i ∙ t))
      ∙ sym (out_by_rule g (held o) may (held o) e p)
    where
      in_is : has (get_or s' (from g e) 0) p ≡ in_set g may (held o) (from g e) p
      in_is = from_in may f e p l k

      past_is : is_check g (from g e) ≡ true → has (get_or q' (from g e) 0) p ≡ past_set g (held o) may (held o) (from g e) p
      past_is i = gathers_past f (from g e) p (from_low g acc e l) k i

  -- a says of every check whether anything passes it, by MAY's out sets w
  pub sure_round : AnyPasses g sure w a → {r : Bool} {s' q' : List ℕ} → Gathers g sure w o s q r s' q'
      → (e p : ℕ) → e < g.size.m → p < g.size.k → has (carried g sure a s' q' e) p ≡ out_set g (held w) sure (held o) e p
  sure_round any {s' = s'} {q' = q'} f e p l k =
      has_carried g sure a s' q' e p ∙ same_bool _ _ (out_rule_mono g e p _ _ _ _ (λ t. sym in_is ∙ t) past_onward) (out_rule_mono g e p _ _ _ _ (λ t. in_is ∙ t) past_from)
      ∙ sym (out_by_rule g (held w) sure (held o) e p)
    where
      n : ℕ
      n = from g e

      c : ℕ
      c = get_or g.nodes.checks n 0

      low : n < g.size.n
      low = from_low g acc e l

      in_is : has (get_or s' n 0) p ≡ in_set g sure (held o) n p
      in_is = from_in sure f e p l k

      held_is : is_check g n ≡ true → (has (get_or q' n 0) p ≡ true) ↔ ((x : Arrival) → Arrives g n x → arriving g (held w) n x (check g n) ≡ true → arriving g (held o) n x p ≡ true)
      held_is i = gathers_held f n p low k i

      past_onward : is_check g n ≡ true → has (past_num sure c (get_or q' n 0) (has (get_or a n 0) c)) p ≡ true → past_set g (held w) sure (held o) n p ≡ true
      past_onward i v = by (has (get_or a n 0) c) refl (sym (has_past_sure c (get_or q' n 0) p (has (get_or a n 0) c)) ∙ v)
        where
          by : (b : Bool) → has (get_or a n 0) c ≡ b → cond b (has (get_or q' n 0) p || (ltb c 64 && eqb c p)) false ≡ true → past_set g (held w) sure (held o) n p ≡ true
          by false z v = clash v refl
          by true z v =
              (past_sure g (held w) (held o) n p).1
              (record {
                passing = (any n low i).0 z;
                held_by_all = λ d. ⊎_elim (held_is i).0 (λ h. absurd (d (sym (eqb-true c p (right (ltb c 64) (eqb c p) h))))) (either (has (get_or q' n 0) p) (ltb c 64 && eqb c p) v);
              })

      past_from : is_check g n ≡ true → past_set g (held w) sure (held o) n p ≡ true → has (past_num sure c (get_or q' n 0) (has (get_or a n 0) c)) p ≡ true
      past_from i v =
          let r = (past_sure g (held w) (held o) n p).0 v in
          let own : check g n ≡ c = refl in
          let passes : has (get_or a n 0) c ≡ true = rw own at ((any n low i).1 r.passing) in
          let c_low : c < g.size.k = rw own at (check_low g acc n low i) in
          has_past_sure c (get_or q' n 0) p (has (get_or a n 0) c)
          ∙ rw passes
          (by_split (eqb c p)
          (λ h. or_right (has (get_or q' n 0) p) (both (lt-ltb c 64 (omega (arith, acc.shape.ranges.k_high))) h))
          (λ h. or_left _ ((held_is i).1 (r.held_by_all (λ z. eqb-false c p h (sym own ∙ sym z))))))
