-- The sums of the nodes: what edges carry by them, how they begin, and what an arrival keeps of them.
use Prim.Native.Nat.{ℕ, ◌≤◌, ◌<◌, ◌^◌}
use Rattle.std.specs.Prelude.{◌≡◌, refl, List, Bool, false, cond, ◌&&◌, ◌||◌, eqb, ltb, length, get_or}
use Rattle.std.proofs.Math.Path.{sym}
use Rattle.std.proofs.Common.{◌∙◌, ap, ap₂, arith, get_or-set_same, get_or-set_other}
use Rattle.std.proofs.Math.Bool.{true}
use Rattle.std.proofs.Math.Logic.{⊎_elim}
use Rattle.std.proofs.Math.Decide.{ℕ_discrete}
use Rattle.std.proofs.Math.ListN.{set}
use borrow.Author.Tests.{eqb-true, eq-eqb, ne_eqb, eqb-false, lt-ltb}
use Rattle.truth.specs.Truth.Bools.{by_split, both, left, right, either, or_left, or_right}
use Rattle.sets.specs.Sets.{has, empty, common}
use Rattle.sets.specs.Sets.Members.{has_common, has_empty, has_add, below_members, has_join}
use Rattle.graph.specs.Graph.{call_rule, trans_rule, out_rule, Graph, is_check, check, privileged, grants, from, to, is_call, Acceptable, System, may, sure, Outs, mark, edge, arriving, in_set, past_set, held}
use Rattle.graph.specs.Graph.Arrivals.{Arrives, by_mark, by_edge, arriving_mark, arriving_edge}
use Rattle.graph.proofs.Graph.Edges.{in_may, in_sure, past_may, past_sure}
use Rattle.graph.specs.Graph.Rules.{from_low, check_low}
use Rattle.graph.specs.Graph.Rule.{out_by_rule, out_rule_mono}
use Rattle.graph.specs.Graph.Code.{privileged_code}
use Rattle.flow.specs.Walk.{start, merge, call_num, past_num, trans_num, edge_num, judged_num, start_ins, start_past, past_by, called_by, moved_by, carried, to_of, counts, into, Begun, Toward, Closed, PastBelow, Setting, Good}
use Rattle.flow.specs.Walk.Order.{toward_refl, toward_trans, merge_left, merge_both, merge_lt, start_lt, start_first}

-- the trans set of a node that is no check
pub trans_plain : (kind check privileged grants arrived past : ℕ) → (kind ≡ 2 → ⊥) → arrived ≡ trans_num kind check privileged grants arrived past
unfolding trans_num
trans_plain kind check privileged grants arrived past h = simp (ne_eqb kind 2 h)

-- ---- what an edge carries

pick : (b : Bool) (x y p : ℕ) → has (cond b x y) p ≡ cond b (has x p) (has y p)
pick true x y p = refl
pick false x y p = refl

-- call(n) and trans(n), by the sums of n, are what their rules give
pub has_called : (g : Graph) (s : List ℕ) (n p : ℕ) → has (called_by g.nodes.privileged g.nodes.grants s n) p ≡ call_rule g n p (has (get_or s n 0) p)
unfolding call_num call_rule
has_called g s n p = rw (privileged_code (get_or g.nodes.privileged n 0) p) (pick (eqb (get_or g.nodes.privileged n 0) 1) (get_or g.nodes.grants n 0) (get_or s n 0) p)

has_moved : (g : Graph) (y : System) (a s q : List ℕ) (n p : ℕ)
    → has (moved_by g.nodes.kinds g.nodes.checks g.nodes.privileged g.nodes.grants y a s q n) p
    ≡ trans_rule g n p (has (get_or s n 0) p) (has (past_by g.nodes.checks y a q n) p)
unfolding trans_num trans_rule
has_moved g y a s q n p = go (is_check g n) (privileged g n (check g n)) (grants g n (check g n))
  where
    i : ℕ
    i = get_or s n 0

    b : ℕ
    b = past_by g.nodes.checks y a q n

    go : (k v h : Bool) → has (cond k (cond v (cond h i empty) b) i) p ≡ cond k (cond v (h && has i p) (has b p)) (has i p)
    go false v h = refl
    go true false h = refl
    go true true true = refl
    go true true false = has_empty p

-- what an edge carries is what the rule of its kind gives from the sums of its from node
pub has_carried : (g : Graph) (y : System) (a s q : List ℕ) (e p : ℕ)
    → has (carried g y a s q e) p ≡ out_rule g e p (has (get_or s (from g e) 0) p) (has (past_by g.nodes.checks y a q (from g e)) p)
unfolding out_rule edge_num
has_carried g y a s q e p =
    pick (is_call g e) (common c t) m p
    ∙ ap₂ (cond (is_call g e)) (has_common c t p ∙ ap (λ (b : Bool). b && has t p) (has_called g s (from g e) p)) (has_moved g y a s q (from g e) p)
  where
    c : ℕ
    c = called_by g.nodes.privileged g.nodes.grants s (from g e)

    m : ℕ
    m = moved_by g.nodes.kinds g.nodes.checks g.nodes.privileged g.nodes.grants y a s q (from g e)

    t : ℕ
    t = get_or g.nodes.grants (to g e) 0

-- what SURE has past a check
pub has_past_sure : (c q p : ℕ) (any : Bool) → has (past_num sure c q any) p ≡ cond any (has q p || (ltb c 64 && eqb c p)) false
unfolding past_num
has_past_sure c q p true = has_add q c p
has_past_sure c q p false = has_empty p

module _ (g : Graph) where
  -- the sums of a node go no further than closed out sets allow, so neither does what its edges carry
  pub carried_toward : (y : System) (w a s q : List ℕ) → Setting g y w a → Good g y w s q → (z : Outs) → Closed g y w z
      → (e p : ℕ) → e < g.size.m → p < g.size.k → Toward y (has (carried g y a s q e) p) (z e p)
  unfolding past_num
  carried_toward may w a s q set good z closed e p l k =
      λ t.
      let n = from g e in
      let low = from_low g set.acc e l in
      let u : out_rule g e p (has (get_or s n 0) p) (has (get_or q n 0) p) ≡ true = sym (has_carried g may a s q e p) ∙ t in
      closed e p l k (out_by_rule g z may z e p ∙ out_rule_mono g e p _ _ _ _ (good.s_below z closed n p low k) (λ _. good.q_below z closed n p low k) u)
  carried_toward sure w a s q set good z closed e p l k =
      λ t.
      has_carried g sure a s q e p ∙ out_rule_mono g e p _ _ _ _ (good.s_below z closed n p low k) past (sym (out_by_rule g (held w) sure z e p) ∙ closed e p l k t)
    where
      n : ℕ
      n = from g e

      low : n < g.size.n
      low = from_low g set.acc e l

      c : ℕ
      c = get_or g.nodes.checks n 0

      past : is_check g n ≡ true → past_set g (held w) sure z n p ≡ true → has (past_num sure c (get_or q n 0) (has (get_or a n 0) c)) p ≡ true
      past i t =
          let r = (past_sure g (held w) z n p).0 t in
          let e : check g n ≡ c = refl in
          let any : has (get_or a n 0) c ≡ true = rw e at ((set.any n low i).1 r.passing) in
          let c_low : c < g.size.k = rw e at (check_low g set.acc n low i) in
          has_past_sure c (get_or q n 0) p (has (get_or a n 0) c)
          ∙ rw any
          (by_split (eqb c p)
          (λ f. or_right (has (get_or q n 0) p) (both (lt-ltb c 64 (omega (arith, set.acc.shape.ranges.k_high))) f))
          (λ f. or_left _ (good.q_below z closed n p low k (r.held_by_all (λ o. eqb-false c p f (sym e ∙ sym o))))))

  -- ---- how sums begin

  module _ (acc : Acceptable g) (n : ℕ) (l : n < g.size.n) where
    grants_lt : get_or g.nodes.grants n 0 < 2 ^ g.size.k
    grants_lt = (below_members g.size.k (get_or g.nodes.grants n 0)).1 (acc.nodes n l).grants_below

  -- the entry mark's out set is the node's grants
  mark_holds : (z : Outs) (n p : ℕ) → arriving g z n mark p ≡ has (get_or g.nodes.grants n 0) p
  mark_holds z n p = arriving_mark g z n p

  mark_arrives : (n : ℕ) → get_or g.nodes.entries n 0 ≡ 1 → Arrives g n mark
  mark_arrives n e = by_mark (eq-eqb _ 1 e)

  mark_toward : (y : System) (z : Outs) (n p : ℕ) → get_or g.nodes.entries n 0 ≡ 1 → Toward y (has (get_or g.nodes.grants n 0) p) (in_set g y z n p)
  mark_toward may z n p e = λ t. (in_may g z n p).1 (mark, mark_arrives n e, mark_holds z n p ∙ t)
  mark_toward sure z n p e = λ t. sym (mark_holds z n p) ∙ (in_sure g z n p).0 t mark (mark_arrives n e)

  -- what the entry mark gives to what passes, where it passes
  mark_past : (y : System) (w : List ℕ) (z : Outs) (n p : ℕ) → get_or g.nodes.entries n 0 ≡ 1 → has (get_or g.nodes.grants n 0) (get_or g.nodes.checks n 0) ≡ true
      → PastBelow g y w z n p (has (get_or g.nodes.grants n 0) p)
  mark_past may w z n p e h =
      λ t. (past_may g z z n p).1 (mark, mark_arrives n e, mark_holds z n (get_or g.nodes.checks n 0) ∙ h, mark_holds z n p ∙ t)
  mark_past sure w z n p e h =
      λ f. sym (mark_holds z n p) ∙ f mark (mark_arrives n e) (mark_holds (held w) n (get_or g.nodes.checks n 0) ∙ h)

  start_past_first : (y : System) (w : List ℕ) (z : Outs) (n p : ℕ) → g.size.k ≤ 64 → p < g.size.k → PastBelow g y w z n p (has (start y g.size.k) p)
  start_past_first may w z n p h k = start_first may g.size.k p _ h k
  start_past_first sure w z n p h k = λ _. start_first sure g.size.k p true h k refl

  module _ (y : System) (acc : Acceptable g) (w s q : List ℕ) (b : Begun y g.size.k g.size.n g.nodes.checks g.nodes.entries g.nodes.grants s q) where
    low : (t : Bool) (n : ℕ) → n < g.size.n → cond t (get_or g.nodes.grants n 0) (start y g.size.k) < 2 ^ g.size.k
    low true n l = grants_lt acc n l
    low false n l = start_lt y g.size.k

    below : (z : Outs) (n p : ℕ) → p < g.size.k → (t : Bool) → eqb (get_or g.nodes.entries n 0) 1 ≡ t
        → Toward y (has (cond t (get_or g.nodes.grants n 0) (start y g.size.k)) p) (in_set g y z n p)
    below z n p k true e = mark_toward y z n p (eqb-true _ 1 e)
    below z n p k false e = start_first y g.size.k p (in_set g y z n p) acc.shape.ranges.k_high k

    past_below : (z : Outs) (n p : ℕ) → p < g.size.k → (t : Bool) → eqb (get_or g.nodes.entries n 0) 1 && has (get_or g.nodes.grants n 0) (get_or g.nodes.checks n 0) ≡ t
        → PastBelow g y w z n p (has (cond t (get_or g.nodes.grants n 0) (start y g.size.k)) p)
    past_below z n p k true e = mark_past y w z n p (eqb-true _ 1 (left _ _ e)) (right (eqb (get_or g.nodes.entries n 0) 1) _ e)
    past_below z n p k false e = start_past_first y w z n p acc.shape.ranges.k_high k

    -- they go no further than any out sets allow
    pub begun_below : (z : Outs) (n p : ℕ) → n < g.size.n → p < g.size.k → Toward y (has (get_or s n 0) p) (in_set g y z n p)
    unfolding start_ins
    begun_below z n p l k = rw (b.ins n l) (below z n p k (eqb (get_or g.nodes.entries n 0) 1) refl)

    pub begun_past_below : (z : Outs) (n p : ℕ) → n < g.size.n → p < g.size.k → PastBelow g y w z n p (has (get_or q n 0) p)
    unfolding start_past
    begun_past_below z n p l k = rw (b.past n l) (past_below z n p k (eqb (get_or g.nodes.entries n 0) 1 && has (get_or g.nodes.grants n 0) (get_or g.nodes.checks n 0)) refl)

    pub begun_good : Good g y w s q
    unfolding start_ins start_past
    begun_good = record {
      s_low = λ n l. rw (b.ins n l) (low (eqb (get_or g.nodes.entries n 0) 1) n l);
      q_low = λ n l. rw (b.past n l) (low (eqb (get_or g.nodes.entries n 0) 1 && has (get_or g.nodes.grants n 0) (get_or g.nodes.checks n 0)) n l);
      s_entry = λ n p l k e. rw (b.ins n l, eq-eqb (get_or g.nodes.entries n 0) 1 e) (toward_refl y (has (get_or g.nodes.grants n 0) p));
      q_entry = λ n p l k e h. rw (b.past n l, eq-eqb (get_or g.nodes.entries n 0) 1 e, h) (toward_refl y (has (get_or g.nodes.grants n 0) p));
      s_below = λ z c n p l k. begun_below z n p l k;
      q_below = λ z c n p l k. begun_past_below z n p l k;
    }

-- ---- an arrival

-- what holds of the number that is set at b, and of every other number, holds of the list
pub set_holds : (P : ℕ → ℕ → Type 0) (l : List ℕ) (b v : ℕ) → b < length l → P b v → (n : ℕ) → P n (get_or l n 0) → P n (get_or (set l b v) n 0)
set_holds P l b v h x n r = go (ℕ_discrete n b)
  where
    go : Dec (n ≡ b) → P n (get_or (set l b v) n 0)
    go (yes e) = rw e (rw (get_or-set_same l b v 0 h) x)
    go (no d) = rw (get_or-set_other l b n v 0 d) r

module _ (g : Graph) (e p : ℕ) (l : e < g.size.m) (k : p < g.size.k) where
  edge_arrives : Arrives g (to_of g e) (edge e)
  edge_arrives = by_edge e l refl

  pub edge_toward : (y : System) (z : Outs) → Toward y (z e p) (in_set g y z (to_of g e) p)
  edge_toward may z = λ t. (in_may g z (to_of g e) p).1 (edge e, edge_arrives, arriving_edge g z (to_of g e) e p ∙ t)
  edge_toward sure z = λ t. sym (arriving_edge g z (to_of g e) e p) ∙ (in_sure g z (to_of g e) p).0 t (edge e) edge_arrives

  -- where a set v that edge e carries counts at the check of its to node
  pub edge_past : (y : System) (w : List ℕ) (z : Outs) (q v : ℕ) → v < 2 ^ g.size.k → ((p : ℕ) → p < g.size.k → Toward y (has v p) (z e p)) → counts g y w e v ≡ true
      → PastBelow g y w z (to_of g e) p (has q p) → PastBelow g y w z (to_of g e) p (has (merge y q v) p)
  unfolding judged_num merge
  edge_past may w z q v low h c f =
      λ t. ⊎_elim f own (either (has q p) (has v p) (sym (has_join q v p) ∙ t))
    where
      b : ℕ
      b = to_of g e

      held_check : has v (get_or g.nodes.checks b 0) ≡ true
      held_check = right (eqb (get_or g.nodes.kinds b 0) 2) (has v (get_or g.nodes.checks b 0)) c

      own : has v p ≡ true → past_set g z may z b p ≡ true
      own t =
          (past_may g z z b p).1 (
            edge e,
            edge_arrives,
            (arriving_edge g z b e (get_or g.nodes.checks b 0) ∙ h (get_or g.nodes.checks b 0) ((below_members g.size.k v).0 low _ held_check) held_check),
            arriving_edge g z b e p ∙ h p k t,
          )
  edge_past sure w z q v low h c f =
      λ all.
      has_common q v p
      ∙ both (f all)
      (h p k (sym (arriving_edge g z b e p) ∙ all (edge e) edge_arrives ((arriving_edge g (held w) b e (get_or g.nodes.checks b 0) ∙ right (eqb (get_or g.nodes.kinds b 0) 2) (has (get_or w e 0) (get_or g.nodes.checks b 0)) c))))
    where
      b : ℕ
      b = to_of g e

module _ (g : Graph) (y : System) (w s q : List ℕ) (good : Good g y w s q) (e v : ℕ) (l : e < g.size.m) (low : v < 2 ^ g.size.k)
    (toward : (z : Outs) → Closed g y w z → (p : ℕ) → p < g.size.k → Toward y (has v p) (z e p)) (bs : to_of g e < length s) (bq : to_of g e < length q) (bn : to_of g e < g.size.n) where
  abbrev b : ℕ
  b = to_of g e

  pub arrive_good : (counted : Bool) → counted ≡ counts g y w e v → Good g y w (into y s b v) (cond counted (into y q b v) q)
  arrive_good counted c = record {
    s_low = λ n h. set_holds (λ (_ x : ℕ). x < 2 ^ g.size.k) s b _ bs (merge_lt y g.size.k (get_or s b 0) v (good.s_low b bn) low) n (good.s_low n h);
    s_entry = λ n p h k i. set_holds (λ (m x : ℕ). (get_or g.nodes.entries m 0 ≡ 1 → Toward y (has (get_or g.nodes.grants m 0) p) (has x p))) s b _ bs (λ i. toward_trans y _ _ _ (good.s_entry b p bn k i) (merge_left (get_or s b 0) v p y)) n (good.s_entry n p h k) i;
    s_below = λ z cl n p h k. set_holds (λ (m x : ℕ). Toward y (has x p) (in_set g y z m p)) s b _ bs (merge_both (get_or s b 0) v p y _ (good.s_below z cl b p bn k) (toward_trans y _ _ _ (toward z cl p k) (edge_toward g e p l k y z))) n (good.s_below z cl n p h k);
    q_low = λ n h. past_low counted n h;
    q_entry = λ n p h k i o. past_entry counted n p h k i o;
    q_below = λ z cl n p h k. past_below counted c z cl n p h k;
  }
    where
      past_low : (t : Bool) (n : ℕ) → n < g.size.n → get_or (cond t (into y q b v) q) n 0 < 2 ^ g.size.k
      past_low true n h = set_holds (λ (_ x : ℕ). x < 2 ^ g.size.k) q b _ bq (merge_lt y g.size.k (get_or q b 0) v (good.q_low b bn) low) n (good.q_low n h)
      past_low false n h = good.q_low n h

      past_entry : (t : Bool) (n p : ℕ) → n < g.size.n → p < g.size.k → get_or g.nodes.entries n 0 ≡ 1 → has (get_or g.nodes.grants n 0) (get_or g.nodes.checks n 0) ≡ true
          → Toward y (has (get_or g.nodes.grants n 0) p) (has (get_or (cond t (into y q b v) q) n 0) p)
      past_entry true n p h k i o = set_holds (λ (m x : ℕ). (get_or g.nodes.entries m 0 ≡ 1 → has (get_or g.nodes.grants m 0) (get_or g.nodes.checks m 0) ≡ true → Toward y (has (get_or g.nodes.grants m 0) p) (has x p))) q b _ bq (λ i o. toward_trans y _ _ _ (good.q_entry b p bn k i o) (merge_left (get_or q b 0) v p y)) n (good.q_entry n p h k) i o
      past_entry false n p h k i o = good.q_entry n p h k i o

      past_below : (t : Bool) → t ≡ counts g y w e v → (z : Outs) → Closed g y w z → (n p : ℕ) → n < g.size.n → p < g.size.k → PastBelow g y w z n p (has (get_or (cond t (into y q b v) q) n 0) p)
      past_below true c z cl n p h k = set_holds (λ (m x : ℕ). PastBelow g y w z m p (has x p)) q b _ bq (edge_past g e p l k y w z (get_or q b 0) v low (toward z cl) (sym c) (good.q_below z cl b p bn k)) n (good.q_below z cl n p h k)
      past_below false c z cl n p h k = good.q_below z cl n p h k
