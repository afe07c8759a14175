-- What one arrival keeps of a walk that is telling the edges of a node.
use Rattle.std.specs.Prelude.{◌≡◌, List, Bool, cond, ◌&&◌, ◌||◌, ℕ, suc, ◌+◌, ◌≤◌, ◌<◌, ◌^◌, length, set}
use Rattle.std.proofs.Math.Path.{refl}
use Rattle.std.proofs.Common.{sym, ap, ap₂, ◌∙◌, subst, ⊎_elim, arith, lt_of_lt_of_le, pow_mono, length-set, get_or-set_same, get_or-set_other, eqb-true}
use Rattle.std.proofs.Math.Bool.{true, false}
use Rattle.std.proofs.Math.Logic.{dite}
use Rattle.std.proofs.Math.Decide.{ℕ_discrete, dec_lt}
use Rattle.std.proofs.Math.ListN.{get_or}
use Rattle.std.proofs.lemmas.List.{set-get_or}
use Rattle.std.proofs.lemmas.Bool.{not-false}
use Rattle.truth.specs.Truth.Bools.{by_split, clash, either}
use Rattle.sets.specs.Sets.{has}
use Rattle.graph.specs.Graph.{Graph, System}
use Rattle.graph.specs.Graph.Rules.{to_low}
use Rattle.worklist.specs.Worklist.{fresh}
use Rattle.worklist.specs.Worklist.Stack.{put_stacked, fresh_so, fresh_unmarked}
use Rattle.flow.specs.Walk.{merge, call_num, past_num, trans_num, edge_num, carried, from_of, to_of, counts, State, into, changes, changed, push, arrive, Toward, Setting, Good, Quiet, left, Sending}
use Rattle.flow.specs.Walk.Order.{toward_trans, toward_refl, merge_left, merge_right}
use Rattle.flow.proofs.Walk.Sums.{set_holds, arrive_good, carried_toward}
use Rattle.flow.specs.Walk.Left.{into_less, into_most}

-- an edge carries the same while the sums of its from node are the same
carried_same : (g : Graph) (y : System) (a s q s' q' : List ℕ) (e : ℕ) → get_or s (from_of g e) 0 ≡ get_or s' (from_of g e) 0 → get_or q (from_of g e) 0 ≡ get_or q' (from_of g e) 0
    → carried g y a s q e ≡ carried g y a s' q' e
carried_same g y a s q s' q' e =
    ap₂ (λ (i j : ℕ). edge_num (get_or g.edges.ways e 0) (call_num (get_or g.nodes.privileged n 0) (get_or g.nodes.grants n 0) i) (trans_num (get_or g.nodes.kinds n 0) (get_or g.nodes.checks n 0) (get_or g.nodes.privileged n 0) (get_or g.nodes.grants n 0) i (past_num y (get_or g.nodes.checks n 0) j (has (get_or a n 0) (get_or g.nodes.checks n 0)))) (get_or g.nodes.grants (to_of g e) 0))
  where
    n : ℕ
    n = from_of g e

toward_same : (y : System) (p : ℕ) (z : Bool) {u v : ℕ} → u ≡ v → Toward y (has u p) z → Toward y (has v p) z
toward_same y p z e = subst (λ (m : ℕ). Toward y (has m p) z) e

-- ---- sums after an arrival

module _ (y : System) (s : List ℕ) (b v : ℕ) where
  kept : changes y s b v ≡ false → into y s b v ≡ s
  kept c = ap (set s b) (eqb-true (merge y (get_or s b 0) v) (get_or s b 0) (not-false _ c)) ∙ set-get_or s b 0

  grown : b < length s → (z p : ℕ) → Toward y (has (get_or s z 0) p) (has (get_or (into y s b v) z 0) p)
  grown h z p = set_holds (λ (m x : ℕ). Toward y (has (get_or s m 0) p) (has x p)) s b _ h (merge_left (get_or s b 0) v p y) z (toward_refl y _)

module _ (y : System) (q : List ℕ) (b v : ℕ) where
  kept_past : (counted : Bool) → (counted && changes y q b v) ≡ false → cond counted (into y q b v) q ≡ q
  kept_past true c = kept y q b v c
  kept_past false c = refl

  grown_past : b < length q → (counted : Bool) (z p : ℕ) → Toward y (has (get_or q z 0) p) (has (get_or (cond counted (into y q b v) q) z 0) p)
  grown_past h true z p = grown y q b v h z p
  grown_past h false z p = toward_refl y _

  other_past : (counted : Bool) (z : ℕ) → (z ≡ b → ⊥) → get_or (cond counted (into y q b v) q) z 0 ≡ get_or q z 0
  other_past true z d = get_or-set_other q b z _ 0 d
  other_past false z d = refl

  length_past : (counted : Bool) → length (cond counted (into y q b v) q) ≡ length q
  length_past true = length-set q b _
  length_past false = refl

or_false_left : (a b : Bool) → a || b ≡ false → a ≡ false
or_false_left true b e = e
or_false_left false b e = refl

or_false_right : (a b : Bool) → a || b ≡ false → b ≡ false
or_false_right true b e = clash refl e
or_false_right false b e = e

-- ---- the step

module _ (g : Graph) (y : System) (w a : List ℕ) (setting : Setting g y w a) (x₀ x : State) (n e cur : ℕ) (good₀ : Good g y w x₀.ins x₀.past)
    (h : Sending g y w a x₀ x n (suc e)) (l : e < g.size.m) (leaves : from_of g e ≡ n) (v : ℕ) (is : v ≡ carried g y a x₀.ins x₀.past e) (low : v < 2 ^ g.size.k)
    (upper : (d : ℕ) → d < e → from_of g d ≡ n → d < cur) where
  abbrev b : ℕ
  b = to_of g e

  abbrev c : Bool
  c = counts g y w e v

  abbrev s' : List ℕ
  s' = into y x.ins b v

  abbrev q' : List ℕ
  q' = cond c (into y x.past b v) x.past

  abbrev ch : Bool
  ch = changed y x.ins x.past b v c

  bn : b < g.size.n
  bn = to_low g setting.acc e l

  small : b ≤ 65535
  small = omega (arith, bn, setting.acc.shape.ranges.n_high)

  bs : b < length x.ins
  bs = omega (arith, bn, h.sized.ins_long)

  bq : b < length x.past
  bq = omega (arith, bn, h.sized.past_long)

  bd : b < length x.marks
  bd = omega (arith, bn, h.sized.marks_long)

  wide : {z : ℕ} → z < 2 ^ g.size.k → z < 2 ^ 64
  wide u = lt_of_lt_of_le u (pow_mono setting.acc.shape.ranges.k_high)

  same_ins : ch ≡ false → s' ≡ x.ins
  same_ins f = kept y x.ins b v (or_false_left (changes y x.ins b v) _ f)

  same_past : ch ≡ false → q' ≡ x.past
  same_past f = kept_past y x.past b v c (or_false_right (changes y x.ins b v) _ f)

  good' : Good g y w s' q'
  good' = arrive_good g y w x.ins x.past h.good e v l low (λ z cl p k. rw is (carried_toward g y w a x₀.ins x₀.past setting good₀ z cl e p l k)) bs bq bn c refl

  -- where a node is not marked afterwards, its sums did not change
  module _ (d' : List ℕ) (zero-before : (z : ℕ) → get_or d' z 0 ≡ 0 → (get_or x.marks z 0 ≡ 0) × (ch ≡ true → z ≡ b → ⊥)) where
    ins_kept : (z : ℕ) → get_or d' z 0 ≡ 0 → get_or s' z 0 ≡ get_or x.ins z 0
    ins_kept z o =
        by_split ch (λ t. get_or-set_other x.ins b z _ 0 ((zero-before z o).1 t)) (λ f. ap (λ (r : List ℕ). get_or r z 0) (same_ins f))

    past_kept : (z : ℕ) → get_or d' z 0 ≡ 0 → get_or q' z 0 ≡ get_or x.past z 0
    past_kept z o =
        by_split ch (λ t. other_past y x.past b v c z ((zero-before z o).1 t)) (λ f. ap (λ (r : List ℕ). get_or r z 0) (same_past f))

    own' : get_or d' n 0 ≡ 0 → (get_or s' n 0 ≡ get_or x₀.ins n 0) × (get_or q' n 0 ≡ get_or x₀.past n 0)
    own' o = let r = h.own (zero-before n o).0 in (ins_kept n o ∙ r.0, past_kept n o ∙ r.1)

    -- the edge that was just told
    told' : get_or d' n 0 ≡ 0 → Quiet g y w a s' q' e
    told' o = record {
      told = λ p k. toward_same y p _ now (rw (get_or-set_same x.ins b (merge y (get_or x.ins b 0) v) 0 bs) (merge_right (get_or x.ins b 0) v p y));
      told_past = λ i p k. toward_same y p _ now (past_now c (ap (counts g y w e) now ∙ i) p);
    }
      where
        now : v ≡ carried g y a s' q' e
        now = is ∙ carried_same g y a x₀.ins x₀.past s' q' e (rw leaves (sym (own' o).0)) (rw leaves (sym (own' o).1))

        past_now : (t : Bool) → t ≡ true → (p : ℕ) → Toward y (has v p) (has (get_or (cond t (into y x.past b v) x.past) b 0) p)
        past_now true i p = rw (get_or-set_same x.past b (merge y (get_or x.past b 0) v) 0 bq) (merge_right (get_or x.past b 0) v p y)
        past_now false i p = clash i refl

    -- every other edge
    kept' : (d : ℕ) → get_or d' (from_of g d) 0 ≡ 0 → Quiet g y w a x.ins x.past d → Quiet g y w a s' q' d
    kept' d o r = record {
      told = λ p k. toward_same y p _ same (toward_trans y _ _ _ (r.told p k) (grown y x.ins b v bs (to_of g d) p));
      told_past = λ i p k. toward_same y p _ same (toward_trans y _ _ _ (r.told_past (ap (counts g y w d) same ∙ i) p k) (grown_past y x.past b v bq c (to_of g d) p));
    }
      where
        same : carried g y a x.ins x.past d ≡ carried g y a s' q' d
        same = carried_same g y a x.ins x.past s' q' d (sym (ins_kept (from_of g d) o)) (sym (past_kept (from_of g d) o))

    quiet' : (d : ℕ) → d < g.size.m → get_or d' (from_of g d) 0 ≡ 0 → (from_of g d ≡ n → cur ≤ d) → Quiet g y w a s' q' d
    quiet' d u o f = go (ℕ_discrete d e)
      where
        go : Dec (d ≡ e) → Quiet g y w a s' q' d
        go (yes i) = rw i (told' (rw leaves at (rw i at o)))
        go (no i) =
            kept' d o
            (h.quiet d u (zero-before (from_of g d) o).0 (λ j. dite (dec_lt d e) (λ q. absurd (omega (arith, f j, upper d q j))) (λ q. omega (arith, i))))

  -- what is left falls where a sum changed, and never rises
  ins_most : left y s' ≤ left y x.ins
  ins_most = into_most y x.ins b v bs (wide (h.good.s_low b bn))

  past_most : (t : Bool) → left y (cond t (into y x.past b v) x.past) ≤ left y x.past
  past_most true = into_most y x.past b v bq (wide (h.good.q_low b bn))
  past_most false = omega arith

  past_less : (t : Bool) → (t && changes y x.past b v) ≡ true → left y (cond t (into y x.past b v) x.past) < left y x.past
  past_less true i = into_less y x.past b v bq (wide (h.good.q_low b bn)) i
  past_less false i = clash i refl

  both_less : ch ≡ true → left y s' + left y q' < left y x.ins + left y x.past
  both_less t =
      ⊎_elim (λ i. omega (arith, into_less y x.ins b v bs (wide (h.good.s_low b bn)) i, past_most c)) (λ i. omega (arith, past_less c i, ins_most))
      (either (changes y x.ins b v) (c && changes y x.past b v) t)

  pub step : Sending g y w a x₀ (arrive y x b v c) n cur
  unfolding arrive push
  step = go (fresh x.marks x.stack x.top b ch) refl
    where
      -- b is marked where a sum of it changed
      zero_stay : fresh x.marks x.stack x.top b ch ≡ false → (z : ℕ) → get_or x.marks z 0 ≡ 0 → (get_or x.marks z 0 ≡ 0) × (ch ≡ true → z ≡ b → ⊥)
      zero_stay f z o =
          (o, λ t i. let m : get_or x.marks b 0 ≡ 0 = rw i at o in clash (fresh_so g.size.n x.marks x.stack x.top b small bd m h.stacked) (rw t at f))

      zero_put : (z : ℕ) → get_or (set x.marks b 1) z 0 ≡ 0 → (get_or x.marks z 0 ≡ 0) × (ch ≡ true → z ≡ b → ⊥)
      zero_put z o = by (ℕ_discrete z b)
        where
          by : Dec (z ≡ b) → (get_or x.marks z 0 ≡ 0) × (ch ≡ true → z ≡ b → ⊥)
          by (yes i) = absurd (omega (arith, sym (get_or-set_same x.marks b 1 0 bd) ∙ ap (λ (r : ℕ). get_or (set x.marks b 1) r 0) (sym i) ∙ o))
          by (no i) = (sym (get_or-set_other x.marks b z 1 0 i) ∙ o, λ _. i)

      go : (new : Bool) → fresh x.marks x.stack x.top b ch ≡ new → Sending g y w a x₀ (push s' q' x.marks x.stack x.top b new) n cur
      go false f = record {
        good = good';
        quiet = quiet' x.marks (zero_stay f);
        own = own' x.marks (zero_stay f);
        stacked = h.stacked;
        sized = record {
          ins_long = rw (length-set x.ins b (merge y (get_or x.ins b 0) v)) h.sized.ins_long;
          past_long = rw (length_past y x.past b v c) h.sized.past_long;
          marks_long = h.sized.marks_long;
        };
        falls = omega (arith, ins_most, past_most c, h.falls);
      }
      go true f = record {
        good = good';
        quiet = quiet' (set x.marks b 1) zero_put;
        own = own' (set x.marks b 1) zero_put;
        stacked = put_stacked g.size.n x.marks x.stack b x.top bn bd (fresh_unmarked x.marks x.stack x.top b ch f).1 h.stacked;
        sized = record {
          ins_long = rw (length-set x.ins b (merge y (get_or x.ins b 0) v)) h.sized.ins_long;
          past_long = rw (length_past y x.past b v c) h.sized.past_long;
          marks_long = rw (length-set x.marks b 1) h.sized.marks_long;
        };
        falls = omega (arith, both_less (fresh_unmarked x.marks x.stack x.top b ch f).0, h.falls);
      }
