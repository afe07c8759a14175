-- A node is taken up and all its edges are told: what that keeps of the walk, and that less is left to do.
use Rattle.std.specs.Prelude.{◌≡◌, List, Bool, cond, eqb, length, set}
use Rattle.std.proofs.Math.Path.{refl, ap}
use Rattle.std.proofs.Common.{sym, ap₂, ◌∙◌, arith, length-set, get_or-set_other, eqb-true}
use Rattle.std.proofs.Math.Bool.{true, false}
use Prim.Native.Nat.{ℕ, zero, suc, ◌+◌, ◌-◌, ◌≤◌, ◌<◌, ◌^◌}
use Rattle.std.proofs.Math.Decide.{ℕ_discrete}
use Rattle.std.proofs.Math.ListN.{get_or}
use Rattle.sets.specs.Sets.{has, empty, common}
use Rattle.sets.specs.Sets.Members.{below_members}
use Rattle.sets.specs.Sets.Order.{empty_lt, common_lt, add_lt}
use Rattle.graph.specs.Graph.{Graph, privileged_by, Acceptable, System, may, sure}
use Rattle.graph.specs.Graph.Rules.{from_low}
use Rattle.worklist.specs.Worklist.{last, Linked, Lists, Links}
use Rattle.worklist.specs.Worklist.Linking.{last_upper, last_own, last_le, links_linked}
use Rattle.worklist.specs.Worklist.Stack.{take_stacked, none_stacked, all_stacked, zeros_none}
use Rattle.flow.specs.Walk.{call_num, past_num, trans_num, edge_num, called_by, moved_by, carried, from_of, to_of, State, state, send_from, Sendable, Begun, Setting, Good, Quiet, to_do, Walking, Sending}
use Rattle.flow.proofs.Walk.Sums.{begun_good}
use Rattle.flow.proofs.Walk.Steps.{step}

-- what an edge carries has no member at K or above
pub carried_lt : (g : Graph) (y : System) (w a s q : List ℕ) → Acceptable g → Good g y w s q → (e : ℕ) → e < g.size.m → carried g y a s q e < 2 ^ g.size.k
unfolding edge_num call_num trans_num
carried_lt g y w a s q acc good e l = by (eqb (get_or g.edges.ways e 0) 0)
  where
    n : ℕ
    n = from_of g e

    low : n < g.size.n
    low = from_low g acc e l

    o : ℕ
    o = get_or g.nodes.grants n 0

    o_lt : o < 2 ^ g.size.k
    o_lt = (below_members g.size.k o).1 (acc.nodes n low).grants_below

    called : (b : Bool) → cond b o (get_or s n 0) < 2 ^ g.size.k
    called true = o_lt
    called false = good.s_low n low

    c : ℕ
    c = get_or g.nodes.checks n 0

    past : (y : System) (b : Bool) → get_or g.nodes.kinds n 0 ≡ 2 → get_or q n 0 < 2 ^ g.size.k → past_num y c (get_or q n 0) b < 2 ^ g.size.k
    past may b i u = unfold past_num in u
    past sure true i u = unfold past_num in (add_lt g.size.k (get_or q n 0) c (λ _. (acc.nodes n low).check_below i) u)
    past sure false i u = unfold past_num in (empty_lt g.size.k)

    moved : (k v h : Bool) → eqb (get_or g.nodes.kinds n 0) 2 ≡ k → cond k (cond v (cond h (get_or s n 0) empty) (past_num y c (get_or q n 0) (has (get_or a n 0) c))) (get_or s n 0) < 2 ^ g.size.k
    moved false v h i = good.s_low n low
    moved true true true i = good.s_low n low
    moved true true false i = empty_lt g.size.k
    moved true false h i = past y (has (get_or a n 0) c) (eqb-true (get_or g.nodes.kinds n 0) 2 i) (good.q_low n low)

    by : (b : Bool) → cond b (common (cond (eqb (get_or g.nodes.privileged n 0) 1) o (get_or s n 0)) (get_or g.nodes.grants (to_of g e) 0)) (cond (eqb (get_or g.nodes.kinds n 0) 2) (cond (privileged_by (get_or g.nodes.privileged n 0) c) (cond (has o c) (get_or s n 0) empty) (past_num y c (get_or q n 0) (has (get_or a n 0) c))) (get_or s n 0)) < 2 ^ g.size.k
    by true = common_lt g.size.k _ _ (called (eqb (get_or g.nodes.privileged n 0) 1))
    by false = moved (eqb (get_or g.nodes.kinds n 0) 2) (privileged_by (get_or g.nodes.privileged n 0) c) (has o c) refl

-- ---- all edges of a node are told

module _ (g : Graph) (y : System) (w a head prev : List ℕ) (setting : Setting g y w a) (links : Linked g.edges.froms g.size.n head prev g.size.m) where
  module _ (x₀ : State) (n : ℕ) (good₀ : Good g y w x₀.ins x₀.past) where
    abbrev send : (fuel cur : ℕ) → State → State
    send = send_from g.nodes.kinds g.nodes.checks g.nodes.grants g.edges.tos g.edges.ways y w prev (called_by g.nodes.privileged g.nodes.grants x₀.ins n) (moved_by g.nodes.kinds g.nodes.checks g.nodes.privileged g.nodes.grants y a x₀.ins x₀.past n)

    tell : (f cur : ℕ) (x : State) → cur ≤ f → ((e : ℕ) → cur ≡ suc e → (e < g.size.m) × (from_of g e ≡ n)) → Sending g y w a x₀ x n cur → Sending g y w a x₀ (send f cur x) n 0
    unfolding send_from
    tell zero zero x u o h = h
    tell zero (suc e) x u o h = absurd (omega arith)
    tell (suc f) zero x u o h = h
    tell (suc f) (suc e) x u o h =
        let r = o e refl in
        let d : get_or prev e 0 ≡ last g.edges.froms n e = links.prevs e r.0 ∙ ap (λ (i : ℕ). last g.edges.froms i e) r.1 in
        tell f (get_or prev e 0) _ (omega (arith, last_le g.edges.froms n e))
        (λ j q. let z = last_own g.edges.froms n e j (sym d ∙ q) in (omega (arith, z.0, r.0), z.1))
        (step g y w a setting x₀ x n e (get_or prev e 0) good₀ h r.0 r.1 _ (sent_is e r.1) (sent_lt e r.0 r.1) (λ j q i. rw d (last_upper g.edges.froms n e j q i)))
      where
        sent_is : (e : ℕ) → from_of g e ≡ n → edge_num (get_or g.edges.ways e 0) (called_by g.nodes.privileged g.nodes.grants x₀.ins n) (moved_by g.nodes.kinds g.nodes.checks g.nodes.privileged g.nodes.grants y a x₀.ins x₀.past n) (get_or g.nodes.grants (to_of g e) 0) ≡ carried g y a x₀.ins x₀.past e
        sent_is e i = rw (sym i)

        sent_lt : (e : ℕ) → e < g.size.m → from_of g e ≡ n → edge_num (get_or g.edges.ways e 0) (called_by g.nodes.privileged g.nodes.grants x₀.ins n) (moved_by g.nodes.kinds g.nodes.checks g.nodes.privileged g.nodes.grants y a x₀.ins x₀.past n) (get_or g.nodes.grants (to_of g e) 0) < 2 ^ g.size.k
        sent_lt e l i = rw (sent_is e i) (carried_lt g y w a x₀.ins x₀.past setting.acc good₀ e l)

  -- the node on top of the stack is taken up
  module _ (x : State) (t : ℕ) (top : x.top ≡ t + 1) (h : Walking g y w a x) where
    abbrev n : ℕ
    n = get_or x.stack t 0

    abbrev x₀ : State
    x₀ = state x.ins x.past (set x.marks n 0) x.stack t

    pub top_low : n < g.size.n
    top_low = h.stacked.entries t (omega (arith, top))

    first : get_or head n 0 ≡ last g.edges.froms n g.size.m
    first = links.heads n top_low

    taken_sending : Sending g y w a x₀ x₀ n (get_or head n 0)
    taken_sending = record {
      good = h.pending.good;
      quiet = λ e l o f. go e l o f (ℕ_discrete (from_of g e) n);
      own = λ _. (refl, refl);
      stacked = take_stacked g.size.n x.marks x.stack t (omega (arith, top_low, h.sized.marks_long)) (rw top at h.stacked);
      sized = record {
        ins_long = h.sized.ins_long;
        past_long = h.sized.past_long;
        marks_long = rw (length-set x.marks n 0) h.sized.marks_long;
      };
      falls = omega arith;
    }
      where
        go : (e : ℕ) → e < g.size.m → get_or (set x.marks n 0) (from_of g e) 0 ≡ 0 → (from_of g e ≡ n → get_or head n 0 ≤ e) → Dec (from_of g e ≡ n) → Quiet g y w a x.ins x.past e
        go e l o f (yes i) = absurd (omega (arith, f i, first, last_upper g.edges.froms n g.size.m e l i))
        go e l o f (no i) = h.pending.quiet e l (sym (get_or-set_other x.marks n (from_of g e) 0 0 i) ∙ o)

    abbrev x₁ : State
    x₁ = send x₀ n h.pending.good (get_or head n 0) (get_or head n 0) x₀

    told_all : Sending g y w a x₀ x₁ n 0
    told_all =
        tell x₀ n h.pending.good (get_or head n 0) (get_or head n 0) x₀ (omega arith)
        (λ e q. last_own g.edges.froms n g.size.m e (sym first ∙ q)) taken_sending

    taken : Walking g y w a x₁
    taken = record {
      pending = record { good = told_all.good; quiet = λ e l o. told_all.quiet e l o (λ _. omega arith) };
      stacked = told_all.stacked;
      sized = told_all.sized;
    }

    taken_less : to_do y x₁ < to_do y x
    taken_less = omega (arith, told_all.falls, top)

    -- what the code of a turn reads, and what it leaves
    pub node_reads : (n < length g.nodes.kinds) × (n < length g.nodes.checks) × (n < length g.nodes.privileged) × (n < length g.nodes.grants)
    node_reads = let s = setting.acc.shape.nodes in omega (arith, top_low)

    pub first_low : get_or head n 0 ≤ length g.edges.tos
    first_low = omega (arith, first, last_le g.edges.froms n g.size.m, setting.acc.shape.edges.tos)

    pub sendable : g.size.m ≤ length w → g.size.m ≤ length prev → Sendable g.nodes.kinds g.nodes.checks g.nodes.grants g.edges.tos g.edges.ways w prev (length x.ins) (length x.past)
    sendable lw lp =
        let s = setting.acc.shape.nodes in
        let e = setting.acc.shape.edges in
        record {
          checks_long = omega arith;
          grants_long = omega arith;
          ways_long = omega arith;
          wide_long = omega arith;
          prev_long = omega arith;
          ins_long = omega (arith, h.sized.ins_long);
          past_long = omega (arith, h.sized.past_long);
          ends = λ d l. omega (arith, (setting.acc.edges d (omega arith)).to_node);
          down = λ d l. omega (arith, links.prevs d (omega arith), last_le g.edges.froms (from_of g d) d);
        }

    pub turn : (c r : ℕ) → c ≡ called_by g.nodes.privileged g.nodes.grants x.ins n → r ≡ moved_by g.nodes.kinds g.nodes.checks g.nodes.privileged g.nodes.grants y a x.ins x.past n
        → (x' : State) → x' ≡ send_from g.nodes.kinds g.nodes.checks g.nodes.grants g.edges.tos g.edges.ways y w prev c r (get_or head n 0) (get_or head n 0) x₀ → Walking g y w a x' × (to_do y x' < to_do y x)
    turn c r p q x' e =
        let i : x' ≡ x₁ = e ∙ ap₂ (λ (u v : ℕ). send_from g.nodes.kinds g.nodes.checks g.nodes.grants g.edges.tos g.edges.ways y w prev u v (get_or head n 0) (get_or head n 0) x₀) p q in
        (rw i taken, rw i taken_less)

  -- an empty stack: every edge is quiet
  pub rested : (x : State) → x.top ≡ 0 → Walking g y w a x → (e : ℕ) → e < g.size.m → Quiet g y w a x.ins x.past e
  rested x z h e l =
      h.pending.quiet e l (none_stacked g.size.n x.marks x.stack (rw z at h.stacked) (from_of g e) (from_low g setting.acc e l))

-- the lists that are stored of an accepted graph hold its edges
pub lists_linked : (g : Graph) (head prev : List ℕ) → Acceptable g → ((i : ℕ) → i < length head → get_or head i 0 ≡ 0) → g.size.n ≤ length head → g.size.m ≤ length prev
    → {r : Bool} {x : Lists} → Links g.edges.froms head prev r x → Linked g.edges.froms g.size.n x.head x.prev g.size.m
lists_linked g head prev acc empty lh lp {r} {x} h =
    let m = acc.shape.edges.froms in
    let linked : Linked g.edges.froms g.size.n x.head x.prev (length g.edges.froms) = links_linked g.edges.froms g.size.n head prev (λ i l. empty i (omega arith)) lh (λ e l. (acc.edges e (omega arith)).from_node) (omega arith) (omega (arith, acc.shape.ranges.m_high)) h in
    rw m at linked

-- every node on the stack, and all sums as they begin
pub walk_begins : (g : Graph) (y : System) (w a s q d st : List ℕ) → Acceptable g → Begun y g.size.k g.size.n g.nodes.checks g.nodes.entries g.nodes.grants s q
    → g.size.n ≤ length s → g.size.n ≤ length q → g.size.n ≤ length d → g.size.n ≤ length st → ((j : ℕ) → j < length d → get_or d j 0 ≡ 1) → ((j : ℕ) → j < g.size.n → get_or st j 0 ≡ g.size.n - 1 - j)
    → Walking g y w a (state s q d st g.size.n)
walk_begins g y w a s q d st acc b ls lq ld lst ones full = record {
  pending = record {
    good = begun_good g y acc w s q b;
    quiet = λ e l o. absurd (omega (arith, o, ones (from_of g e) (omega (arith, from_low g acc e l))));
  };
  stacked = all_stacked g.size.n d st (zeros_none d ones) lst full;
  sized = record { ins_long = ls; past_long = lq; marks_long = ld };
}
