-- When every edge is quiet the sums are in(n) and what passes each check, and what the edges carry is the solution asked for.
use Prim.Native.Nat.{ℕ, ◌<◌}
use Rattle.std.specs.Prelude.{◌≡◌, List, Bool, false, cond, ◌&&◌, ◌||◌, ◌↔◌, ltb}
use Rattle.std.proofs.Math.Path.{refl, sym}
use Rattle.std.proofs.Common.{◌∙◌, ap, ⊎_elim, eqb-true}
use Rattle.std.proofs.Math.Bool.{true}
use Rattle.std.proofs.Math.Dec.{eqb}
use Rattle.std.proofs.Math.ListN.{get_or}
use Rattle.truth.specs.Truth.Bools.{clash, same_bool, both, right, either}
use Rattle.sets.specs.Sets.{has}
use Rattle.graph.specs.Graph.{out_rule, Graph, is_check, check, entry, from, may, sure, Arrival, arriving, in_set, past_set, out_set, Within, held}
use Rattle.graph.specs.Graph.Arrivals.{Arrives, by_mark, by_edge, arriving_mark, arriving_edge}
use Rattle.graph.proofs.Graph.Edges.{in_may, in_sure, past_may, past_sure}
use Rattle.graph.specs.Graph.Rules.{from_low, check_low}
use Rattle.graph.specs.Graph.Rule.{out_by_rule, out_rule_mono}
use Rattle.graph.specs.Graph.Rounds.{LeastClosed, GreatestBacked}
use Rattle.graph.proofs.Graph.Solutions.{sure_mono}
use Rattle.flow.specs.Walk.{past_num, judged_num, carried, to_of}
use Rattle.flow.proofs.Walk.Sums.{has_carried, carried_toward, has_past_sure}
use Rattle.flow.specs.Walk.Settled.{Settled}

-- an entry node has the mark's number
marked : (g : Graph) (n : ℕ) → entry g n ≡ true → get_or g.nodes.entries n 0 ≡ 1
marked g n e = eqb-true _ 1 e

module _ (g : Graph) (w a s q l : List ℕ) (h : Settled g may w a s q l) where
  x_is : (e p : ℕ) → e < g.size.m → held l e p ≡ has (carried g may a s q e) p
  x_is e p u = ap (λ (v : ℕ). has v p) (h.stored e u)

  ins : (n p : ℕ) → n < g.size.n → p < g.size.k → in_set g may (held l) n p ≡ true → has (get_or s n 0) p ≡ true
  ins n p u k t = go ((in_may g (held l) n p).0 t)
    where
      by : (x : Arrival) → Arrives g n x → arriving g (held l) n x p ≡ true → has (get_or s n 0) p ≡ true
      by x (by_mark m) v = h.good.s_entry n p u k (marked g n m) (sym (arriving_mark g (held l) n p) ∙ v)
      by x (by_edge e o c) v =
          let d : to_of g e ≡ n = c in
          rw d at ((h.quiet e o).told p k (sym (x_is e p o) ∙ sym (arriving_edge g (held l) n e p) ∙ v))

      go : (x : Arrival) × Arrives g n x × (arriving g (held l) n x p ≡ true) → has (get_or s n 0) p ≡ true
      go r = by r.0 r.1 r.2

  past : (n p : ℕ) → n < g.size.n → p < g.size.k → is_check g n ≡ true → past_set g (held l) may (held l) n p ≡ true → has (get_or q n 0) p ≡ true
  unfolding judged_num
  past n p u k i t = let r = (past_may g (held l) (held l) n p).0 t in by r.0 r.1 r.2 r.3
    where
      by : (x : Arrival) → Arrives g n x → arriving g (held l) n x (check g n) ≡ true → arriving g (held l) n x p ≡ true → has (get_or q n 0) p ≡ true
      by x (by_mark m) c v =
          h.good.q_entry n p u k (marked g n m) ((sym (arriving_mark g (held l) n (check g n)) ∙ c))
          (sym (arriving_mark g (held l) n p) ∙ v)
      by x (by_edge e o j) c v =
          let d : n ≡ to_of g e = sym j in
          let kind : eqb (get_or g.nodes.kinds (to_of g e) 0) 2 ≡ true = rw d at i in
          let holds : has (carried g may a s q e) (get_or g.nodes.checks n 0) ≡ true = (sym (x_is e (check g n) o) ∙ sym (arriving_edge g (held l) n e (check g n)) ∙ c) in
          let holds2 : has (carried g may a s q e) (get_or g.nodes.checks (to_of g e) 0) ≡ true = rw d at holds in
          rw (sym d) at ((h.quiet e o).told_past (both kind holds2) p k (sym (x_is e p o) ∙ sym (arriving_edge g (held l) n e p) ∙ v))

  -- what an edge carries, by the rule
  by_rule : (e p : ℕ) → e < g.size.m → held l e p ≡ out_rule g e p (has (get_or s (from g e) 0) p) (has (get_or q (from g e) 0) p)
  unfolding past_num
  by_rule e p u = x_is e p u ∙ has_carried g may a s q e p

  closed : Within g (out_set g (held l) may (held l)) (held l)
  closed e p u k t =
      let low = from_low g h.setting.acc e u in
      by_rule e p u ∙ out_rule_mono g e p _ _ _ _ (ins (from g e) p low k) (past (from g e) p low k) (sym (out_by_rule g (held l) may (held l) e p) ∙ t)

  pub may_settled : LeastClosed g (held l)
  may_settled = record {
    solves = λ e p u k. same_bool _ _ (opens e p u k) (closed e p u k);
    least = λ z c e p u k t. carried_toward g may w a s q h.setting h.good z c e p u k (sym (x_is e p u) ∙ t);
  }
    where
      opens : (e p : ℕ) → e < g.size.m → p < g.size.k → held l e p ≡ true → out_set g (held l) may (held l) e p ≡ true
      opens e p u k t =
          let low = from_low g h.setting.acc e u in
          out_by_rule g (held l) may (held l) e p
          ∙ out_rule_mono g e p _ _ _ _ (h.good.s_below (held l) closed (from g e) p low k) (λ _. h.good.q_below (held l) closed (from g e) p low k) (sym (by_rule e p u) ∙ t)

  pub may_ins : (n p : ℕ) → n < g.size.n → p < g.size.k → has (get_or s n 0) p ≡ in_set g may (held l) n p
  may_ins n p u k = same_bool _ _ (h.good.s_below (held l) closed n p u k) (ins n p u k)

  -- the sums of what passes say whether anything passes
  pub may_any : (n : ℕ) → n < g.size.n → is_check g n ≡ true
      → (has (get_or q n 0) (check g n) ≡ true) ↔ ((x : Arrival) × Arrives g n x × (arriving g (held l) n x (check g n) ≡ true))
  may_any n u i =
      let k = check_low g h.setting.acc n u i in (
        (λ t. let r = (past_may g (held l) (held l) n (check g n)).0 (h.good.q_below (held l) closed n (check g n) u k t) in (r.0, r.1, r.2)),
        λ r. past n (check g n) u k i ((past_may g (held l) (held l) n (check g n)).1 (r.0, r.1, r.2, r.2)),
      )

module _ (g : Graph) (w a s q l : List ℕ) (h : Settled g sure w a s q l) where
  x_is' : (e p : ℕ) → e < g.size.m → held l e p ≡ has (carried g sure a s q e) p
  x_is' e p u = ap (λ (v : ℕ). has v p) (h.stored e u)

  ins' : (n p : ℕ) → n < g.size.n → p < g.size.k → has (get_or s n 0) p ≡ true → in_set g sure (held l) n p ≡ true
  ins' n p u k t = (in_sure g (held l) n p).1 by
    where
      by : (x : Arrival) → Arrives g n x → arriving g (held l) n x p ≡ true
      by x (by_mark m) = arriving_mark g (held l) n p ∙ h.good.s_entry n p u k (marked g n m) t
      by x (by_edge e o c) =
          let d : to_of g e ≡ n = c in
          arriving_edge g (held l) n e p ∙ x_is' e p o ∙ (h.quiet e o).told p k (rw d t)

  -- all that passes the check n holds what the sum of it holds
  all_hold : (n p : ℕ) → n < g.size.n → p < g.size.k → is_check g n ≡ true → has (get_or q n 0) p ≡ true
      → (x : Arrival) → Arrives g n x → arriving g (held w) n x (check g n) ≡ true → arriving g (held l) n x p ≡ true
  unfolding judged_num
  all_hold n p u k i t x (by_mark m) c =
      arriving_mark g (held l) n p
      ∙ h.good.q_entry n p u k (marked g n m) ((sym (arriving_mark g (held w) n (check g n)) ∙ c)) t
  all_hold n p u k i t x (by_edge e o j) c =
      let d : n ≡ to_of g e = sym j in
      let kind : eqb (get_or g.nodes.kinds (to_of g e) 0) 2 ≡ true = rw d at i in
      let holds : has (get_or w e 0) (get_or g.nodes.checks n 0) ≡ true = (sym (arriving_edge g (held w) n e (check g n)) ∙ c) in
      let holds2 : has (get_or w e 0) (get_or g.nodes.checks (to_of g e) 0) ≡ true = rw d at holds in
      arriving_edge g (held l) n e p ∙ x_is' e p o ∙ (h.quiet e o).told_past (both kind holds2) p k (rw d at t)

  past_num_of : ℕ → ℕ
  past_num_of n = past_num sure (get_or g.nodes.checks n 0) (get_or q n 0) (has (get_or a n 0) (get_or g.nodes.checks n 0))

  past' : (n p : ℕ) → n < g.size.n → p < g.size.k → is_check g n ≡ true → has (past_num_of n) p ≡ true → past_set g (held w) sure (held l) n p ≡ true
  unfolding past_num_of
  past' n p u k i t = by (has (get_or a n 0) c) refl (sym (has_past_sure c (get_or q n 0) p (has (get_or a n 0) c)) ∙ t)
    where
      c : ℕ
      c = get_or g.nodes.checks n 0

      by : (b : Bool) → has (get_or a n 0) c ≡ b → cond b (has (get_or q n 0) p || (ltb c 64 && eqb c p)) false ≡ true → past_set g (held w) sure (held l) n p ≡ true
      by false e v = clash v refl
      by true e v =
          (past_sure g (held w) (held l) n p).1
          (record {
            passing = (h.setting.any n u i).0 e;
            held_by_all = λ d. ⊎_elim (all_hold n p u k i) (λ o. absurd (d (sym (eqb-true c p (right (ltb c 64) (eqb c p) o))))) (either (has (get_or q n 0) p) (ltb c 64 && eqb c p) v);
          })

  by_rule' : (e p : ℕ) → e < g.size.m → held l e p ≡ out_rule g e p (has (get_or s (from g e) 0) p) (has (past_num_of (from g e)) p)
  unfolding past_num_of
  by_rule' e p u = x_is' e p u ∙ has_carried g sure a s q e p

  backed : Within g (held l) (out_set g (held w) sure (held l))
  backed e p u k t =
      let low = from_low g h.setting.acc e u in
      out_by_rule g (held w) sure (held l) e p ∙ out_rule_mono g e p _ _ _ _ (ins' (from g e) p low k) (past' (from g e) p low k) (sym (by_rule' e p u) ∙ t)

  pub sure_settled : GreatestBacked g (held w) (held l)
  sure_settled = record {
    solves = λ e p u k. same_bool _ _ (backed e p u k) (λ t. x_is' e p u ∙ carried_toward g sure w a s q h.setting h.good (out_set g (held w) sure (held l)) again e p u k t);
    greatest = λ z c e p u k t. x_is' e p u ∙ carried_toward g sure w a s q h.setting h.good z c e p u k t;
  }
    where
      again : Within g (out_set g (held w) sure (held l)) (out_set g (held w) sure (out_set g (held w) sure (held l)))
      again = sure_mono g (held w) (held l) (out_set g (held w) sure (held l)) backed

  pub sure_ins : (n p : ℕ) → n < g.size.n → p < g.size.k → has (get_or s n 0) p ≡ in_set g sure (held l) n p
  sure_ins n p u k = same_bool _ _ (ins' n p u k) (h.good.s_below (held l) backed n p u k)
