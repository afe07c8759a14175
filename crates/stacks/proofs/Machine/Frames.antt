-- Every frame of a reachable stack came by something that arrives at its node, between whose SURE and MAY out sets lies what it came
-- with. Three facts on the out sets are all that this asks.
use Rattle.std.specs.Prelude.{ℕ, ◌<◌, ◌≡◌, List, [], ◌∷◌, Bool, true, false, ◌&&◌}
use Rattle.std.proofs.Common.{sym, ◌∙◌, ap, arith, ne_eqb}
use Rattle.std.proofs.Math.Decide.{ℕ_discrete}
use Rattle.truth.specs.Truth.Bools.{by_split, both, left, right}
use Rattle.graph.specs.Graph.{Graph, kind, is_check, check, privileged, entry, grants, to, Acceptable, may, sure, Outs, Arrival, mark, edge, arriving, in_set, call_set, out_set, Leads, Sound}
use Rattle.graph.specs.Graph.Arrivals.{Arrives, by_mark, by_edge, arriving_mark, arriving_edge}
use Rattle.graph.specs.Graph.Edges.{call_privileged, call_at_least, call_at_most, call_edge, transfer_plain, transfer_privileged, transfer_past}
use Rattle.graph.proofs.Graph.Edges.{in_may, in_sure, past_may, past_sure, PastSure}
use Rattle.graph.specs.Graph.Rules.{transfer_same, to_low, check_low}
use Rattle.stacks.specs.Machine.{rights_of, Inspected, full, Step, enter, call, pass, back, Reachable, empty, then}
use Rattle.stacks.specs.Machine.Inspections.{full_bottom, full_stops, full_below}
use Rattle.stacks.proofs.Machine.Inspections.{full_grants}

-- what a frame n above the frames r came with: what passes on r, cut to its grants
pub came : Graph → ℕ → List ℕ → ℕ → Bool
came g n r p = (full (rights_of g) p r).passes && grants g n p

module _ (g : Graph) (n : ℕ) (r : List ℕ) (p : ℕ) where
  came_both : (full (rights_of g) p r).passes ≡ true → grants g n p ≡ true → came g n r p ≡ true
  unfolding came
  came_both a b = both a b

  came_below : came g n r p ≡ true → (full (rights_of g) p r).passes ≡ true
  unfolding came
  came_below t = left (full (rights_of g) p r).passes (grants g n p) t

  came_grants : came g n r p ≡ true → grants g n p ≡ true
  unfolding came
  came_grants t = right (full (rights_of g) p r).passes (grants g n p) t

  came_passes : came g n r p ≡ true → (full (rights_of g) p (n ∷ r)).passes ≡ true
  came_passes t =
      by_split (privileged g n p) (λ v. ap (λ (x : Inspected). x.passes) (full_stops (rights_of g) p n r (came_grants t) v))
      (λ v. ap (λ (x : Inspected). x.passes) (full_below (rights_of g) p n r (came_grants t) v) ∙ came_below t)

  passes_came : privileged g n p ≡ false → (full (rights_of g) p (n ∷ r)).passes ≡ true → came g n r p ≡ true
  passes_came v t =
      let a = full_grants (rights_of g) p n r t in
      came_both (sym (ap (λ (x : Inspected). x.passes) (full_below (rights_of g) p n r a v)) ∙ t) a

-- frames that grant the same came with the same
came_same : (g : Graph) (n t : ℕ) (r : List ℕ) (p : ℕ) → grants g n p ≡ grants g t p → came g n r p ≡ came g t r p
unfolding came
came_same g n t r p e = ap (λ (b : Bool). (full (rights_of g) p r).passes && b) e

pub record Arrived (g : Graph) (m s : Outs) (n : ℕ) (r : List ℕ) : Type 0 where
  pub by : Arrival
  pub arrives : Arrives g n by
  pub most : (p : ℕ) → p < g.size.k → came g n r p ≡ true → arriving g m n by p ≡ true
  pub least : (p : ℕ) → p < g.size.k → arriving g s n by p ≡ true → came g n r p ≡ true

-- the frame under another is no check
abbrev pub Waiting : Graph → List ℕ → Type 0
Waiting g [] = Unit {0}
Waiting g (n ∷ r) = is_check g n ≡ false

pub data Framed (g : Graph) (m s : Outs) : List ℕ → Type 0 where
  bare : Framed g m s []
  frame : {n : ℕ} {r : List ℕ} → n < g.size.n → Arrived g m s n r → Waiting g r → Framed g m s r → Framed g m s (n ∷ r)

module _ (g : Graph) (m s : Outs) (n : ℕ) (r : List ℕ) (a : Arrived g m s n r) (p : ℕ) (k : p < g.size.k) where
  came_in : came g n r p ≡ true → in_set g may m n p ≡ true
  came_in t = (in_may g m n p).1 (a.by, a.arrives, a.most p k t)

  in_came : in_set g sure s n p ≡ true → came g n r p ≡ true
  in_came t = a.least p k ((in_sure g s n p).0 t a.by a.arrives)

  -- what passes on a frame is in MAY call of its node, and what is in SURE call passes
  pub passes_call : (full (rights_of g) p (n ∷ r)).passes ≡ true → call_set g may m n p ≡ true
  passes_call t =
      let h = full_grants (rights_of g) p n r t in
      by_split (privileged g n p) (λ v. (call_privileged g may m n p v).1 h) (λ v. call_at_least g may m n p v (came_in (passes_came g n r p v t)) h)

  pub call_passes : call_set g sure s n p ≡ true → (full (rights_of g) p (n ∷ r)).passes ≡ true
  call_passes t =
      by_split (privileged g n p) (λ v. ap (λ (x : Inspected). x.passes) (full_stops (rights_of g) p n r ((call_privileged g sure s n p v).0 t) v))
      (λ v. came_passes g n r p (in_came (call_at_most g sure s n p v t)))

-- ---- the steps keep it

module _ (g : Graph) (acc : Acceptable g) (m s : Outs) (sound : Sound g m s) where
  -- a frame came by an edge, if what it came with lies between the edge's out sets
  by_edge_arrived : (t : ℕ) (r : List ℕ) (e : ℕ) → e < g.size.m → to g e ≡ t → ((p : ℕ) → p < g.size.k → came g t r p ≡ true → out_set g m may m e p ≡ true)
      → ((p : ℕ) → p < g.size.k → out_set g m sure s e p ≡ true → came g t r p ≡ true) → Arrived g m s t r
  by_edge_arrived t r e l d f h = record {
    by = edge e;
    arrives = by_edge e l d;
    most = λ p k u. arriving_edge g m t e p ∙ sound.may_enough e p l k (f p k u);
    least = λ p k u. h p k (sound.sure_backed e p l k (sym (arriving_edge g s t e p) ∙ u));
  }

  entered : (n : ℕ) → entry g n ≡ true → Arrived g m s n []
  entered n e = record {
    by = mark;
    arrives = by_mark e;
    most = λ p k u. arriving_mark g m n p ∙ came_grants g n [] p u;
    least = λ p k u. came_both g n [] p (ap (λ (x : Inspected). x.passes) (full_bottom (rights_of g) p)) (sym (arriving_mark g s n p) ∙ u);
  }

  module _ (n t : ℕ) (r : List ℕ) (a : Arrived g m s n r) where
    called : (d : Leads g 0 n t) → Arrived g m s t (n ∷ r)
    called d =
        by_edge_arrived t (n ∷ r) d.number d.low d.ends
        (λ p k u. (call_edge g m may m d.number p d.kindred).1 (rw d.starts (passes_call g m s n r a p k (came_below g t (n ∷ r) p u)), rw d.ends (came_grants g t (n ∷ r) p u)))
        (λ p k u.
        let c = (call_edge g m sure s d.number p d.kindred).0 u in
        came_both g t (n ∷ r) p (call_passes g m s n r a p k (rw d.starts at c.0)) (rw d.ends at c.1))

    module _ (d : Leads g 1 n t) where
      same : (p : ℕ) → came g n r p ≡ came g t r p
      same p = came_same g n t r p (rw d.ends at (rw d.starts at (transfer_same g acc d.number d.low d.kindred p)))

      -- a node that is no check moves on
      moved : is_check g n ≡ false → Arrived g m s t r
      moved c =
          by_edge_arrived t r d.number d.low d.ends
          (λ p k u. (transfer_plain g m may m d.number p d.kindred (rw d.starts c)).1 (rw d.starts (came_in g m s n r a p k (same p ∙ u))))
          (λ p k u. sym (same p) ∙ in_came g m s n r a p k (rw d.starts at ((transfer_plain g m sure s d.number p d.kindred (rw d.starts c)).0 u)))

      -- a check that passes moves on
      checked : n < g.size.n → is_check g n ≡ true → (full (rights_of g) (check g n) (n ∷ r)).passes ≡ true → Arrived g m s t r
      checked l c f = by_split (privileged g n q) by_privilege by_passing
        where
          q : ℕ
          q = check g n

          q_low : q < g.size.k
          q_low = check_low g acc n l c

          h : grants g n q ≡ true
          h = full_grants (rights_of g) q n r f

          by_privilege : privileged g n q ≡ true → Arrived g m s t r
          by_privilege v =
              by_edge_arrived t r d.number d.low d.ends
              (λ p k u. (transfer_privileged g m may m d.number p d.kindred (rw d.starts c) (rw d.starts v)).1 (rw d.starts h, rw d.starts (came_in g m s n r a p k (same p ∙ u))))
              (λ p k u. sym (same p) ∙ in_came g m s n r a p k (rw d.starts at ((transfer_privileged g m sure s d.number p d.kindred (rw d.starts c) (rw d.starts v)).0 u).1))

          by_passing : privileged g n q ≡ false → Arrived g m s t r
          by_passing v =
              by_edge_arrived t r d.number d.low d.ends
              (λ p k u. (transfer_past g m may m d.number p d.kindred (rw d.starts c) (rw d.starts v)).1 (rw d.starts ((past_may g m m n p).1 (a.by, a.arrives, a.most q q_low own, a.most p k (same p ∙ u)))))
              (λ p k u. sym (same p) ∙ after p k ((past_sure g m s n p).0 (rw d.starts at ((transfer_past g m sure s d.number p d.kindred (rw d.starts c) (rw d.starts v)).0 u))))
            where
              own : came g n r q ≡ true
              own = passes_came g n r q v f

              after : (p : ℕ) → p < g.size.k → PastSure g m s n p → came g n r p ≡ true
              after p k x = by_dec (ℕ_discrete p q)
                where
                  by_dec : Dec (p ≡ q) → came g n r p ≡ true
                  by_dec (yes e) = rw e own
                  by_dec (no e) = a.least p k (x.held_by_all e a.by a.arrives (a.most q q_low own))

  lands : (b n t : ℕ) → Leads g b n t → t < g.size.n
  lands b n t d = rw d.ends at (to_low g acc d.number d.low)

  no_check : (n : ℕ) → kind g n ≡ 0 → is_check g n ≡ false
  no_check n z = ne_eqb (kind g n) 2 (λ e. omega (arith, e, z))

  stepped : {x y : List ℕ} → Step g x y → Framed g m s x → Framed g m s y
  stepped (enter {n} l e) bare = frame l (entered n e) tt bare
  stepped (call {n} {t} {r} z d) (frame l a w f) = frame (lands 0 n t d) (called n t r a d) (no_check n z) (frame l a w f)
  stepped (pass {n} {t} {r} c h d) (frame l a w f) = frame (lands 1 n t d) (checked n t r a d l c h) w f
  stepped (back {u} {n} {t} {r} z d) (frame l a w (frame k b v f)) = frame (lands 1 n t d) (moved n t r b d w) v f

  pub framed : {x : List ℕ} → Reachable g x → Framed g m s x
  framed empty = bare
  framed (then h t) = stepped t (framed h)
