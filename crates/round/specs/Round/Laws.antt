-- What a round needs of its slices an accepted graph has.
use Rattle.std.specs.Prelude.{ℕ, ◌+◌, ◌≤◌, ◌<◌, ◌≡◌, refl, List, Bool, true, false, length, get_or}
use Rattle.std.proofs.Common.{sym, ap, ◌∙◌, arith, add-one}
use Rattle.graph.specs.Graph.{Graph, Acceptable, System}
use Rattle.flow.specs.Walk.{counts, carried, to_of}
use Rattle.truth.specs.Truth.Kit.{same_list}
use Rattle.sums.specs.Sums.{Delivers, Begins, begun, kept}
use Rattle.sums.specs.Sums.Laws.{begins_one}
use Rattle.round.specs.Round.{nodes, Carriable, CanSpread, Spreads, spread, unspread, sums_to, ins_to, past_to, Gatherable, Gathers, gathered, unsent, unbegun}
use Rattle.truth.specs.Truth.Bools.{clash}

pub carriable : (g : Graph) (a s q out : List ℕ) → CanSpread g a s q out → (e : ℕ) → e < length g.edges.froms → Carriable g a s q e
carriable g a s q out h e l =
    let r = h.room in
    let f = h.low.starts e l in
    let t = h.low.ends e (omega (arith, r.tos_long)) in
    record {
      from = l;
      to = omega (arith, r.tos_long);
      way = omega (arith, r.ways_long);
      kind = f;
      check = omega (arith, r.checks_long);
      mark = omega (arith, r.privileged_long);
      grant = omega (arith, r.grants_long);
      any = omega (arith, r.any_long);
      ins = omega (arith, r.ins_long);
      past = omega (arith, r.past_long);
      into_grant = omega (arith, r.grants_long);
    }

module _ (g : Graph) (y : System) (a s q out : List ℕ) (acc : Acceptable g) (lo : g.size.m ≤ length out) (la : g.size.n ≤ length a) (ls : g.size.n ≤ length s) (lq : g.size.n ≤ length q) where
  can_spread : CanSpread g a s q out
  can_spread =
      let n = acc.shape.nodes in
      let e = acc.shape.edges in
      record {
        room = record {
          checks_long = omega arith;
          privileged_long = omega arith;
          grants_long = omega arith;
          any_long = omega (arith, n.kinds);
          ins_long = omega (arith, n.kinds);
          past_long = omega (arith, n.kinds);
          tos_long = e.tos ∙ sym e.froms;
          ways_long = omega arith;
          out_long = omega (arith, e.froms);
        };
        low = record {
          few = omega (arith, n.kinds, acc.shape.ranges.n_high);
          starts = λ d l. rw n.kinds (acc.edges d (omega (arith, e.froms))).from_node;
          ends = λ d l. rw n.kinds (acc.edges d (omega (arith, e.tos))).to_node;
        };
      }

  -- so the out sets are stored
  pub spreads_all : {r : Bool} {out' : List ℕ} → Spreads g y a s q out r out' → (e : ℕ) → e < g.size.m → get_or out' e 0 ≡ carried g y a s q e
  spreads_all (spread _ f) e l = f.sets e (omega (arith, acc.shape.edges.froms))
  spreads_all (unspread d) e l = absurd (d can_spread)

-- ---- from the out sets to the sums

module _ (g : Graph) (y : System) (w o s₀ q₀ : List ℕ) where
  -- one edge more arrives
  pub gather_more : (e : ℕ) (counted told : Bool) (s q s' q' : List ℕ) → counted ≡ counts g y w e (get_or o e 0)
      → Delivers y s q (to_of g e) (get_or o e 0) counted s' q' told
      → s ≡ ins_to g y o e s₀ → q ≡ past_to g y w o e q₀
      → (s' ≡ ins_to g y o (e + 1) s₀) × (q' ≡ past_to g y w o (e + 1) q₀)
  unfolding sums_to
  gather_more e counted told s q s' q' c d i j =
      (rw (add-one e, ← i) d.ins, rw (add-one e, ← j, ← c) d.past)

-- whether the sums begin decides the rest
module _ (g : Graph) (y : System) (w o s q : List ℕ) where
  pub unbegun_by : {r : Bool} {s₀ q₀ : List ℕ} → r ≡ false → Begins y g.size.k (nodes g) g.nodes s q r s₀ q₀ → Gathers g y w o s q false s₀ q₀
  unbegun_by e (begun _ _) = clash refl e
  unbegun_by e (kept d) = unbegun (kept d)

  pub gathered_by : {r : Bool} {s₀ q₀ : List ℕ} (s' q' : List ℕ) → Gatherable g w o → r ≡ true → Begins y g.size.k (nodes g) g.nodes s q r s₀ q₀
      → s' ≡ ins_to g y o (length g.edges.tos) s₀ → q' ≡ past_to g y w o (length g.edges.tos) q₀ → Gathers g y w o s q true s' q'
  gathered_by s' q' h e b i j = rw (i, j) (gathered h (rw e at b))

-- ---- one answer, and one content

module _ {g : Graph} {y : System} {a s q out : List ℕ} where
  pub spreads_one : {r t : Bool} {x z : List ℕ} → Spreads g y a s q out r x → Spreads g y a s q out t z → (r ≡ t) × (x ≡ z)
  spreads_one (spread c f) (spread d h) =
      (refl, same_list (length g.edges.froms) _ _ (f.long ∙ sym h.long) (λ e l. f.sets e l ∙ sym (h.sets e l)) (λ e l. f.rest e l ∙ sym (h.rest e l)))
  spreads_one (spread c f) (unspread h) = absurd (h c)
  spreads_one (unspread h) (spread c f) = absurd (h c)
  spreads_one (unspread f) (unspread h) = (refl, refl)

module _ {g : Graph} {y : System} {w o s q : List ℕ} where
  pub gathers_one : {r t : Bool} {a b x z : List ℕ} → Gathers g y w o s q r a x → Gathers g y w o s q t b z → (r ≡ t) × (a ≡ b) × (x ≡ z)
  gathers_one (gathered c f) (gathered d h) =
      let one = begins_one f h in
      (refl, ap (ins_to g y o (length g.edges.tos)) one.1, ap (past_to g y w o (length g.edges.tos)) one.2)
  gathers_one (gathered c f) (unsent h) = absurd (h c)
  gathers_one (gathered c f) (unbegun h) = clash refl (begins_one f h).0
  gathers_one (unsent h) (gathered c f) = absurd (h c)
  gathers_one (unsent f) (unsent h) = (refl, refl, refl)
  gathers_one (unsent f) (unbegun h) = (refl, refl, refl)
  gathers_one (unbegun h) (gathered c f) = clash refl (begins_one f h).0
  gathers_one (unbegun f) (unsent h) = (refl, refl, refl)
  gathers_one (unbegun f) (unbegun h) = (refl, refl, refl)
