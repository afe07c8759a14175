-- Sums that change and sums that don't, and what the calls come to where the sums have a place for the node.
use Rattle.std.specs.Prelude.{ℕ, ◌≤◌, ◌<◌, ◌≡◌, refl, List, Bool, true, false, ◌||◌, length, get_or, set}
use Rattle.std.proofs.Common.{sym, ap, ◌∙◌, eq-eqb, ne_eqb, lt-ltb, le-ltb}
use Rattle.std.proofs.Math.Bool.{or-false}
use Rattle.std.proofs.lemmas.List.{set-get_or}
use Rattle.std.proofs.Math.Seq.{set_out}
use Rattle.truth.specs.Truth.Kit.{same_list}
use Rattle.graph.specs.Graph.{System, PerNode}
use Rattle.flow.specs.Walk.{merge, Begun, Delivered}
use Rattle.sums.specs.Sums.{Merges, Delivers, Room, Begins, begun, kept}

-- ---- a set v arrives in a sum of node b

module _ (y : System) (s : List ℕ) (b v : ℕ) where
  pub merges_none : length s ≤ b → Merges y s b v s false
  merges_none h = record { sums = sym (set_out s b _ h); told = rw (le-ltb b (length s) h) }

  -- a sum that stays as it is, and one that changes; m: the sum after it
  module _ (h : b < length s) (m : ℕ) (sum : m ≡ merge y (get_or s b 0) v) where
    pub merges_same : m ≡ get_or s b 0 → Merges y s b v s false
    merges_same e = record {
      sums = sym (ap (set s b) (sym sum ∙ e) ∙ set-get_or s b 0);
      told = rw (lt-ltb b (length s) h, ← sum, eq-eqb m (get_or s b 0) e);
    }

    pub merges_new : (m ≡ get_or s b 0 → ⊥) → Merges y s b v (set s b m) true
    merges_new d = record { sums = rw sum; told = rw (lt-ltb b (length s) h, ← sum, ne_eqb m (get_or s b 0) d) }

module _ (y : System) (s q : List ℕ) (b v : ℕ) (counted more : Bool) (s' : List ℕ) (f : Merges y s b v s' more) where
  pub uncounted : counted ≡ false → Delivers y s q b v counted s' q more
  uncounted e = record { ins = f.sums; past = rw e; told = rw (e, or-false) f.told }

  pub counted_too : counted ≡ true → (passing : Bool) (q' : List ℕ) → Merges y q b v q' passing → Delivers y s q b v counted s' q' (more || passing)
  counted_too e passing q' g = record { ins = f.sums; past = rw e g.sums; told = rw (e, f.told, g.told) }

-- ---- where the sums have a place for node b

pub delivers_low : (y : System) (s q : List ℕ) (b v : ℕ) (counted : Bool) (s' q' : List ℕ) (r : Bool) → b < length s → b < length q
    → Delivers y s q b v counted s' q' r → Delivered y s q b v counted s' q' r
delivers_low y s q b v counted s' q' r hs hq d = record {
  ins = d.ins;
  past = d.past;
  told = rw (lt-ltb b (length s) hs, lt-ltb b (length q) hq) at d.told;
}

-- ---- how sums begin

module _ (y : System) (k n : ℕ) (nodes : PerNode (List ℕ)) (s q : List ℕ) where
  pub begins_begun : {r : Bool} {s' q' : List ℕ} → Room n nodes s q → Begins y k n nodes s q r s' q' → Begun y k n nodes.checks nodes.entries nodes.grants s' q'
  begins_begun h (begun _ b) = b.first
  begins_begun h (kept d) = absurd (d h)

-- ---- one answer, and one content

pub delivers_one : {y : System} {s q a b x z : List ℕ} {n v : ℕ} {counted r t : Bool} → Delivers y s q n v counted a x r → Delivers y s q n v counted b z t → (r ≡ t) × (a ≡ b) × (x ≡ z)
delivers_one f h = (f.told ∙ sym h.told, f.ins ∙ sym h.ins, f.past ∙ sym h.past)

pub begins_one : {y : System} {k n : ℕ} {nodes : PerNode (List ℕ)} {s q a b x z : List ℕ} {r t : Bool} → Begins y k n nodes s q r a x → Begins y k n nodes s q t b z
    → (r ≡ t) × (a ≡ b) × (x ≡ z)
begins_one {n} (begun m f) (begun o h) = (
  refl,
  same_list n _ _ (f.ins_long ∙ sym h.ins_long) (λ i l. f.first.ins i l ∙ sym (h.first.ins i l)) (λ i l. f.ins_rest i l ∙ sym (h.ins_rest i l)),
  same_list n _ _ (f.past_long ∙ sym h.past_long) (λ i l. f.first.past i l ∙ sym (h.first.past i l)) (λ i l. f.past_rest i l ∙ sym (h.past_rest i l)),
)
begins_one (begun m f) (kept h) = absurd (h m)
begins_one (kept h) (begun m f) = absurd (h m)
begins_one (kept f) (kept h) = (refl, refl, refl)
