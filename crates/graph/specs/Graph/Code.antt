-- What a definition comes to: for code that computes it, and for tables that are computed. Every user of these laws moves with the definition.
use Rattle.std.specs.Prelude.{ℕ, ◌≡◌, refl, true, false, not, eqb}
use Rattle.graph.specs.Graph.{Graph, privileged_by, denied_set, granted_set, call_set, may, sure, Outs, verdict_of}

-- a mark says whether a node is privileged
pub privileged_code : (mark p : ℕ) → privileged_by mark p ≡ eqb mark 1
unfolding privileged_by
privileged_code mark p = refl

-- the verdict's number in each case
pub verdict_code : (verdict_of false false ≡ 0) × (verdict_of false true ≡ 1) × (verdict_of true false ≡ 2) × (verdict_of true true ≡ 3)
unfolding verdict_of
verdict_code = (refl, refl, refl, refl)

-- the denied and granted sets of a node by its call sets
pub denied_code : (g : Graph) (m : Outs) (n p : ℕ) → denied_set g m n p ≡ not (call_set g may m n p)
unfolding denied_set
denied_code g m n p = refl

pub granted_code : (g : Graph) (s : Outs) (n p : ℕ) → granted_set g s n p ≡ call_set g sure s n p
unfolding granted_set
granted_code g s n p = refl
