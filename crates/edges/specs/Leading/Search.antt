-- The search for an edge that leads from one node to another, and what its answer says.
use Rattle.std.specs.Prelude.{ℕ, ◌<◌, ◌≡◌, List, Bool, true, false, ltb, length}
use Rattle.std.proofs.Common.{ltb-true, ltb-false, arith}
use Rattle.truth.specs.Truth.{Says, holds, fails, First}
use Rattle.truth.specs.Truth.Tests.{says_same, says_by, says_true, says_false, eq?}
use Rattle.graph.specs.Graph.{PerEdge, map_edge, edge_at, EdgesLong, LeadsIn}
use Rattle.edges.specs.Leading.{Leading}

-- The numbers of an edge: it is of a kind and leads from a to b.
pub record Joins (x : PerEdge ℕ) (kind a b : ℕ) : Type 0 where
  pub starts : x.froms ≡ a
  pub ends : x.tos ≡ b
  pub kindred : x.ways ≡ kind

pub joins_says : {x : PerEdge ℕ} {k a b : ℕ} {v : Bool} → x.froms ≡ a → x.tos ≡ b → Says (x.ways ≡ k) v → Says (Joins x k a b) v
joins_says p q e = says_same e (λ z. record { starts = p; ends = q; kindred = z }) (λ j. j.kindred)

number_stable : (a b : ℕ) → ((a ≡ b → ⊥) → ⊥) → a ≡ b
number_stable a b h = go (eq? a b)
  where
    go : {v : Bool} → Says (a ≡ b) v → a ≡ b
    go (holds e) = e
    go (fails d) = absurd (h d)

-- an edge that is not passed over is one that leads there
joins_stable : {x : PerEdge ℕ} {k a b : ℕ} → ((Joins x k a b → ⊥) → ⊥) → Joins x k a b
joins_stable h = record {
  starts = number_stable _ _ (λ d. h (λ j. d j.starts));
  ends = number_stable _ _ (λ d. h (λ j. d j.ends));
  kindred = number_stable _ _ (λ d. h (λ j. d j.kindred));
}

-- the first edge that is not passed over, by its number
pub search_says : {m : ℕ} {x : PerEdge (List ℕ)} {k a b r : ℕ} → First (λ i. Joins (edge_at x i) k a b → ⊥) m r → Says (LeadsIn m x k a b) (ltb r m)
search_says {m} {x} {k} {a} {b} {r} s =
    says_by (ltb r m)
    (λ e. let l = ltb-true r m e in let j = joins_stable (s.broken l) in record { number = r; low = l; starts = j.starts; ends = j.ends; kindred = j.kindred })
    (λ e j. let l = ltb-false r m e in s.before j.number (omega (arith, j.low)) (record { starts = j.starts; ends = j.ends; kindred = j.kindred }))

-- one that joins them among the first m is one that leads there
pub joined_says : {m : ℕ} {x : PerEdge (List ℕ)} {k a b : ℕ} {v : Bool} → Says ((e : ℕ) × (e < m) × Joins (edge_at x e) k a b) v → Says (LeadsIn m x k a b) v
joined_says s =
    says_same s
    (λ (e, l, j). record { number = e; low = l; starts = j.starts; ends = j.ends; kindred = j.kindred })
    (λ j. (j.number, j.low, record { starts = j.starts; ends = j.ends; kindred = j.kindred }))

-- what the answer of `lead` says of slices that are long enough
module _ {m : ℕ} {x : PerEdge (List ℕ)} {k a b : ℕ} {v : Bool} (said : Says (Leading m x k a b) v) where
  pub leads_so : v ≡ true → LeadsIn m x k a b
  leads_so t = (says_true said t).leads

  pub leads_not : EdgesLong m (map_edge length x) → v ≡ false → LeadsIn m x k a b → ⊥
  leads_not long t l = says_false said t (record { long = long; leads = l })
