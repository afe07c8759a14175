-- What reading the rows i to n from position p on answers and puts, by the row at p; and what each slice holds when rows were put one after another.
use Rattle.std.specs.Prelude.{ℕ, suc, ◌+◌, ◌-◌, ◌≤◌, ◌<◌, ◌≡◌, refl, List, [], ◌∷◌, map, set, Option, Some, None, Ok, Err}
use Rattle.std.proofs.Common.{◌∙◌, add-one, sub-eq-zero_of_le, arith}
use Rattle.std.proofs.Math.Nat.{sub-zero}
use Rattle.std.proofs.lemmas.List.Edits.{sets}
use Rattle.scan.specs.declared.At.{At}
use Rattle.graph.specs.declared.Node.{Node}
use Rattle.graph.specs.declared.Edge.{Edge}
use Rattle.graph.specs.declared.Refusal.TheVariants as why
use Rattle.extent.specs.Extent.{Ran}
use Rattle.extent.specs.Room.{node_slots, edge_slots}
use Rattle.extent.specs.declared.NodeSlots.{NodeSlots}
use Rattle.extent.specs.declared.EdgeSlots.{EdgeSlots}
use Rattle.handover.specs.Handover.{NodesWritten, EdgesWritten}
use Rattle.text.specs.Text.{edge_row, node_columns, edge_columns}
use Rattle.text.specs.Text.Parts.{rows_from, end_from, kept_row, put_all, node_put, edge_put, RowsRead, NodesRead, EdgesRead}

one_less : (n i : ℕ) → i < n → n - i ≡ suc (n - (i + 1))
one_less n i h = omega arith

-- Places x, written below i, are on their way: with what the rows to come say they are what they have to be.
pub record Slot {X S : Type 0} (row : (from i : ℕ) → Option (At X)) (put : S → (i : ℕ) → X → S) (n from : ℕ) (before x : S) (p i : ℕ) : Type 0 where
  pub goes : put_all put x i (rows_from row (n - i) p i) ≡ put_all put before 0 (rows_from row n from 0)

module _ {X : Type 0} (row : (from i : ℕ) → Option (At X)) (n from : ℕ) where
  pub end_start : (first : ℕ) → end_from row first (n - 0) from 0 ≡ end_from row first n from 0
  end_start first = rw sub-zero

  pub slot_start : {S : Type 0} (put : S → (i : ℕ) → X → S) (before : S) → Slot row put n from before before from 0
  slot_start put before = record { goes = rw sub-zero }

  module _ {p i : ℕ} where
    module _ (first : ℕ) where
      pub end_out : n ≤ i → end_from row first (n - i) p i ≡ end_from row first n from 0 → Ok p ≡ end_from row first n from 0
      unfolding end_from
      end_out h e = rw (sub-eq-zero_of_le h) at e

      pub end_stop : i < n → row p i ≡ None → end_from row first (n - i) p i ≡ end_from row first n from 0 → Err (why.Row (first + i)) ≡ end_from row first n from 0
      unfolding end_from
      end_stop h w e = let e' = rw (one_less n i h) at e in simp w at e'

      pub end_step : {x : At X} → i < n → row p i ≡ Some x → end_from row first (n - i) p i ≡ end_from row first n from 0 → end_from row first (n - (i + 1)) x.next (i + 1) ≡ end_from row first n from 0
      unfolding end_from
      end_step h w e = let e' = rw (one_less n i h) at e in simp w at e'

    module _ {S : Type 0} {put : S → (i : ℕ) → X → S} {before x : S} (o : Slot row put n from before x p i) where
      pub slot_out : n ≤ i → x ≡ put_all put before 0 (rows_from row n from 0)
      unfolding rows_from put_all
      slot_out h = rw (sub-eq-zero_of_le h) at o.goes

      pub slot_stop : i < n → row p i ≡ None → x ≡ put_all put before 0 (rows_from row n from 0)
      unfolding rows_from put_all
      slot_stop h w = let e = rw (one_less n i h) at o.goes in simp w at e

      pub slot_step : {v : At X} → i < n → row p i ≡ Some v → Slot row put n from before (put x i v.value) v.next (i + 1)
      unfolding rows_from put_all
      slot_step h w = let e = rw (one_less n i h) at o.goes in record { goes = simp w at e }

-- ---- what each slice holds

put_column : {X S : Type 0} {put : S → (i : ℕ) → X → S} (col : S → List ℕ) (f : X → ℕ) → ((x : S) (i : ℕ) (v : X) → col (put x i v) ≡ set (col x) i (f v)) → (x : S) (i : ℕ) (vs : List X) → col (put_all put x i vs) ≡ sets (col x) i (map f vs)
unfolding put_all
put_column col f e x i [] = refl
put_column {put = put} col f e x i (v ∷ vs) = put_column col f e (put x i v) (i + 1) vs ∙ rw (e x i v, add-one i)

nodes_put : (x : NodeSlots) (vs : List Node) → NodesWritten (node_slots x) (node_columns vs) (node_slots (put_all node_put x 0 vs))
nodes_put x vs = record {
  kinds = put_column (λ x. x.kinds) (λ v. v.kind) (λ x i v. refl) x 0 vs;
  checks = put_column (λ x. x.checks) (λ v. v.check) (λ x i v. refl) x 0 vs;
  privileged = put_column (λ x. x.privileged) (λ v. v.privileged) (λ x i v. refl) x 0 vs;
  entries = put_column (λ x. x.entries) (λ v. v.entry) (λ x i v. refl) x 0 vs;
  grants = put_column (λ x. x.grants) (λ v. v.grants) (λ x i v. refl) x 0 vs;
}

edges_put : (x : EdgeSlots) (vs : List Edge) → EdgesWritten (edge_slots x) (edge_columns vs) (edge_slots (put_all edge_put x 0 vs))
edges_put x vs = record {
  froms = put_column (λ x. x.froms) (λ v. v.from) (λ x i v. refl) x 0 vs;
  tos = put_column (λ x. x.tos) (λ v. v.to) (λ x i v. refl) x 0 vs;
  ways = put_column (λ x. x.ways) (λ v. v.way) (λ x i v. refl) x 0 vs;
}

-- ---- from rows that were put to the slices

pub nodes_read : {s : List ℕ} {from first n : ℕ} {r : Ran} {x y : NodeSlots} → RowsRead (kept_row s) node_put from first n x r y → NodesRead s from first n r (node_slots x) (node_slots y)
nodes_read {s} {from} {n = n} {x = x} h = record { answer = h.answer; so = rw h.so (nodes_put x (rows_from (kept_row s) n from 0)) }

pub edges_read : {s : List ℕ} {from first m : ℕ} {r : Ran} {x y : EdgeSlots} → RowsRead (edge_row s) edge_put from first m x r y → EdgesRead s from first m r (edge_slots x) (edge_slots y)
edges_read {s} {from} {m = m} {x = x} h = record { answer = h.answer; so = rw h.so (edges_put x (rows_from (edge_row s) m from 0)) }
