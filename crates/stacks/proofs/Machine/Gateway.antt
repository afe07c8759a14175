-- The worked gateway's table holds, for every content of its slices.
use Rattle.std.specs.Prelude.{ℕ, ◌<◌, ◌≡◌, refl, List, [], ◌∷◌, true, false, eqb, get_or}
use Rattle.std.proofs.Common.{sym, ◌∙◌, ap, lit<, arith}
use Rattle.truth.specs.Truth.Bools.{clash}
use Rattle.sets.specs.Sets.Code.{has_code}
use Rattle.graph.specs.Graph.{verdict_of, Slices, Content}
use Rattle.graph.specs.Graph.Code.{privileged_code, verdict_code}
use Rattle.graph.specs.Graph.Gateway.{gateway, gateway_slices}
use Rattle.graph.proofs.Graph.Gateway.{gateway_accepted, gateway_content, gateway_one}
use Rattle.stacks.specs.Machine.{rights_of, full, quick, Step, Reachable}
use Rattle.stacks.proofs.Machine.Demand3.{demand3}
use Rattle.stacks.specs.Machine.Gateway.{row, look, passes_after, fails_after, Table}

needed : verdict_of false false ≡ 0
needed = verdict_code.0

always_passes : verdict_of false true ≡ 1
always_passes = verdict_code.1

-- the stack on which the two differ: so no run reaches it
differ : look gateway_slices (5 ∷ 1 ∷ []) ≡ record { stack = 5 ∷ 1 ∷ []; by_full = fails_after 2; by_quick = passes_after 1 }
unfolding look full quick
differ = simp (privileged_code, has_code)

-- the stacks that a run reaches: an entry, and calls along an edge
entered : (n : ℕ) → n < 8 → eqb (get_or gateway.nodes.entries n 0) 1 ≡ true → Reachable gateway (n ∷ [])
entered n l e = Reachable.then Reachable.empty (Step.enter l e)

called : {n : ℕ} {r : List ℕ} (e : ℕ) → e < 8 → get_or gateway.edges.froms e 0 ≡ n → get_or gateway.nodes.kinds n 0 ≡ 0 → get_or gateway.edges.ways e 0 ≡ 0 → Reachable gateway (n ∷ r)
    → Reachable gateway (get_or gateway.edges.tos e 0 ∷ n ∷ r)
called {n} e l f k w h =
    Reachable.then h (Step.call k (record { number = e; low = l; starts = f; ends = refl; kindred = w }))

rows : Table gateway_slices
unfolding row look full quick
rows = record {
  row_0 = refl;
  row_1 = refl;
  row_2 = simp (has_code, needed);
  row_3 = refl;
  row_4 = refl;
  row_5 = simp (has_code, always_passes);
  row_6 = refl;
  row_7 = refl;
  stack_0_2 = simp (privileged_code, has_code);
  stack_1_2 = simp (privileged_code, has_code);
  stack_1_4_5 = simp (privileged_code, has_code);
  stack_1_5 = differ;
  run_to_0_2 = called 0 (lit< tt) refl refl refl (entered 0 (lit< tt) refl);
  run_to_1_2 = called 1 (lit< tt) refl refl refl (entered 1 (lit< tt) refl);
  run_to_1_4_5 = called 4 (lit< tt) refl refl refl (called 3 (lit< tt) refl refl refl (entered 1 (lit< tt) refl));
  no_run_to_1_5 = λ h.
      let a = (demand3 gateway gateway_accepted gateway_slices gateway_content h 0 (omega arith)).answer in
      clash (sym a ∙ ap (λ l. l.by_quick.passes) differ) (ap (λ l. l.by_full.passes) differ);
}

pub gateway_table : {x : Slices} → Content gateway x → Table x
gateway_table c = rw (gateway_one c) rows

-- the third stack, where the two differ in their count
pub full_at_5 : full (rights_of gateway) 0 (5 ∷ 4 ∷ 1 ∷ []) ≡ passes_after 2
unfolding look
full_at_5 = ap (λ l. l.by_full) rows.stack_1_4_5

pub quick_at_5 : {x : Slices} → Content gateway x → quick x.denied x.granted 0 (5 ∷ 4 ∷ 1 ∷ []) ≡ passes_after 1
unfolding look
quick_at_5 c = ap (λ l. l.by_quick) (gateway_table c).stack_1_4_5
