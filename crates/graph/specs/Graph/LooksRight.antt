-- Errors that look right and the two departures from the print, each as a small graph whose sets would come out
-- otherwise under the error. K is 2: permissions 0 and 1 are the digits 1 and 2, so a set of both is 3.
use Rattle.std.specs.Prelude.{ℕ, zero, suc, refl, List, [], ◌∷◌, true}
use Rattle.std.proofs.Common.{arith, sym}
use Rattle.std.proofs.Math.Bool.{or-true}
use Rattle.truth.specs.Truth.{first, some, every}
use Rattle.sets.specs.Sets.Code.{has_code}
use Rattle.sets.specs.Sets.Pack.{pack}
use Rattle.graph.specs.Graph.{out_rule, trans_rule, call_rule, privileged_by, Graph, graph_of, size_of, grants, arriving, some_arrival, every_arrival, in_set, call_set, past_set, out_set, MaySolution, denied_set, granted_set, Slices}
use Rattle.graph.specs.Graph.Rounds.{sheet, written, rounds}
use Rattle.graph.specs.Graph.Tables.{Computed}
use Rattle.graph.specs.Judge.{shape_test, node_test, edge_test, no_entry, judge}

abbrev pub slices : (denied granted may_out sure_out : List ℕ) → Slices
slices denied granted may_out sure_out = record { denied = denied; granted = granted; may_out = may_out; sure_out = sure_out }

-- Node 0, an entry call that grants 1, calls node 1, a privileged call that grants both and moves on to node 2.
-- Taking trans(1) from call(1): nothing denied at node 2, and both granted.
abbrev pub privilege_ends : Graph
privilege_ends = graph_of (size_of 2 3 2) (0 ∷ 0 ∷ 1 ∷ []) (0 ∷ 0 ∷ 0 ∷ []) (0 ∷ 1 ∷ 0 ∷ []) (1 ∷ 0 ∷ 0 ∷ []) (2 ∷ 3 ∷ 3 ∷ []) (0 ∷ 1 ∷ []) (1 ∷ 2 ∷ []) (0 ∷ 1 ∷ [])

-- Node 0 is an entry; nothing leads to node 1, a check of 1 that grants 0: denied and granted, so it is never reached.
-- Cutting SURE to grants where nothing arrives: granted 0 alone, so that the check always fails.
abbrev pub orphan : Graph
orphan = graph_of (size_of 2 2 0) (0 ∷ 2 ∷ []) (0 ∷ 1 ∷ []) (0 ∷ 0 ∷ []) (1 ∷ 0 ∷ []) (1 ∷ 1 ∷ []) [] [] []

-- Entry calls 0, which grants both, and 1, which grants none, call node 2, a check of 0, which moves on to node 3.
-- Letting node 1, which can't pass, weaken what is sure: 0 alone granted at node 3.
abbrev pub passing : Graph
passing = graph_of (size_of 2 4 3) (0 ∷ 0 ∷ 2 ∷ 1 ∷ []) (0 ∷ 0 ∷ 0 ∷ 0 ∷ []) (0 ∷ 0 ∷ 0 ∷ 0 ∷ []) (1 ∷ 1 ∷ 0 ∷ 0 ∷ []) (3 ∷ 0 ∷ 3 ∷ 3 ∷ []) (0 ∷ 1 ∷ 2 ∷ []) (2 ∷ 2 ∷ 3 ∷ []) (0 ∷ 0 ∷ 1 ∷ [])

-- Entry 0, which grants 0, calls node 1, an entry too, which grants both.
-- Treating node 1 as having only callers: 1 denied there.
abbrev pub entry_called : Graph
entry_called = graph_of (size_of 2 2 1) (0 ∷ 1 ∷ []) (0 ∷ 0 ∷ []) (0 ∷ 0 ∷ []) (1 ∷ 1 ∷ []) (1 ∷ 3 ∷ []) (0 ∷ []) (1 ∷ []) (0 ∷ [])

-- The privileged check of the rules: entry call 0 grants 1 and calls node 1, a privileged check of 0 that grants both, and moves on to node 2.
-- Emptying trans(1) as in the print, since no arriving edge carries 0: both denied at node 2, where the inspection grants 1.
abbrev pub privileged_check : Graph
privileged_check = graph_of (size_of 2 3 2) (0 ∷ 2 ∷ 1 ∷ []) (0 ∷ 0 ∷ 0 ∷ []) (0 ∷ 1 ∷ 0 ∷ []) (1 ∷ 0 ∷ 0 ∷ []) (2 ∷ 3 ∷ 3 ∷ []) (0 ∷ 1 ∷ []) (1 ∷ 2 ∷ []) (0 ∷ 1 ∷ [])

-- The loop of the rules: entry call 0 grants 0, and transfers to itself.
-- Taking the largest MAY: nothing denied, though 1 is granted nowhere.
abbrev pub loop : Graph
loop = graph_of (size_of 2 1 1) (0 ∷ []) (0 ∷ []) (0 ∷ []) (1 ∷ []) (1 ∷ []) (0 ∷ []) (0 ∷ []) (1 ∷ [])

-- What each graph's slices hold: `computed_one` says of each that it is so of every content.
pub record Tables : Type 0 where
  pub privilege_ends_so : Computed privilege_ends (slices (1 ∷ 0 ∷ 1 ∷ []) (2 ∷ 3 ∷ 2 ∷ []) (2 ∷ 2 ∷ []) (2 ∷ 2 ∷ [])) 2 2
  pub orphan_stays : Computed orphan (slices (2 ∷ 3 ∷ []) (1 ∷ 3 ∷ []) [] []) 0 0
  pub passing_counts : Computed passing (slices (0 ∷ 3 ∷ 0 ∷ 0 ∷ []) (3 ∷ 0 ∷ 0 ∷ 3 ∷ []) (3 ∷ 0 ∷ 3 ∷ []) (3 ∷ 0 ∷ 3 ∷ [])) 2 2
  pub entry_counts : Computed entry_called (slices (2 ∷ 0 ∷ []) (1 ∷ 1 ∷ []) (1 ∷ []) (1 ∷ [])) 1 1
  pub privileged_passes : Computed privileged_check (slices (1 ∷ 0 ∷ 1 ∷ []) (2 ∷ 3 ∷ 2 ∷ []) (2 ∷ 2 ∷ []) (2 ∷ 2 ∷ [])) 2 2
  pub least_loop : Computed loop (slices (2 ∷ []) (1 ∷ []) (1 ∷ []) (1 ∷ [])) 1 1

pub tables : Tables
unfolding judge shape_test node_test edge_test no_entry first rounds written sheet pack some every some_arrival every_arrival privileged_by arriving in_set call_set past_set out_set denied_set granted_set call_rule out_rule trans_rule
tables = record {
  privilege_ends_so = record { accepted = refl; sets = simp has_code };
  orphan_stays = record { accepted = refl; sets = simp has_code };
  passing_counts = record { accepted = refl; sets = simp has_code };
  entry_counts = record { accepted = refl; sets = simp has_code };
  privileged_passes = record { accepted = refl; sets = simp has_code };
  least_loop = record { accepted = refl; sets = simp has_code };
}

-- The loop has a larger solution: that MAY is the least one is what denies permission 1 there.
pub loop_larger : MaySolution loop (λ _ _. true)
unfolding some some_arrival arriving in_set out_set out_rule call_rule trans_rule
loop_larger zero p l k = sym (or-true (grants loop 0 p))
loop_larger (suc e) p l k = absurd (omega arith)
