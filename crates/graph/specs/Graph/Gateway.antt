-- The worked gateway: its graph, and the rows that every content of its slices gives.
use Rattle.std.specs.Prelude.{◌≡◌, refl, [], ◌∷◌}
use Rattle.truth.specs.Truth.{first, some, every}
use Rattle.sets.specs.Sets.Code.{has_code}
use Rattle.sets.specs.Sets.Pack.{pack}
use Rattle.graph.specs.Graph.{out_rule, trans_rule, call_rule, privileged_by, Graph, graph_of, size_of, arriving, some_arrival, every_arrival, in_set, call_set, past_set, out_set, denied_set, granted_set, Slices}
use Rattle.graph.specs.Graph.Rounds.{sheet, written, rounds, may_rounds}
use Rattle.graph.specs.Graph.Tables.{Computed}
use Rattle.graph.specs.Judge.{shape_test, node_test, edge_test, no_entry, judge}

abbrev pub gateway : Graph
gateway =
    graph_of (size_of 2 8 8)
    (0 ∷ 0 ∷ 2 ∷ 1 ∷ 0 ∷ 2 ∷ 1 ∷ 1 ∷ [])
    (0 ∷ 0 ∷ 0 ∷ 0 ∷ 0 ∷ 0 ∷ 0 ∷ 0 ∷ [])
    (0 ∷ 0 ∷ 0 ∷ 0 ∷ 1 ∷ 0 ∷ 0 ∷ 0 ∷ [])
    (1 ∷ 1 ∷ 0 ∷ 0 ∷ 0 ∷ 0 ∷ 0 ∷ 0 ∷ [])
    (3 ∷ 2 ∷ 3 ∷ 3 ∷ 3 ∷ 3 ∷ 3 ∷ 2 ∷ [])
    (0 ∷ 1 ∷ 2 ∷ 1 ∷ 4 ∷ 5 ∷ 4 ∷ 1 ∷ [])
    (2 ∷ 2 ∷ 3 ∷ 4 ∷ 5 ∷ 6 ∷ 6 ∷ 7 ∷ [])
    (0 ∷ 0 ∷ 1 ∷ 0 ∷ 0 ∷ 1 ∷ 1 ∷ 1 ∷ [])

-- permissions 0 and 1 are the digits 1 and 2: a set of both is 3
abbrev pub gateway_slices : Slices
gateway_slices = record {
  denied = 0 ∷ 1 ∷ 0 ∷ 0 ∷ 0 ∷ 0 ∷ 0 ∷ 1 ∷ [];
  granted = 3 ∷ 2 ∷ 2 ∷ 3 ∷ 3 ∷ 3 ∷ 2 ∷ 2 ∷ [];
  may_out = 3 ∷ 2 ∷ 3 ∷ 2 ∷ 3 ∷ 3 ∷ 2 ∷ 2 ∷ [];
  sure_out = 3 ∷ 2 ∷ 3 ∷ 2 ∷ 3 ∷ 3 ∷ 2 ∷ 2 ∷ [];
}

pub computed : Computed gateway gateway_slices 3 3
unfolding judge shape_test node_test edge_test no_entry first rounds written sheet pack some every some_arrival every_arrival privileged_by arriving in_set call_set past_set out_set denied_set granted_set call_rule out_rule trans_rule
computed = record { accepted = refl; sets = simp has_code }

-- after a single round MAY is not there yet
pub gateway_one_round : may_rounds gateway 1 ≡ 3 ∷ 2 ∷ 0 ∷ 2 ∷ 3 ∷ 0 ∷ 0 ∷ 2 ∷ []
unfolding rounds written sheet pack some every some_arrival every_arrival privileged_by arriving in_set call_set past_set out_set call_rule out_rule trans_rule
gateway_one_round = simp has_code
