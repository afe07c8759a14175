-- A chain of calls whose edges are listed against the flow: node 0, an entry, calls 1, which calls 2, and the second call is listed first. One pass
-- over the edges in their order, in place, is not enough for it.
use Rattle.std.specs.Prelude.{ℕ, zero, suc, ◌≡◌, refl, List, [], ◌∷◌, set}
use Rattle.truth.specs.Truth.{first, some, every}
use Rattle.sets.specs.Sets.Code.{has_code}
use Rattle.sets.specs.Sets.Pack.{pack}
use Rattle.graph.specs.Graph.{out_rule, trans_rule, call_rule, privileged_by, Graph, graph_of, size_of, may, arriving, some_arrival, every_arrival, in_set, call_set, past_set, out_set, denied_set, granted_set, Slices, held}
use Rattle.graph.specs.Graph.Rounds.{sheet, written, rounds, may_rounds}
use Rattle.graph.specs.Graph.Tables.{Computed}
use Rattle.graph.specs.Judge.{shape_test, node_test, edge_test, no_entry, judge}

abbrev pub backwards : Graph
backwards =
    graph_of (size_of 1 3 2)
    (0 ∷ 0 ∷ 1 ∷ [])
    (0 ∷ 0 ∷ 0 ∷ [])
    (0 ∷ 0 ∷ 0 ∷ [])
    (1 ∷ 0 ∷ 0 ∷ [])
    (1 ∷ 1 ∷ 1 ∷ [])
    (1 ∷ 0 ∷ [])
    (2 ∷ 1 ∷ [])
    (0 ∷ 0 ∷ [])

abbrev pub backwards_slices : Slices
backwards_slices = record { denied = 0 ∷ 0 ∷ 0 ∷ []; granted = 1 ∷ 1 ∷ 1 ∷ []; may_out = 1 ∷ 1 ∷ []; sure_out = 1 ∷ 1 ∷ [] }

pub computed : Computed backwards backwards_slices 2 0
unfolding judge shape_test node_test edge_test no_entry first rounds written sheet pack some every some_arrival every_arrival privileged_by arriving in_set call_set past_set out_set denied_set granted_set call_rule out_rule trans_rule
computed = record { accepted = refl; sets = simp has_code }

-- MAY's out sets after one pass in place: each edge's is worked out from those that stand there
unfoldable pub pass_from : Graph → (left e : ℕ) → List ℕ → List ℕ
pass_from g zero e l = l
pass_from g (suc left) e l = pass_from g left (suc e) (set l e (pack g.size.k (out_set g (held l) may (held l) e)))

abbrev pub one_pass : Graph → List ℕ
one_pass g = pass_from g g.size.m 0 (may_rounds g 0)

pub backwards_one_pass : one_pass backwards ≡ 0 ∷ 1 ∷ []
unfolding pass_from rounds written sheet pack some every some_arrival every_arrival privileged_by arriving in_set call_set past_set out_set call_rule out_rule trans_rule
backwards_one_pass = simp has_code
