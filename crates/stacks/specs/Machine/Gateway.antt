-- The worked gateway: its eight result rows and its four stacks as one table. `Machine/Gateway` of proofs/ shows it for every content of its slices.
use Rattle.std.specs.Prelude.{ℕ, ◌≡◌, List, [], ◌∷◌, true, false, cond, get_or}
use Rattle.sets.specs.Sets.{has}
use Rattle.graph.specs.Graph.{is_check, check, verdict_of, Slices}
use Rattle.graph.specs.Graph.Gateway.{gateway}
use Rattle.stacks.specs.Machine.{rights_of, Inspected, full, quick, Reachable}

-- A node, its two sets as numbers (permission 0 is 1, permission 1 is 2), and the verdict where it is a check.
pub record Row : Type 0 where
  pub node : ℕ
  pub denied : ℕ
  pub granted : ℕ
  pub verdict : List ℕ

-- A stack, top first, with what the inspections for permission 0 answer.
pub record Look : Type 0 where
  pub stack : List ℕ
  pub by_full : Inspected
  pub by_quick : Inspected

unfoldable pub row : Slices → ℕ → Row
row x n = record {
  node = n;
  denied = get_or x.denied n 0;
  granted = get_or x.granted n 0;
  verdict = cond (is_check gateway n) (verdict_of (has (get_or x.denied n 0) (check gateway n)) (has (get_or x.granted n 0) (check gateway n)) ∷ []) [];
}

unfoldable pub look : Slices → List ℕ → Look
look x s = record { stack = s; by_full = full (rights_of gateway) 0 s; by_quick = quick x.denied x.granted 0 s }

abbrev pub passes_after : ℕ → Inspected
passes_after n = record { passes = true; looked = n }

abbrev pub fails_after : ℕ → Inspected
fails_after n = record { passes = false; looked = n }

pub record Table (x : Slices) : Type 0 where
  pub row_0 : row x 0 ≡ record { node = 0; denied = 0; granted = 3; verdict = [] }
  pub row_1 : row x 1 ≡ record { node = 1; denied = 1; granted = 2; verdict = [] }
  pub row_2 : row x 2 ≡ record { node = 2; denied = 0; granted = 2; verdict = 0 ∷ [] }
  pub row_3 : row x 3 ≡ record { node = 3; denied = 0; granted = 3; verdict = [] }
  pub row_4 : row x 4 ≡ record { node = 4; denied = 0; granted = 3; verdict = [] }
  pub row_5 : row x 5 ≡ record { node = 5; denied = 0; granted = 3; verdict = 1 ∷ [] }
  pub row_6 : row x 6 ≡ record { node = 6; denied = 0; granted = 2; verdict = [] }
  pub row_7 : row x 7 ≡ record { node = 7; denied = 1; granted = 2; verdict = [] }
  pub stack_0_2 : look x (2 ∷ 0 ∷ []) ≡ record { stack = 2 ∷ 0 ∷ []; by_full = passes_after 2; by_quick = passes_after 2 }
  pub stack_1_2 : look x (2 ∷ 1 ∷ []) ≡ record { stack = 2 ∷ 1 ∷ []; by_full = fails_after 2; by_quick = fails_after 2 }
  pub stack_1_4_5 : look x (5 ∷ 4 ∷ 1 ∷ []) ≡ record { stack = 5 ∷ 4 ∷ 1 ∷ []; by_full = passes_after 2; by_quick = passes_after 1 }
  pub stack_1_5 : look x (5 ∷ 1 ∷ []) ≡ record { stack = 5 ∷ 1 ∷ []; by_full = fails_after 2; by_quick = passes_after 1 }
  pub run_to_0_2 : Reachable gateway (2 ∷ 0 ∷ [])
  pub run_to_1_2 : Reachable gateway (2 ∷ 1 ∷ [])
  pub run_to_1_4_5 : Reachable gateway (5 ∷ 4 ∷ 1 ∷ [])
  pub no_run_to_1_5 : Reachable gateway (5 ∷ 1 ∷ []) → ⊥
