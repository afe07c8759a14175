-- What a walk has come to when nothing is left to tell.
use Prim.Native.Nat.{ℕ, ◌<◌}
use Rattle.std.specs.Prelude.{◌≡◌, List}
use Rattle.std.proofs.Math.ListN.{get_or}
use Rattle.graph.specs.Graph.{Graph, System}
use Rattle.flow.specs.Walk.{carried, Setting, Good, Quiet}

-- the out sets l are what the edges carry by the sums s and q, and no edge has anything more to tell
pub record Settled (g : Graph) (y : System) (w a s q l : List ℕ) : Type 0 where
  pub setting : Setting g y w a
  pub good : Good g y w s q
  pub quiet : (e : ℕ) → e < g.size.m → Quiet g y w a s q e
  pub stored : (e : ℕ) → e < g.size.m → get_or l e 0 ≡ carried g y a s q e
