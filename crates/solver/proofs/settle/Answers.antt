-- After `begin` and `fill` all nodes are on the stack with the sums that they begin with, so the walk may start (`walk_begins`).
use Rattle.std.specs.Prelude.{◌≡◌, ℕ, Bool, List, length, refl}
use Rattle.std.proofs.Common.{arith}
use Rattle.std.proofs.Math.ListN.{length-replicate, get_or-replicate}
use Rattle.graph.specs.Graph.{System, PerNode}
use Rattle.worklist.specs.Worklist.Stack.{fills_all}
use Rattle.flow.proofs.Walk.Taken.{walk_begins}
use Rattle.sums.specs.Sums.{Begins, begun, kept}
use Rattle.sums.specs.Sums.Laws.{begins_begun}
use Rattle.solver.proofs.settle.Goals as goal

begins_long : {y : System} {k n : ℕ} {nodes : PerNode (List ℕ)} {s q s' q' : List ℕ} {r : Bool} → Begins y k n nodes s q r s' q' → (length s' ≡ length s) × (length q' ≡ length q)
begins_long (begun _ b) = (b.ins_long, b.past_long)
begins_long (kept _) = (refl, refl)

pub walk-requires-clause-walking : goal.walk-requires-clause-walking
walk-requires-clause-walking c =
    let b = c.begin.ensures.begun in
    let f = c.fill in
    let acc = c.requires.walkable.setting.acc in
    let sums = c.requires.sums in
    let long = begins_long b in
    let nodes = acc.shape.nodes in
    let high = acc.shape.ranges.n_high in
    let marks = length-replicate {A = ℕ} 1024 1 in
    let places = length-replicate {A = ℕ} 1024 0 in
    walk_begins _ _ _ _ _ _ _ _ acc (begins_begun _ _ _ _ _ _ (record {
      ins_long = sums.ins_long;
      past_long = sums.past_long;
      checks_long = omega (arith, nodes.checks);
      entries_long = omega (arith, nodes.entries);
      grants_long = omega (arith, nodes.grants);
    }) b) (omega (arith, long.0, sums.ins_long)) (omega (arith, long.1, sums.past_long)) (omega (arith, marks, high)) (omega (arith, f.auto.stack, high))
    (λ j l. get_or-replicate 1024 j 1 0 l) (fills_all _ _ (omega (arith, places, high)) (omega (arith, high)) f.ensures)
