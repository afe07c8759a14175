-- A verdict that the promise shuts out, at the worked gateway: a constant "needed".
use Rattle.std.specs.Prelude.{ℕ, ◌≡◌, true, false, Ok}
use Rattle.std.proofs.Common.{◌∙◌, arith}
use Rattle.sets.specs.Sets.{has}
use Rattle.sets.specs.Sets.Code.{has_code}
use Rattle.graph.specs.Graph.{verdict_of}
use Rattle.graph.specs.Graph.Code.{verdict_code}
use Rattle.graph.specs.Graph.Gateway.{gateway, gateway_slices}
use Rattle.verdict.specs.declared.Finding.TheVariants.{Needed}
use Rattle.verdict.specs.Verdict.{Rules, given}

-- the check at node 5 is not "needed" by the sets that are stored
pub never_needed : Rules gateway gateway_slices.denied gateway_slices.granted 5 (Ok Needed) → ⊥
never_needed (given h) =
    let e : 0 ≡ verdict_of (has 0 0) (has 3 0) = h.number in
    let f : 0 ≡ verdict_of false true = simp has_code at e in
    let g : ◌≡◌ {A = ℕ} 0 1 = f ∙ verdict_code.1 in
    omega arith
