-- What an array holds that was made by repetition, and that arrays with room and 0 in every place are one content.
use Rattle.std.specs.Prelude.{ℕ, ◌≡◌, refl, List, length}
use Rattle.std.proofs.Common.{sym, ◌∙◌, arith}
use Rattle.std.proofs.Math.ListN.{replicate, get_or-eq_default}
use Rattle.std.proofs.Math.Logic.{dite}
use Rattle.std.proofs.Math.Decide.{dec_lt}
use Rattle.std.proofs.lemmas.List.{get_or-replicate, length-replicate, ext_get_or}
use Rattle.extent.specs.declared.Slots.{Slots}
use Rattle.extent.specs.Room.{Zeros, Clear, node_slots, edge_slots}

pub zeros : (n : ℕ) → Zeros (replicate n 0)
zeros n i = dite (dec_lt i n) (λ h. get_or-replicate n i 0 0 h) (λ h. get_or-eq_default (replicate n 0) 0 (omega (arith, length-replicate {A = ℕ} n 0)))

zeros_one : {n : ℕ} {a b : List ℕ} → length a ≡ n → length b ≡ n → Zeros a → Zeros b → a ≡ b
zeros_one {a = a} {b = b} la lb za zb = ext_get_or 0 a b (la ∙ sym lb) (λ i _. za i ∙ sym (zb i))

pub clear_one : {x y : Slots} → Clear x → Clear y → (node_slots x.nodes ≡ node_slots y.nodes) × (edge_slots x.edges ≡ edge_slots y.edges)
clear_one c d =
    let (n, e) = c.room in
    let (m, f) = d.room in (
      rw (
        zeros_one n.kinds m.kinds c.nodes.kinds d.nodes.kinds,
        zeros_one n.checks m.checks c.nodes.checks d.nodes.checks,
        zeros_one n.privileged m.privileged c.nodes.privileged d.nodes.privileged,
        zeros_one n.entries m.entries c.nodes.entries d.nodes.entries,
        zeros_one n.grants m.grants c.nodes.grants d.nodes.grants,
      ) refl,
      rw (
        zeros_one e.froms f.froms c.edges.froms d.edges.froms,
        zeros_one e.tos f.tos c.edges.tos d.edges.tos,
        zeros_one e.ways f.ways c.edges.ways d.edges.ways,
      ) refl,
    )
