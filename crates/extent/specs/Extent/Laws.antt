-- How a text ends, by where its last rows do; and that lengths are judged in one way.
use Rattle.std.specs.Prelude.{◌≡◌, refl, ℕ, ◌≤◌, ◌<◌, Ok, Err}
use Rattle.std.proofs.Common.{arith, lt-ltb, le-ltb}
use Rattle.graph.specs.Graph.{PerNode, PerEdge}
use Rattle.graph.specs.Refusals.{Judged}
use Rattle.graph.specs.declared.Size.{Size}
use Rattle.graph.specs.declared.Refusal.{Refusal}
use Rattle.graph.specs.declared.Refusal.TheVariants as why
use Rattle.extent.specs.Extent.{Ran, end_of, SizesSo, cramped, long, fit}

module _ {ran : Ran} (len extra : ℕ) (c : Size) where
  pub end_wrong : {r : Refusal} → ran ≡ Err r → end_of ran len extra c ≡ Err r
  unfolding end_of
  end_wrong e = simp e

  pub end_more : {q : ℕ} → ran ≡ Ok q → q < len → end_of ran len extra c ≡ Err (why.Row extra)
  unfolding end_of
  end_more e h = simp (e, lt-ltb _ _ h)

  pub end_done : {q : ℕ} → ran ≡ Ok q → len ≤ q → end_of ran len extra c ≡ Ok c
  unfolding end_of
  end_done e h = simp (e, le-ltb _ _ h)

-- one answer
pub sizes_one : {x : PerNode ℕ} {y : PerEdge ℕ} {text : ℕ} {a b : Judged} → SizesSo x y text a → SizesSo x y text b → a ≡ b
sizes_one (cramped f) (cramped h) = refl
sizes_one (cramped f) (long h l) = absurd (f h)
sizes_one (cramped f) (fit h l) = absurd (f h)
sizes_one (long f k) (cramped h) = absurd (h f)
sizes_one (long f k) (long h l) = refl
sizes_one (long f k) (fit h l) = absurd (omega (arith, k, l))
sizes_one (fit f k) (cramped h) = absurd (h f)
sizes_one (fit f k) (long h l) = absurd (omega (arith, k, l))
sizes_one (fit f k) (fit h l) = refl
