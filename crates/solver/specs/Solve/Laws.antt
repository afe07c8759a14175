-- One answer and one content for every input.
use Rattle.std.specs.Prelude.{◌≡◌, refl}
use Rattle.std.proofs.Common.{ap}
use Rattle.graph.specs.Graph.{Graph, Acceptable, Slices}
use Rattle.graph.proofs.Graph.Results.{content_one}
use Rattle.graph.specs.Refusals.{Numbered}
use Rattle.graph.specs.Refusals.Laws.{numbered_one}
use Rattle.graph.specs.Judge.Laws.{refuses_one, refuses_not}
use Rattle.graph.specs.Refusals.{Judged}
use Rattle.std.specs.Prelude.{Err}
use Rattle.solver.specs.Solve.{Long, SolveRefuses, results, graph, Solves, refused, solved}

module _ (g : Graph) (s : Slices) where
  refusal_one : {x z : Numbered} → SolveRefuses g s x → SolveRefuses g s z → x ≡ z
  refusal_one (results d) (results c) = refl
  refusal_one (results d) (graph l f) = absurd (d l)
  refusal_one (graph l f) (results d) = absurd (d l)
  refusal_one (graph l f) (graph m h) = refuses_one g f h

  refusal_not : {x : Numbered} → SolveRefuses g s x → Long g s → Acceptable g → ⊥
  refusal_not (results d) l a = d l
  refusal_not (graph l f) m a = refuses_not g f a

  -- the answer and the content together
  pub solves_one : {r q : Judged} {t u : Slices} → Solves g s r t → Solves g s q u → (r ≡ q) × (t ≡ u)
  solves_one (refused {r = a} f) (refused {r = b} h) = (ap Err (numbered_one a b (refusal_one f h)), refl)
  solves_one (refused f) (solved l a c) = absurd (refusal_not f l a)
  solves_one (solved l a c) (refused f) = absurd (refusal_not f l a)
  solves_one (solved l a c) (solved m b d) = (refl, content_one g c d)
