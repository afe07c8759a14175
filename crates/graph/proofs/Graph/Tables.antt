-- What a table of a written graph's slices says of every content.
use Rattle.graph.specs.Graph.Tables.{Computed, nth, computed_accepted}
use Rattle.std.specs.Prelude.{ℕ, ◌≡◌, List}
use Rattle.std.proofs.Common.{sym, ◌∙◌, ap}
use Rattle.graph.specs.Graph.{Graph, Slices, held, Content}
use Rattle.graph.specs.Graph.Rounds.{may_rounds, sure_rounds}
use Rattle.graph.specs.Graph.Results.{slices_of}
use Rattle.graph.proofs.Graph.Results.{content_one, content_by_rounds}

module _ (g : Graph) (s : Slices) (i j : ℕ) (c : Computed g s i j) where
  pub computed_content : Content g s
  computed_content = rw whole at (content_by_rounds g (computed_accepted g s i j c) i j (nth g s i j c 1 ∙ sym (nth g s i j c 0)) (rw (nth g s i j c 0) (nth g s i j c 3 ∙ sym (nth g s i j c 2))))
    where
      may_whole : slices_of g (may_rounds g i) (sure_rounds g (held (may_rounds g i)) j) ≡ slices_of g s.may_out (sure_rounds g (held s.may_out) j)
      may_whole = ap (λ (l : List ℕ). slices_of g l (sure_rounds g (held l) j)) (nth g s i j c 0)

      whole : slices_of g (may_rounds g i) (sure_rounds g (held (may_rounds g i)) j) ≡ s
      whole =
          may_whole ∙ ap (λ (l : List ℕ). slices_of g s.may_out l) (nth g s i j c 2)
          ∙ λ t. record { denied = nth g s i j c 4 t; granted = nth g s i j c 5 t; may_out = s.may_out; sure_out = s.sure_out }

  -- whatever a solver may store for g, it is s
  pub computed_one : {t : Slices} → Content g t → t ≡ s
  computed_one h = content_one g h computed_content
