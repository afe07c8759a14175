-- What the solver stores for an accepted graph exists, and is one.
use Rattle.graph.specs.Graph.Results.{stored_one, stored_written, stored_rounds, slices_of}
use Rattle.std.specs.Prelude.{ℕ, suc, ◌≡◌, List, true, false}
use Rattle.std.proofs.Common.{sym, ◌∙◌, ap}
use Rattle.graph.specs.Graph.{Graph, Acceptable, may, sure, out_set, GreatestSure, denied_set, granted_set, Slices, held, Stored, Content}
use Rattle.graph.proofs.Graph.Solutions.{may_one, sure_one}
use Rattle.graph.specs.Graph.Rounds.{held_written, may_rounds, sure_rounds, LeastClosed, GreatestBacked}
use Rattle.graph.proofs.Graph.Rounds.{least_closed, greatest_backed, may_rests, sure_rests, may_at_rest, sure_at_rest}

-- ---- one content

module _ (g : Graph) {s t : Slices} (a : Content g s) (b : Content g t) where
  may_same : s.may_out ≡ t.may_out
  may_same = stored_one g.size.k g.size.m s.may_out t.may_out a.may_stored b.may_stored (may_one g (held s.may_out) (held t.may_out) a.least b.least)

  sure_same : s.sure_out ≡ t.sure_out
  sure_same =
      let c : GreatestSure g (held s.may_out) (held t.sure_out) = rw (sym may_same) at b.greatest in
      stored_one g.size.k g.size.m s.sure_out t.sure_out a.sure_stored b.sure_stored (sure_one g (held s.may_out) (held s.sure_out) (held t.sure_out) a.greatest c)

  denied_same : s.denied ≡ t.denied
  denied_same =
      stored_one g.size.k g.size.n s.denied t.denied a.denied_stored b.denied_stored
      (λ n p l k. a.denies n p l k ∙ ap (λ (x : List ℕ). denied_set g (held x) n p) may_same ∙ sym (b.denies n p l k))

  granted_same : s.granted ≡ t.granted
  granted_same =
      stored_one g.size.k g.size.n s.granted t.granted a.granted_stored b.granted_stored
      (λ n p l k. a.grants n p l k ∙ ap (λ (x : List ℕ). granted_set g (held x) n p) sure_same ∙ sym (b.grants n p l k))

  pub content_one : s ≡ t
  content_one = λ i. record { denied = denied_same i; granted = granted_same i; may_out = may_same i; sure_out = sure_same i }

-- ---- a content

module _ (g : Graph) (acc : Acceptable g) where
  pub content_of : (m s : List ℕ) → Stored g.size.k g.size.m m → Stored g.size.k g.size.m s → LeastClosed g (held m) → GreatestBacked g (held m) (held s) → Content g (slices_of g m s)
  content_of m s hm hs lm gs = record {
    denied_stored = stored_written g.size.k g.size.n (denied_set g (held m));
    granted_stored = stored_written g.size.k g.size.n (granted_set g (held s));
    may_stored = hm;
    sure_stored = hs;
    least = (least_closed g acc (held m)).1 lm;
    greatest = (greatest_backed g (held m) (held s)).1 gs;
    denies = held_written g.size.k g.size.n (denied_set g (held m));
    grants = held_written g.size.k g.size.n (granted_set g (held s));
  }

  -- rounds that are at rest give it
  pub content_by_rounds : (i j : ℕ) → may_rounds g (suc i) ≡ may_rounds g i → sure_rounds g (held (may_rounds g i)) (suc j) ≡ sure_rounds g (held (may_rounds g i)) j
      → Content g (slices_of g (may_rounds g i) (sure_rounds g (held (may_rounds g i)) j))
  content_by_rounds i j r q =
      content_of (may_rounds g i) (sure_rounds g (held (may_rounds g i)) j) (stored_rounds g (λ x. out_set g x may x) false i) (stored_rounds g (out_set g (held (may_rounds g i)) sure) true j)
      (may_at_rest g acc i r) (sure_at_rest g (held (may_rounds g i)) j q)

  pub content_exists : (s : Slices) × Content g s
  content_exists =
      let r = may_rests g acc in
      let q = sure_rests g (held (may_rounds g r.0)) in
      (slices_of g (may_rounds g r.0) (sure_rounds g (held (may_rounds g r.0)) q.0), content_by_rounds r.0 q.0 r.2 q.2)
