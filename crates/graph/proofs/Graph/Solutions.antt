-- Both systems grow with their sets; each has one solution of the kind asked for; what lies within the grants stays there.
use Rattle.std.specs.Prelude.{ℕ, ◌<◌, ◌≡◌, true}
use Rattle.std.proofs.Common.{sym, ◌∙◌, ⊎_elim}
use Rattle.truth.specs.Truth.Bools.{by_split, same_bool}
use Rattle.graph.specs.Graph.{Graph, is_check, check, privileged, grants, from, to, Acceptable, System, may, sure, Outs, Arrival, arriving, in_set, past_set, out_set, Within, Same, LeastMay, GreatestSure}
use Rattle.graph.specs.Graph.Rules.{check_low, from_low, ways_of, transfer_same}
use Rattle.graph.specs.Graph.Arrivals.{Arrives, by_mark, by_edge, arriving_mark, arriving_edge}
use Rattle.graph.specs.Graph.Edges.{call_edge, transfer_plain, transfer_privileged, transfer_past}
use Rattle.graph.proofs.Graph.Edges.{in_may, in_sure, past_may, past_sure}
use Rattle.graph.specs.Graph.Rule.{out_by_rule, out_rule_mono}

-- ---- both systems grow with their sets

module _ (g : Graph) (w w' : Outs) (y : System) (x x' : Outs) (e p : ℕ)
    (ins : in_set g y x (from g e) p ≡ true → in_set g y x' (from g e) p ≡ true)
    (past : is_check g (from g e) ≡ true → past_set g w y x (from g e) p ≡ true → past_set g w' y x' (from g e) p ≡ true) where
  out_mono : out_set g w y x e p ≡ true → out_set g w' y x' e p ≡ true
  out_mono t = out_by_rule g w' y x' e p ∙ out_rule_mono g e p _ _ _ _ ins past (sym (out_by_rule g w y x e p) ∙ t)

module _ (g : Graph) (x y : Outs) (p : ℕ) (h : (e : ℕ) → e < g.size.m → x e p ≡ true → y e p ≡ true) (n : ℕ) where
  arriving_mono : (a : Arrival) → Arrives g n a → arriving g x n a p ≡ true → arriving g y n a p ≡ true
  arriving_mono a (by_mark _) t = arriving_mark g y n p ∙ sym (arriving_mark g x n p) ∙ t
  arriving_mono a (by_edge e l _) t = arriving_edge g y n e p ∙ h e l (sym (arriving_edge g x n e p) ∙ t)

  in_mono : (s : System) → in_set g s x n p ≡ true → in_set g s y n p ≡ true
  in_mono may t = let r = (in_may g x n p).0 t in (in_may g y n p).1 (r.0, r.1, arriving_mono r.0 r.1 r.2)
  in_mono sure t = (in_sure g y n p).1 (λ a q. arriving_mono a q ((in_sure g x n p).0 t a q))

pub may_mono : (g : Graph) → Acceptable g → (x y : Outs) → Within g x y → Within g (out_set g x may x) (out_set g y may y)
may_mono g acc x y h e p l k = out_mono g x y may x y e p (in_mono g x y p (at p k) n may) past
  where
    n : ℕ
    n = from g e

    at : (q : ℕ) → q < g.size.k → (e : ℕ) → e < g.size.m → x e q ≡ true → y e q ≡ true
    at q j e l = h e q l j

    past : is_check g n ≡ true → past_set g x may x n p ≡ true → past_set g y may y n p ≡ true
    past c t =
        let r = (past_may g x x n p).0 t in
        (past_may g y y n p).1 (r.0, r.1, arriving_mono g x y (check g n) (at (check g n) (check_low g acc n (from_low g acc e l) c)) n r.0 r.1 r.2, arriving_mono g x y p (at p k) n r.0 r.1 r.3)

pub sure_mono : (g : Graph) (m x y : Outs) → Within g x y → Within g (out_set g m sure x) (out_set g m sure y)
sure_mono g m x y h e p l k = out_mono g m m sure x y e p (in_mono g x y p at n sure) past
  where
    n : ℕ
    n = from g e

    at : (e : ℕ) → e < g.size.m → x e p ≡ true → y e p ≡ true
    at e l = h e p l k

    past : is_check g n ≡ true → past_set g m sure x n p ≡ true → past_set g m sure y n p ≡ true
    past c t =
        let r = (past_sure g m x n p).0 t in
        (past_sure g m y n p).1 (record { passing = r.passing; held_by_all = λ d a q u. arriving_mono g x y p at n a q (r.held_by_all d a q u) })

-- ---- what lies within the grants stays there

-- every out set lies within the grants of its edge's to node
abbrev pub Granted : Graph → Outs → Type 0
Granted g x = (e p : ℕ) → e < g.size.m → x e p ≡ true → grants g (to g e) p ≡ true

module _ (g : Graph) (acc : Acceptable g) (x : Outs) (h : Granted g x) where
  arriving_granted : (n p : ℕ) (a : Arrival) → Arrives g n a → arriving g x n a p ≡ true → grants g n p ≡ true
  arriving_granted n p a (by_mark _) t = sym (arriving_mark g x n p) ∙ t
  arriving_granted n p a (by_edge e l q) t = rw q at (h e p l (sym (arriving_edge g x n e p) ∙ t))

  in_granted : (n p : ℕ) → in_set g may x n p ≡ true → grants g n p ≡ true
  in_granted n p t = let r = (in_may g x n p).0 t in arriving_granted n p r.0 r.1 r.2

  pub may_granted : Granted g (out_set g x may x)
  may_granted e p l t =
      ⊎_elim (λ c. ((call_edge g x may x e p c).0 t).1)
      (λ c.
      sym (transfer_same g acc e l c p)
      ∙ by_split (is_check g (from g e))
      (λ k.
      by_split (privileged g (from g e) (check g (from g e)))
      (λ v. in_granted (from g e) p ((transfer_privileged g x may x e p c k v).0 t).1)
      (λ v. let r = (past_may g x x (from g e) p).0 ((transfer_past g x may x e p c k v).0 t) in arriving_granted (from g e) p r.0 r.1 r.3))
      (λ k. in_granted (from g e) p ((transfer_plain g x may x e p c k).0 t))) (ways_of g acc e l)

-- ---- there is one least MAY solution, and one greatest SURE solution

pub may_one : (g : Graph) (m m' : Outs) → LeastMay g m → LeastMay g m' → Same g m m'
may_one g m m' a b e p l k = same_bool (m e p) (m' e p) (a.least m' b.solves e p l k) (b.least m a.solves e p l k)

pub sure_one : (g : Graph) (m s s' : Outs) → GreatestSure g m s → GreatestSure g m s' → Same g s s'
sure_one g m s s' a b e p l k = same_bool (s e p) (s' e p) (b.greatest s a.solves e p l k) (a.greatest s' b.solves e p l k)
