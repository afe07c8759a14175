-- Demand 3: on every stack that a run from an entry node can reach, of any height, quick inspection by the solver's sets answers as full
-- inspection and looks at no more frames; so what a verdict says of a check holds on each such stack.
use Rattle.std.specs.Prelude.{ℕ, ◌<◌, ◌≤◌, ◌≡◌, List, [], ◌∷◌, Bool, true, false, get_or}
use Rattle.std.proofs.Math.Path.{refl}
use Rattle.std.proofs.Common.{sym, ◌∙◌, ap, arith}
use Rattle.std.proofs.lemmas.Bool.{not-true, not-false}
use Rattle.truth.specs.Truth.Bools.{by_split, clash}
use Rattle.sets.specs.Sets.{has}
use Rattle.graph.specs.Graph.{Graph, is_check, check, privileged, grants, Acceptable, may, sure, Outs, Arrival, arriving, in_set, call_set, LeastMay, GreatestSure, denied_set, granted_set, verdict_of, Slices, held, Content, Sound}
use Rattle.graph.specs.Graph.Arrivals.{Arrives, by_mark, by_edge, arriving_mark, arriving_edge}
use Rattle.graph.specs.Graph.Edges.{call_privileged, call_at_most}
use Rattle.graph.proofs.Graph.Edges.{in_may}
use Rattle.graph.proofs.Graph.Rounds.{least_granted}
use Rattle.graph.specs.Graph.Rules.{check_low}
use Rattle.graph.specs.Graph.Code.{denied_code, granted_code, verdict_code}
use Rattle.stacks.specs.Machine.{rights_of, Inspected, full, quick, Reachable, Agrees}
use Rattle.stacks.specs.Machine.Inspections.{full_bottom, full_below, quick_bottom, quick_denies, quick_grants, quick_below}
use Rattle.stacks.proofs.Machine.Inspections.{full_looks}
use Rattle.stacks.proofs.Machine.Frames.{Arrived, Framed, bare, frame, passes_call, call_passes, framed}

-- the least MAY and the greatest SURE solution have the three facts
pub solved_sound : (g : Graph) → Acceptable g → (m s : Outs) → LeastMay g m → GreatestSure g m s → Sound g m s
solved_sound g acc m s a b = record {
  may_enough = λ e p l k t. a.solves e p l k ∙ t;
  may_granted = least_granted g acc m a;
  sure_backed = λ e p l k t. sym (b.solves e p l k) ∙ t;
}

agrees_by : {a b c d : Inspected} → a ≡ c → b ≡ d → c.passes ≡ d.passes → c.looked ≤ d.looked → Agrees a b
agrees_by {a} {b} {c} {d} p q e l = rw (p, q) (record { answer = e; frames = l })

-- ---- quick inspection agrees with full inspection on every stack whose frames came so

module _ (g : Graph) (acc : Acceptable g) (m s : Outs) (sound : Sound g m s) (den gra : List ℕ)
    (denies : (n p : ℕ) → n < g.size.n → p < g.size.k → has (get_or den n 0) p ≡ denied_set g m n p)
    (grants_set : (n p : ℕ) → n < g.size.n → p < g.size.k → has (get_or gra n 0) p ≡ granted_set g s n p) where
  -- what arrives at a node by MAY's out sets it grants
  in_granted : (n p : ℕ) → p < g.size.k → in_set g may m n p ≡ true → grants g n p ≡ true
  in_granted n p k t = let r = (in_may g m n p).0 t in by r.0 r.1 r.2
    where
      by : (a : Arrival) → Arrives g n a → arriving g m n a p ≡ true → grants g n p ≡ true
      by a (by_mark _) u = sym (arriving_mark g m n p) ∙ u
      by a (by_edge e l q) u = rw q at (sound.may_granted e p l k (sym (arriving_edge g m n e p) ∙ u))

  not_denied : (n p : ℕ) → n < g.size.n → p < g.size.k → has (get_or den n 0) p ≡ false → call_set g may m n p ≡ true
  not_denied n p l k f = not-false _ (sym (denied_code g m n p) ∙ sym (denies n p l k) ∙ f)

  is_denied : (n p : ℕ) → n < g.size.n → p < g.size.k → has (get_or den n 0) p ≡ true → call_set g may m n p ≡ false
  is_denied n p l k t = not-true _ (sym (denied_code g m n p) ∙ sym (denies n p l k) ∙ t)

  is_granted : (n p : ℕ) → n < g.size.n → p < g.size.k → has (get_or gra n 0) p ≡ call_set g sure s n p
  is_granted n p l k = grants_set n p l k ∙ granted_code g s n p

  -- a frame that neither set decides is one that full inspection goes past
  undecided : (n p : ℕ) → n < g.size.n → p < g.size.k → has (get_or den n 0) p ≡ false → has (get_or gra n 0) p ≡ false → (grants g n p ≡ true) × (privileged g n p ≡ false)
  undecided n p l k d a =
      let c = not_denied n p l k d in
      by_split (privileged g n p)
      (λ v. clash (is_granted n p l k ∙ (call_privileged g sure s n p v).1 ((call_privileged g may m n p v).0 c)) a)
      (λ v. (in_granted n p k (call_at_most g may m n p v c), v))

  -- what the two sets of the top frame say of an inspection
  module _ {n : ℕ} {r : List ℕ} (l : n < g.size.n) (a : Arrived g m s n r) (p : ℕ) (k : p < g.size.k) where
    pub granted_passes : has (get_or gra n 0) p ≡ true → (full (rights_of g) p (n ∷ r)).passes ≡ true
    granted_passes t = call_passes g m s n r a p k (sym (is_granted n p l k) ∙ t)

    pub denied_fails : has (get_or den n 0) p ≡ true → (full (rights_of g) p (n ∷ r)).passes ≡ false
    denied_fails t = by_split (full (rights_of g) p (n ∷ r)).passes (λ u. clash (passes_call g m s n r a p k u) (is_denied n p l k t)) (λ u. u)

  pub agrees : {x : List ℕ} → Framed g m s x → (p : ℕ) → p < g.size.k → Agrees (quick den gra p x) (full (rights_of g) p x)
  agrees bare p k = agrees_by (quick_bottom den gra p) (full_bottom (rights_of g) p) refl (omega arith)
  agrees (frame {n} {r} l a w f) p k = go (agrees f p k)
    where
      go : Agrees (quick den gra p r) (full (rights_of g) p r) → Agrees (quick den gra p (n ∷ r)) (full (rights_of g) p (n ∷ r))
      go h =
          by_split (has (get_or den n 0) p)
          (λ d. agrees_by (quick_denies den gra p n r d) refl (sym (denied_fails l a p k d)) (full_looks (rights_of g) p n r))
          (λ d.
          by_split (has (get_or gra n 0) p)
          (λ t. agrees_by (quick_grants den gra p n r d t) refl (sym (granted_passes l a p k t)) (full_looks (rights_of g) p n r))
          (λ t.
          let u = undecided n p l k d t in
          agrees_by (quick_below den gra p n r d t) (full_below (rights_of g) p n r u.0 u.1) h.answer (omega (arith, h.frames))))

-- ---- the verdict's numbers, turned round

-- which of the two sets has the permission, where the verdict is n
abbrev sides : ℕ → Bool × Bool
sides n = get_or ((false, false) ∷ (false, true) ∷ (true, false) ∷ (true, true) ∷ []) n (false, false)

sides_of : (d a : Bool) → sides (verdict_of d a) ≡ (d, a)
sides_of false false = rw verdict_code.0
sides_of false true = rw verdict_code.1
sides_of true false = rw verdict_code.2
sides_of true true = rw verdict_code.3

verdict_means : (d a : Bool) {n : ℕ} → verdict_of d a ≡ n → (d ≡ (sides n).0) × (a ≡ (sides n).1)
verdict_means d a v = let e = sym (sides_of d a) ∙ ap sides v in (ap (λ (x : Bool × Bool). x.0) e, ap (λ (x : Bool × Bool). x.1) e)

module _ (d a : Bool) where
  passes_means : verdict_of d a ≡ 1 → a ≡ true
  passes_means v = (verdict_means d a v).1

  fails_means : verdict_of d a ≡ 2 → d ≡ true
  fails_means v = (verdict_means d a v).0

  reached_means : verdict_of d a ≡ 3 → (d ≡ true) × (a ≡ true)
  reached_means v = verdict_means d a v

-- ---- Demand 3, for an accepted graph and the content of its own slices

module _ (g : Graph) (acc : Acceptable g) (x : Slices) (c : Content g x) where
  sound : Sound g (held x.may_out) (held x.sure_out)
  sound = solved_sound g acc (held x.may_out) (held x.sure_out) c.least c.greatest

  pub demand3 : {st : List ℕ} → Reachable g st → (p : ℕ) → p < g.size.k → Agrees (quick x.denied x.granted p st) (full (rights_of g) p st)
  demand3 h = agrees g acc (held x.may_out) (held x.sure_out) sound x.denied x.granted c.denies c.grants (framed g acc (held x.may_out) (held x.sure_out) sound h)

  -- the verdict at the check n
  pub verdict_at : ℕ → ℕ
  verdict_at n = verdict_of (has (get_or x.denied n 0) (check g n)) (has (get_or x.granted n 0) (check g n))

  pub verdict_at_is : (n : ℕ) → verdict_at n ≡ verdict_of (has (get_or x.denied n 0) (check g n)) (has (get_or x.granted n 0) (check g n))
  unfolding verdict_at
  verdict_at_is n = refl

  -- on every reachable stack with the check n on top
  module _ {n : ℕ} {r : List ℕ} (h : Reachable g (n ∷ r)) (at : is_check g n ≡ true) where
    -- the check's permission in the granted set passes, and in the denied set fails
    sets_tell : (has (get_or x.granted n 0) (check g n) ≡ true → (full (rights_of g) (check g n) (n ∷ r)).passes ≡ true)
        × (has (get_or x.denied n 0) (check g n) ≡ true → (full (rights_of g) (check g n) (n ∷ r)).passes ≡ false)
    sets_tell = go (framed g acc (held x.may_out) (held x.sure_out) sound h)
      where
        go : Framed g (held x.may_out) (held x.sure_out) (n ∷ r)
            → (has (get_or x.granted n 0) (check g n) ≡ true → (full (rights_of g) (check g n) (n ∷ r)).passes ≡ true)
            × (has (get_or x.denied n 0) (check g n) ≡ true → (full (rights_of g) (check g n) (n ∷ r)).passes ≡ false)
        go (frame l a w f) =
            let low = check_low g acc n l at in (
              granted_passes g acc (held x.may_out) (held x.sure_out) sound x.denied x.granted c.denies c.grants l a (check g n) low,
              denied_fails g acc (held x.may_out) (held x.sure_out) sound x.denied x.granted c.denies c.grants l a (check g n) low,
            )

    pub always_passes : verdict_at n ≡ 1 → (full (rights_of g) (check g n) (n ∷ r)).passes ≡ true
    unfolding verdict_at
    always_passes v = sets_tell.0 (passes_means _ _ v)

    pub always_fails : verdict_at n ≡ 2 → (full (rights_of g) (check g n) (n ∷ r)).passes ≡ false
    unfolding verdict_at
    always_fails v = sets_tell.1 (fails_means _ _ v)

    pub never_reached : verdict_at n ≡ 3 → ⊥
    unfolding verdict_at
    never_reached v = let b = reached_means _ _ v in clash (sets_tell.0 b.1) (sets_tell.1 b.0)
