-- The lists of edges: what their ends are, and how they grow by an edge.
use Prim.Native.Nat.{ℕ, zero, suc, ◌+◌, ◌≤◌, ◌<◌}
use Rattle.std.specs.Prelude.{◌≡◌, List, Bool, true, length, set}
use Rattle.std.proofs.Math.Path.{refl, ap}
use Rattle.std.proofs.Common.{sym, ◌∙◌, ⊎_elim, not-suc-le-zero, le_of_suc-le-suc, eq-or-lt_of_le, eq-eqb, ne_eqb, get_or-set_same, get_or-set_other}
use Rattle.std.proofs.Math.Numerals.{add-one}
use Rattle.std.proofs.Math.Decide.{ℕ_discrete}
use native.Mathlib.Omega.{arith}
use borrow.Author.Count.{below_none}
use Rattle.std.proofs.Math.ListN.{get_or, length-set}
use Rattle.worklist.specs.Worklist.{last, Linked, Lists, lists, link_one, link_to, Linkable, Links, linked, kept}
use Rattle.worklist.specs.Worklist.Filled.{set_more}

module _ (froms : List ℕ) (n i : ℕ) where
  pub last_here : get_or froms i 0 ≡ n → last froms n (suc i) ≡ suc i
  unfolding last
  last_here q = rw (eq-eqb (get_or froms i 0) n q)

  pub last_past : (get_or froms i 0 ≡ n → ⊥) → last froms n (suc i) ≡ last froms n i
  unfolding last
  last_past q = rw (ne_eqb (get_or froms i 0) n q)

module _ (froms : List ℕ) (n : ℕ) where
  pub last_upper : (i e : ℕ) → e < i → get_or froms e 0 ≡ n → e < last froms n i
  last_upper zero e l q = absurd (not-suc-le-zero l)
  last_upper (suc i) e l q = go (λ b. last_upper i e b q) (ℕ_discrete (get_or froms i 0) n)
    where
      go : (e < i → e < last froms n i) → Dec (get_or froms i 0 ≡ n) → e < last froms n (suc i)
      go ih (yes p) = rw (last_here froms n i p) l
      go ih (no p) = rw (last_past froms n i p) (⊎_elim (λ z. absurd (p (ap (λ (j : ℕ). get_or froms j 0) (sym z) ∙ q))) ih (eq-or-lt_of_le (le_of_suc-le-suc l)))

  pub last_own : (i e : ℕ) → last froms n i ≡ suc e → (e < i) × (get_or froms e 0 ≡ n)
  unfolding last
  last_own zero e h = absurd (omega arith)
  last_own (suc i) e h = go (last_own i e) (ℕ_discrete (get_or froms i 0) n)
    where
      go : (last froms n i ≡ suc e → (e < i) × (get_or froms e 0 ≡ n)) → Dec (get_or froms i 0 ≡ n) → (e < suc i) × (get_or froms e 0 ≡ n)
      go ih (yes p) =
          let z : i ≡ e = omega (arith, h, last_here froms n i p) in
          (omega arith, ap (λ (j : ℕ). get_or froms j 0) (sym z) ∙ p)
      go ih (no p) =
          let r = ih (sym (last_past froms n i p) ∙ h) in
          (omega (arith, r.0), r.1)

  pub last_le : (i : ℕ) → last froms n i ≤ i
  unfolding last
  last_le zero = omega arith
  last_le (suc i) = go (last_le i) (ℕ_discrete (get_or froms i 0) n)
    where
      go : last froms n i ≤ i → Dec (get_or froms i 0 ≡ n) → last froms n (suc i) ≤ suc i
      go ih (yes p) = rw (last_here froms n i p) (omega arith)
      go ih (no p) = rw (last_past froms n i p) (omega arith)

module _ (froms : List ℕ) (n : ℕ) (head prev : List ℕ) where
  pub link_none : ((i : ℕ) → i < n → get_or head i 0 ≡ 0) → Linked froms n head prev 0
  unfolding last
  link_none h = record { heads = h; prevs = below_none _ }

  pub link_step : (e : ℕ) → e < length prev → n ≤ length head → get_or froms e 0 < n → Linked froms n head prev e
      → Linked froms n (set head (get_or froms e 0) (e + 1)) (set prev e (get_or head (get_or froms e 0) 0)) (e + 1)
  link_step e lp lh la w =
      record {
        heads = λ i l. go i l (ℕ_discrete (get_or froms e 0) i);
        prevs = set_more (λ j. last froms (get_or froms j 0) j) prev e _ lp (w.heads _ la) w.prevs;
      }
    where
      go : (i : ℕ) → i < n → Dec (get_or froms e 0 ≡ i) → get_or (set head (get_or froms e 0) (e + 1)) i 0 ≡ last froms i (e + 1)
      go i l (yes q) = rw (q, add-one e, last_here froms i e q) (get_or-set_same head i (suc e) 0 (omega arith))
      go i l (no q) = rw (add-one e, last_past froms i e q) (get_or-set_other head _ i (suc e) 0 (λ z. q (sym z)) ∙ w.heads i l)

-- ---- what `link` stores

module _ (froms : List ℕ) where
  pub link_more : (i : ℕ) (x : Lists) → link_to froms (i + 1) x ≡ link_one froms i (link_to froms i x)
  unfolding link_to
  link_more i x = ap (λ (j : ℕ). link_to froms j x) (add-one i)

  pub head_long : (i : ℕ) (x : Lists) → length (link_to froms i x).head ≡ length x.head
  unfolding link_to
  head_long zero x = refl
  head_long (suc i) x = length-set (link_to froms i x).head (get_or froms i 0) (i + 1) ∙ head_long i x

  pub prev_long : (i : ℕ) (x : Lists) → length (link_to froms i x).prev ≡ length x.prev
  unfolding link_to
  prev_long zero x = refl
  prev_long (suc i) x = length-set (link_to froms i x).prev i (get_or (link_to froms i x).head (get_or froms i 0) 0) ∙ prev_long i x

  pub links_by : (head prev : List ℕ) (x : Lists) → Linkable froms (length head) (length prev) → x ≡ link_to froms (length froms) (lists head prev) → Links froms head prev true x
  links_by head prev x h e = rw e (linked h)

  module _ (n : ℕ) (head prev : List ℕ) (empty : (i : ℕ) → i < n → get_or head i 0 ≡ 0) (long : n ≤ length head) (starts : (e : ℕ) → e < length froms → get_or froms e 0 < n) (room : length froms ≤ length prev) where
    linked_to : (i : ℕ) → i ≤ length froms → Linked froms n (link_to froms i (lists head prev)).head (link_to froms i (lists head prev)).prev i
    unfolding link_to
    linked_to zero l = link_none froms n head prev empty
    linked_to (suc i) l =
        rw (← add-one i)
        (link_step froms n (link_to froms i (lists head prev)).head (link_to froms i (lists head prev)).prev i (omega (arith, prev_long i (lists head prev)))
        (omega (arith, head_long i (lists head prev))) (starts i (omega arith)) (linked_to i (omega arith)))

    -- lists that were empty, of edges that leave nodes, are linked
    pub links_linked : length froms ≤ 65535 → {r : Bool} {x : Lists} → Links froms head prev r x → Linked froms n x.head x.prev (length froms)
    links_linked few (linked _) = linked_to (length froms) (omega arith)
    links_linked few (kept d) = absurd (d (record { room = room; few = few; starts = λ e l. omega (arith, starts e l) }))

-- ---- one answer, and one content

pub links_one : {froms head prev : List ℕ} {a b : Bool} {x y : Lists} → Links froms head prev a x → Links froms head prev b y → (a ≡ b) × (x ≡ y)
links_one (linked h) (linked k) = (refl, refl)
links_one (linked h) (kept k) = absurd (k h)
links_one (kept h) (linked k) = absurd (h k)
links_one (kept h) (kept k) = (refl, refl)
