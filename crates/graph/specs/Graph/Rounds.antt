-- Rounds, each of which computes every edge's out set from the round before, MAY from empty sets and SURE from full ones: those of any system that
-- grows with its sets come to rest at a solution, the first of all that are closed (Knaster and Tarski). That MAY and SURE do is in `Graph/Rounds` of proofs/.
use Prim.Native.Nat.{ℕ, zero, suc, ◌*◌, ◌<◌, ◌≤◌}
use Rattle.std.specs.Prelude.{◌≡◌, Bool, length, get_or}
use Rattle.std.proofs.Math.Path.{refl, sym, ap}
use Rattle.std.proofs.Common.{◌∙◌, ap₂, not-suc-le-zero, le_of_suc-le-suc, arith}
use mathlib.Core.List.{List, [], ◌∷◌}
use Rattle.std.proofs.Math.Bool.{true, false, not, cond}
use Rattle.truth.specs.Truth.Bools.{clash, same_bool}
use Rattle.sets.specs.Sets.{has}
use Rattle.sets.specs.Sets.Pack.{pack, has_pack, pack_same}
use Rattle.graph.specs.Graph.{Graph, may, sure, Outs, out_set, Within, Same, held}
use Rattle.graph.specs.Graph.Growth.{rests}

-- ---- sets written down

-- the list of f 0, f 1 .. up to n of them
unfoldable pub sheet : ℕ → (ℕ → ℕ) → List ℕ
sheet zero f = []
sheet (suc n) f = f 0 ∷ sheet n (λ i. f (suc i))

pub length_sheet : (n : ℕ) (f : ℕ → ℕ) → length (sheet n f) ≡ n
unfolding sheet
length_sheet zero f = refl
length_sheet (suc n) f = ap suc (length_sheet n (λ i. f (suc i)))

pub get_d_sheet : (n : ℕ) (f : ℕ → ℕ) (i : ℕ) → i < n → get_or (sheet n f) i 0 ≡ f i
unfolding sheet
get_d_sheet zero f i h = absurd (not-suc-le-zero h)
get_d_sheet (suc n) f zero h = refl
get_d_sheet (suc n) f (suc i) h = get_d_sheet n (λ i. f (suc i)) i (le_of_suc-le-suc h)

sheet_same : (n : ℕ) (f f' : ℕ → ℕ) → ((i : ℕ) → i < n → f i ≡ f' i) → sheet n f ≡ sheet n f'
unfolding sheet
sheet_same zero f f' h = refl
sheet_same (suc n) f f' h = ap₂ ◌∷◌ (h 0 (omega arith)) (sheet_same n (λ i. f (suc i)) (λ i. f' (suc i)) (λ i l. h (suc i) (omega arith)))

-- n sets of permissions below k
unfoldable pub written : (k n : ℕ) → (ℕ → ℕ → Bool) → List ℕ
written k n x = sheet n (λ i. pack k (x i))

pub held_written : (k n : ℕ) (x : ℕ → ℕ → Bool) (i p : ℕ) → i < n → p < k → held (written k n x) i p ≡ x i p
unfolding written
held_written k n x i p l h = ap (λ (s : ℕ). has s p) (get_d_sheet n (λ i. pack k (x i)) i l) ∙ has_pack k (x i) p h

written_same : (k n : ℕ) (x y : ℕ → ℕ → Bool) → ((i p : ℕ) → i < n → p < k → x i p ≡ y i p) → written k n x ≡ written k n y
unfolding written
written_same k n x y h = sheet_same n _ _ (λ i l. pack_same k (x i) (y i) (λ p j. h i p l j))

-- ---- rounds of any system that grows with its sets

-- rounds of f from out sets that hold all, or none
unfoldable pub rounds : Graph → (Outs → Outs) → Bool → ℕ → List ℕ
rounds g f b zero = written g.size.k g.size.m (λ _ _. b)
rounds g f b (suc i) = written g.size.k g.size.m (f (held (rounds g f b i)))

-- how far x has come from where it began: what was added to none, or taken from all
unfoldable pub gone : Bool → Outs → Outs
gone b x e p = cond b (not (x e p)) (x e p)

module _ (g : Graph) (f : Outs → Outs) (b : Bool) (mono : (x y : Outs) → Within g (gone b x) (gone b y) → Within g (gone b (f x)) (gone b (f y))) where
  R : ℕ → Outs
  R i = held (rounds g f b i)

  start : (e p : ℕ) → e < g.size.m → p < g.size.k → gone b (R zero) e p ≡ false
  unfolding R rounds gone
  start e p l k = go b (held_written g.size.k g.size.m (λ _ _. b) e p l k)
    where
      go : (c : Bool) → held (written g.size.k g.size.m (λ _ _. b)) e p ≡ c → cond c (not (held (written g.size.k g.size.m (λ _ _. b)) e p)) (held (written g.size.k g.size.m (λ _ _. b)) e p) ≡ false
      go true t = ap not t
      go false t = t

  next : (i e p : ℕ) → e < g.size.m → p < g.size.k → gone b (R (suc i)) e p ≡ gone b (f (R i)) e p
  unfolding R rounds gone
  next i e p l k = ap (λ (t : Bool). cond b (not t) t) (held_written g.size.k g.size.m (f (held (rounds g f b i))) e p l k)

  -- the rounds stay within whatever is closed
  rounds_below : (z : Outs) → Within g (gone b (f z)) (gone b z) → (i : ℕ) → Within g (gone b (R i)) (gone b z)
  rounds_below z h zero e p l k t = clash t (start e p l k)
  rounds_below z h (suc i) e p l k t = h e p l k (mono (R i) z (rounds_below z h i) e p l k (sym (next i e p l k) ∙ t))

  rounds_grow : (i : ℕ) → Within g (gone b (R i)) (gone b (R (suc i)))
  rounds_grow zero e p l k t = clash t (start e p l k)
  rounds_grow (suc i) e p l k t = next (suc i) e p l k ∙ mono (R i) (R (suc i)) (rounds_grow i) e p l k (sym (next i e p l k) ∙ t)

  -- a list that was written is fixed by its pairs
  rewritten : (i : ℕ) → written g.size.k g.size.m (R i) ≡ rounds g f b i
  unfolding R rounds
  rewritten zero = written_same g.size.k g.size.m _ _ (held_written g.size.k g.size.m (λ _ _. b))
  rewritten (suc i) = written_same g.size.k g.size.m _ _ (held_written g.size.k g.size.m (f (held (rounds g f b i))))

  back : (x y : Outs) (e p : ℕ) → gone b x e p ≡ gone b y e p → x e p ≡ y e p
  unfolding gone
  back x y e p = go b
    where
      flip : (s t : Bool) → not s ≡ not t → s ≡ t
      flip true true q = refl
      flip true false q = sym q
      flip false true q = sym q
      flip false false q = refl

      go : (c : Bool) → cond c (not (x e p)) (x e p) ≡ cond c (not (y e p)) (y e p) → x e p ≡ y e p
      go true q = flip (x e p) (y e p) q
      go false q = q

  pub rounds_rest : (j : ℕ) × (j ≤ g.size.m * g.size.k) × (rounds g f b (suc j) ≡ rounds g f b j)
  rounds_rest =
      let r = rests g (λ i. gone b (R i)) rounds_grow in
      let j = r.0 in
      (j, r.1, sym (rewritten (suc j)) ∙ written_same g.size.k g.size.m (R (suc j)) (R j) (λ e p l k. back (R (suc j)) (R j) e p (same_bool _ _ (r.2 e p l k) (rounds_grow j e p l k))) ∙ rewritten j)

  -- rounds at rest are a solution, and the first of all that are closed
  module _ (j : ℕ) (rest : rounds g f b (suc j) ≡ rounds g f b j) where
    pub rest_solves : Same g (held (rounds g f b j)) (f (held (rounds g f b j)))
    unfolding rounds
    rest_solves e p l k = ap (λ (t : List ℕ). held t e p) (sym rest) ∙ held_written g.size.k g.size.m (f (held (rounds g f b j))) e p l k

    pub rest_first : (z : Outs) → Within g (gone b (f z)) (gone b z) → Within g (gone b (held (rounds g f b j))) (gone b z)
    unfolding R
    rest_first z h = rounds_below z h j

-- ---- MAY from empty sets, SURE from full ones

abbrev pub may_rounds : Graph → ℕ → List ℕ
may_rounds g = rounds g (λ x. out_set g x may x) false

abbrev pub sure_rounds : Graph → Outs → ℕ → List ℕ
sure_rounds g m = rounds g (out_set g m sure) true

-- Of all out sets that hold at least what their equations give, a solution that is the least; of all that hold at most what theirs
-- give, one that is the greatest.
pub record LeastClosed (g : Graph) (m : Outs) : Type 0 where
  pub solves : Same g m (out_set g m may m)
  pub least : (x : Outs) → Within g (out_set g x may x) x → Within g m x

pub record GreatestBacked (g : Graph) (m s : Outs) : Type 0 where
  pub solves : Same g s (out_set g m sure s)
  pub greatest : (x : Outs) → Within g x (out_set g m sure x) → Within g x s
