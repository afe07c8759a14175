-- What a slice holds under a height.
use Rattle.std.specs.Prelude.{ℕ, zero, suc, ◌<◌, ◌≤◌, ◌+◌, ◌-◌, ◌≡◌, refl, List, [], ◌∷◌, length, get_or, set}
use Rattle.std.proofs.Common.{◌∙◌, ap, get_or-set_same, get_or-set_other, arith}
use Rattle.stacks.specs.Machine.{stack_of}

below_set : (st : List ℕ) (v p h : ℕ) → h ≤ p → stack_of (set st p v) h ≡ stack_of st h
unfolding stack_of
below_set st v p zero l = refl
below_set st v p (suc h) l = rw (get_or-set_other st p h v 0 (λ e. omega (arith, e, l)), below_set st v p h (omega arith)) refl

pub bare : (st : List ℕ) → stack_of st 0 ≡ []
unfolding stack_of
bare st = refl

on_top : (st : List ℕ) (h : ℕ) → stack_of st (h + 1) ≡ get_or st h 0 ∷ stack_of st h
unfolding stack_of
on_top st h = let e : (h + 1 ≡ suc h) = omega arith in rw e refl

pub written : (st : List ℕ) (v p : ℕ) → p < length st → stack_of (set st p v) (p + 1) ≡ v ∷ stack_of st p
written st v p l = on_top (set st p v) p ∙ rw (get_or-set_same st p v 0 l, below_set st v p p (omega arith)) refl

pub topped : (st : List ℕ) (h : ℕ) → 0 < h → stack_of st h ≡ get_or st (h - 1) 0 ∷ stack_of st (h - 1)
topped st h l = let e : (h ≡ h - 1 + 1) = omega arith in ap (stack_of st) e ∙ on_top st (h - 1)

pub topped_twice : (st : List ℕ) (h : ℕ) → 1 < h → stack_of st h ≡ get_or st (h - 1) 0 ∷ get_or st (h - 2) 0 ∷ stack_of st (h - 2)
topped_twice st h l =
    let e : (h - 1 ≡ h - 2 + 1) = omega arith in
    topped st h (omega arith) ∙ ap (λ r. get_or st (h - 1) 0 ∷ r) (ap (stack_of st) e ∙ on_top st (h - 2))

-- ---- the other way: what a stack in a slice says of the slice

pub height_of : (st : List ℕ) (h : ℕ) → length (stack_of st h) ≡ h
unfolding stack_of
height_of st zero = refl
height_of st (suc h) = ap suc (height_of st h)

module _ (st : List ℕ) (h : ℕ) {n : ℕ} {r : List ℕ} (q : n ∷ r ≡ stack_of st h) where
  pub has_top : 0 < h
  has_top = let e = ap length q ∙ height_of st h in omega (arith, e)

  parts : n ∷ r ≡ get_or st (h - 1) 0 ∷ stack_of st (h - 1)
  parts = q ∙ topped st h has_top

  pub its_top : n ≡ get_or st (h - 1) 0
  its_top = ap (λ l. get_or l 0 0) parts

  pub its_rest : r ≡ stack_of st (h - 1)
  its_rest = ap rest parts
    where
      rest : List ℕ → List ℕ
      rest [] = []
      rest (_ ∷ l) = l
