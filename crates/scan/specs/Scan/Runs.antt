-- How runs go on from one position of a text to the next.
use Rattle.std.specs.Prelude.{ℕ, zero, suc, ◌+◌, ◌-◌, ◌≤◌, ◌<◌, ◌≡◌, true, false, not, List, [], ◌∷◌, length, get_or, drop, eqb}
use Rattle.std.proofs.Common.{suc-le-suc, ap, ◌∙◌, add-one, arith, length-drop, drop_of_length-le, ne_eqb}
use Rattle.std.proofs.Math.Seq.{drop-cons, take_all}
use Rattle.std.proofs.lemmas.List.Sums.{prefix_len-le-length}
use Rattle.scan.specs.declared.Class.{Class}
use Rattle.scan.specs.declared.Class.TheVariants.{Plain}
use Rattle.scan.specs.Scan.{belongs, run, part_of}

module _ (b : ℕ) (p : b ≡ 34 → ⊥) (q : b ≡ 44 → ⊥) (r : b ≡ 13 → ⊥) where
  pub plain_last : belongs Plain b ≡ not (eqb b 10)
  plain_last = simp (ne_eqb b _ p, ne_eqb b _ q, ne_eqb b _ r)

pub plain_above : (b : ℕ) → 44 < b → belongs Plain b ≡ true
plain_above b h = plain_last b (λ e. omega (arith, e)) (λ e. omega (arith, e)) (λ e. omega (arith, e)) ∙ ap not (ne_eqb b 10 (λ e. omega (arith, e)))

module _ (c : Class) (l : List ℕ) (i : ℕ) where
  pub run_step : i < length l → belongs c (get_or l i 0) ≡ true → run c (drop i l) ≡ 1 + run c (drop (i + 1) l)
  unfolding run
  run_step h m = rw (add-one, drop-cons l i 0) (simp m)

  pub run_stop : i < length l → belongs c (get_or l i 0) ≡ false → run c (drop i l) ≡ 0
  unfolding run
  run_stop h m = rw (drop-cons l i 0) (simp m)

  pub run_out : length l ≤ i → run c (drop i l) ≡ 0
  unfolding run
  run_out h = rw (drop_of_length-le l)

pub run_counted : (c : Class) (s : List ℕ) (i : ℕ) → run c (part_of s i (length s)) ≡ run c (drop i s)
run_counted c s i = ap (run c) (take_all (length s - i) (drop i s) (omega (arith, length-drop i s)))

pub run_most : (c : Class) (l : List ℕ) → run c l ≤ length l
unfolding run
run_most c l = prefix_len-le-length (belongs c) l

-- a byte that is not 0 stands within the list
pub in_range : (l : List ℕ) (i : ℕ) → 0 < get_or l i 0 → i < length l
in_range [] i h = absurd (omega arith)
in_range (x ∷ l) zero h = omega arith
in_range (x ∷ l) (suc i) h = suc-le-suc (in_range l i h)
