-- Copies of the first places of a slice.
use Rattle.std.specs.Prelude.{ℕ, suc, ◌+◌, ◌-◌, ◌≤◌, ◌<◌, ◌≡◌, List, ◌++◌, length, get_or, take, drop, set}
use Rattle.std.proofs.Common.{sym, add-one, sub-eq-zero_of_le, arith, drop-cons, zero-add}
use Rattle.std.proofs.Math.Nat.{sub-zero}
use Rattle.std.proofs.lemmas.List.{length-take-le}
use Rattle.std.proofs.lemmas.List.Edits.{sets, sets-eq}

pub copied : {A : Type 0} (to from : List A) (n : ℕ) → n ≤ length from → n ≤ length to → take n from ++ drop n to ≡ sets to 0 (take n from)
copied to from n h k =
    let l : length (take n from) ≡ n = length-take-le n from h in
    let e = sets-eq (take n from) to 0 (omega (arith, l)) in
    sym (simp (zero-add, l) at e)

-- place by place
module _ (from : List ℕ) (n : ℕ) where
  pub copy_start : (to : List ℕ) → sets to 0 (take (n - 0) (drop 0 from)) ≡ sets to 0 (take n from)
  copy_start to = rw sub-zero

  module _ (to : List ℕ) (i : ℕ) where
    pub copy_out : n ≤ i → sets to i (take (n - i) (drop i from)) ≡ to
    copy_out h = rw (sub-eq-zero_of_le h)

    pub copy_step : i < n → i < length from → sets to i (take (n - i) (drop i from)) ≡ sets (set to i (get_or from i 0)) (i + 1) (take (n - (i + 1)) (drop (i + 1) from))
    copy_step h k =
        let q : n - i ≡ suc (n - (i + 1)) = omega arith in
        rw (q, drop-cons from i 0 k) (rw (add-one i))
