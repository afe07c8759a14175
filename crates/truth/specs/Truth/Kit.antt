-- Laws on numbers and lists that the kit has not, used by more than one crate.
use Rattle.std.specs.Prelude.{ℕ, ◌+◌, ◌*◌, ◌%◌, ◌^◌, ◌≤◌, ◌<◌, ◌≡◌, List, length, get_or, take, drop}
use Rattle.std.proofs.Common.{one-mul, mod-eq_of_lt, arith, ext_get_or}
use Rattle.std.proofs.Math.Logic.{dite}
use Rattle.std.proofs.Math.Decide.{dec_lt}
use Rattle.std.proofs.lemmas.List.Edits.{sets, sets-eq}
use Rattle.std.proofs.Math.Seq.{take-append_seam}
use Rattle.std.proofs.Math.Pow.{pow-lt}

-- `1 << p`
pub shl_one : (p : ℕ) → p < 64 → (1 * 2 ^ p) % 2 ^ 64 ≡ 2 ^ p
shl_one p h = rw one-mul (mod-eq_of_lt (pow-lt h))

-- the first places of a slice that was written from its start
pub take_sets : (l vs : List ℕ) → length vs ≤ length l → take (length vs) (sets l 0 vs) ≡ vs
take_sets l vs h =
    let k : 0 + length vs ≤ length l = omega arith in
    rw (sets-eq vs l 0 k) (take-append_seam vs (drop (0 + length vs) l))

-- lists that are the same below a place and from there on
pub same_list : (n : ℕ) (a b : List ℕ) → length a ≡ length b → ((i : ℕ) → i < n → get_or a i 0 ≡ get_or b i 0) → ((i : ℕ) → n ≤ i → get_or a i 0 ≡ get_or b i 0) → a ≡ b
same_list n a b e low high = ext_get_or 0 a b e (λ i _. dite (dec_lt i n) (λ h. low i h) (λ h. high i (omega arith)))
