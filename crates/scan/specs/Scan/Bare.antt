-- Bytes that a field without quotes may hold, met one by one.
use Rattle.std.specs.Prelude.{ℕ, ◌+◌, ◌-◌, ◌<◌, ◌≡◌, refl, true, false, List, [], ◌∷◌, ◌++◌, length, get_or, take, drop}
use Rattle.std.proofs.Common.{ap, sym, ◌∙◌, add-one, arith, drop-cons}
use Rattle.scan.specs.declared.Class.TheVariants.{Plain}
use Rattle.scan.specs.Scan.{belongs, run, part_of}
use Rattle.scan.specs.Scan.Runs.{plain_above, run_step, run_stop, in_range}

-- A byte that a field without quotes may hold, not 0, which is also what lies past the end of a text.
pub record Calm (b : ℕ) : Type 0 where
  pub there : 0 < b
  pub plain : belongs Plain b ≡ true

pub calm_above : {b : ℕ} → 44 < b → Calm b
calm_above {b} h = record { there = omega arith; plain = plain_above b h }

pub calm_space : Calm 32
calm_space = record { there = omega arith; plain = refl }

-- From `at` up to e stand the bytes w.
pub data Bare (s : List ℕ) : ℕ → List ℕ → ℕ → Type 0 where
  none : {at : ℕ} → Bare s at [] at
  byte : {at p b e : ℕ} {w : List ℕ} → p ≡ at + 1 → get_or s at 0 ≡ b → Calm b → Bare s p w e → Bare s at (b ∷ w) e

-- bytes, and then more bytes
pub bare_then : {s : List ℕ} {at p e : ℕ} {v w : List ℕ} → Bare s at v p → Bare s p w e → Bare s at (v ++ w) e
bare_then none y = y
bare_then (byte i q k x) y = byte i q k (bare_then x y)

module _ (s : List ℕ) where
  pub stands : {at b : ℕ} → get_or s at 0 ≡ b → Calm b → at < length s
  stands {at} q k = in_range s at (omega (arith, q, k.there))

  pub bare_run : {at e : ℕ} {w : List ℕ} → Bare s at w e → 0 < get_or s e 0 → belongs Plain (get_or s e 0) ≡ false → at + run Plain (drop at s) ≡ e
  bare_run {at} none h p = let z = run_stop Plain s at (in_range s at h) p in omega (arith, z)
  bare_run {at} {e} (byte i q k r) h p =
      let z = run_step Plain s at (stands q k) (ap (belongs Plain) q ∙ k.plain) in
      let y = bare_run r h p in
      let x = ap (λ (j : ℕ). run Plain (drop j s)) i in
      omega (arith, z, y, x, i)

  pub bare_long : {at e : ℕ} {w : List ℕ} → Bare s at w e → e ≡ at + length w
  bare_long none = omega arith
  bare_long (byte i q k r) = let z = bare_long r in omega (arith, z, i)

  part : {at e : ℕ} {w : List ℕ} → Bare s at w e → take (length w) (drop at s) ≡ w
  part none = refl
  part {at} (byte {b = b} {w = w} i q k r) = rw (drop-cons s at 0 (stands q k), q) (ap (λ (l : List ℕ). b ∷ l) (ap (λ (j : ℕ). take (length w) (drop j s)) (sym (i ∙ add-one at)) ∙ part r))

  pub bare_part : {at e : ℕ} {w : List ℕ} → Bare s at w e → part_of s at e ≡ w
  bare_part {at} {e} {w} r = let z : e - at ≡ length w = omega (arith, bare_long r) in rw z (part r)
