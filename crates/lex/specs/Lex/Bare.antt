-- Fields without quotes, met byte by byte: their bytes, and then a comma or CRLF.
use Rattle.std.specs.Prelude.{ℕ, ◌+◌, ◌<◌, ◌≡◌, refl, true, false, List, get_or, Some}
use Rattle.std.proofs.Math.Path.{ap}
use Rattle.std.proofs.Common.{sym, ◌∙◌, arith, ne_eqb}
use Rattle.scan.specs.declared.Class.TheVariants.{Plain}
use Rattle.scan.specs.Scan.{belongs}
use Rattle.scan.specs.Scan.Runs.{in_range}
use Rattle.scan.specs.Scan.Bare.{Bare, none, byte, bare_run}
use Rattle.lex.specs.declared.Mark.TheVariants.{Comma, RowEnd}
use Rattle.lex.specs.Lex.{part, followed, plain_at, field_at, comma_at, last_at}
use Rattle.lex.specs.Lex.Fields.{followed_comma, followed_row, before_of}

module _ (s : List ℕ) where
  unquoted : {at e : ℕ} {w : List ℕ} → Bare s at w e → (get_or s e 0 ≡ 34 → ⊥) → get_or s at 0 ≡ 34 → ⊥
  unquoted none h p = h p
  unquoted (byte i q k r) h p = let z = ap (belongs Plain) (sym q ∙ p) ∙ refl in absurd (true_false (sym k.plain ∙ z))
    where
      true_false : true ≡ false → ⊥
      true_false e = let z : ◌≡◌ {A = ℕ} 0 1 = cc in omega arith

  bare_field : {at e : ℕ} {w : List ℕ} → Bare s at w e → 0 < get_or s e 0 → (get_or s e 0 ≡ 34 → ⊥) → belongs Plain (get_or s e 0) ≡ false → field_at s at ≡ followed s at e e
  unfolding field_at plain_at
  bare_field {at} r h u p = simp (ne_eqb (get_or s at 0) 34 (unquoted r u), bare_run s r h p)

  module _ {at e : ℕ} {w : List ℕ} (r : Bare s at w e) where
    pub bare_comma : get_or s e 0 ≡ 44 → comma_at s at ≡ Some (part at e (e + 1))
    bare_comma p =
        before_of Comma s at
        (bare_field r (omega (arith, p)) (λ q. omega (arith, p, q)) (simp p)
        ∙ followed_comma s at e e (in_range s e (omega (arith, p))) p)

    pub bare_end : get_or s e 0 ≡ 13 → get_or s (e + 1) 0 ≡ 10 → last_at s at ≡ Some (part at e (e + 2))
    bare_end p q =
        before_of RowEnd s at
        (bare_field r (omega (arith, p)) (λ u. omega (arith, p, u)) (simp p)
        ∙ followed_row s at e e (in_range s e (omega (arith, p))) p q)
