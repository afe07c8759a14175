-- What short fields say, byte by byte.
use Rattle.std.specs.Prelude.{ℕ, ◌+◌, ◌*◌, ◌≤◌, ◌<◌, cond, get_or, eqb, Option, Some, None, option_map, option_and_then}
use Rattle.std.proofs.Math.Path.{◌≡◌, refl, ap}
use Rattle.std.proofs.Common.{sym, ◌∙◌, subst, arith, eqb-true}
use Rattle.std.proofs.lemmas.Option.{none-some, same_Some}
use mathlib.Core.List.{List, [], ◌∷◌}
use Rattle.truth.specs.Truth.Bools.{by_split}
use Rattle.scan.specs.declared.At.{At}
use Rattle.scan.specs.Scan.{read_to, part_of, number_of}
use Rattle.scan.specs.Scan.Numbers.{number_small}
use Rattle.scan.specs.Scan.Bare.{Bare, none, byte, calm_above, bare_part}
use Rattle.scan.specs.Scan.Digits.{end, digit, number_1, number_2, number_3, number_4}
use Rattle.lex.specs.declared.Part.{Part}
use Rattle.lex.specs.declared.Mark.TheVariants.{Comma}
use Rattle.lex.specs.Lex.{before_at}
use Rattle.lex.specs.Lex.Bare.{bare_comma, bare_end}
use Rattle.fields.specs.declared.Form.{Form}
use Rattle.fields.specs.declared.Form.TheVariants.{Tag, Number, Own, Kind, Check, Marks, Way, Empty}
use Rattle.fields.specs.Fields.{says, said_by, said_at, form_at, end_at}
use Rattle.fields.specs.Fields.Forms.{tag_yes, own_yes, number_says, empty_says, check_there, check_none, kind_call, kind_return, kind_check, way_call, way_transfer, marks_empty, marks_p, marks_e}
use Rattle.shortcuts.specs.Shortcuts.Short.{Quick, Numeral, Short, short_at, numeral_stands}

-- an answer that says something is right
pub quick_right : {X : Type 0} {right r y : Option X} → Quick right r → r ≡ y → (y ≡ None → ⊥) → y ≡ right
quick_right {right = right} {y = None} q e h = absurd (h refl)
quick_right {right = right} {y = Some x} q e h = sym (subst (Quick right) e q)

pub quick_known : {X : Type 0} {right r : Option X} → r ≡ right → Quick right r
quick_known {right = right} e = subst (Quick right) (sym e) (by right)
  where
    by : {X : Type 0} (o : Option X) → Quick o o
    by None = tt
    by (Some x) = refl

module _ (form : Form) (s : List ℕ) {at e : ℕ} {w : List ℕ} (r : Bare s at w e) where
  pub form_bare : get_or s e 0 ≡ 44 → form_at form s at ≡ option_map (λ v. read_to v (e + 1)) (says form w)
  unfolding said_at
  form_bare p = simp (bare_comma s r p, bare_part s r)

  pub end_bare : get_or s e 0 ≡ 13 → get_or s (e + 1) 0 ≡ 10 → end_at form s at ≡ option_map (λ v. read_to v (e + 2)) (says form w)
  unfolding said_at
  end_bare p q = simp (bare_end s r p q, bare_part s r)

pub short_says : {form : Form} {s : List ℕ} {at : ℕ} {x : At ℕ} → Short form s at x → form_at form s at ≡ Some x
short_says n = n.read

-- ---- digits

module _ {s : List ℕ} {at a : ℕ} (p : get_or s at 0 ≡ a + 48) (h : a ≤ 9) where
  pub digits_1 : Numeral s at (read_to a (at + 1))
  digits_1 = record { digits = _; stand = digit refl p h end; number = number_1 h; some = omega arith; near = omega arith }

  module _ (z : 0 < a) {b : ℕ} (q : get_or s (at + 1) 0 ≡ b + 48) (i : b ≤ 9) where
    pub digits_2 : Numeral s at (read_to (a * 10 + b) (at + 2))
    digits_2 = record { digits = _; stand = digit refl p h (digit {at = at + 1} {p = at + 2} (omega arith) q i end); number = number_2 h z i; some = omega arith; near = omega arith }

    module _ {c : ℕ} (r : get_or s (at + 2) 0 ≡ c + 48) (j : c ≤ 9) where
      pub digits_3 : Numeral s at (read_to (a * 100 + b * 10 + c) (at + 3))
      digits_3 = record {
        digits = _;
        stand = digit refl p h (digit {at = at + 1} {p = at + 2} (omega arith) q i (digit {at = at + 2} {p = at + 3} (omega arith) r j end));
        number = number_3 h z i j;
        some = omega arith;
        near = omega arith;
      }

      pub digits_4 : {d : ℕ} → get_or s (at + 3) 0 ≡ d + 48 → d ≤ 9 → Numeral s at (read_to (a * 1000 + b * 100 + c * 10 + d) (at + 4))
      digits_4 t k = record {
        digits = _;
        stand = digit refl p h (digit {at = at + 1} {p = at + 2} (omega arith) q i (digit {at = at + 2} {p = at + 3} (omega arith) r j (digit {at = at + 3} {p = at + 4} (omega arith) t k end)));
        number = number_4 h z i j k;
        some = omega arith;
        near = omega arith;
      }

pub digits_low : {s : List ℕ} {at : ℕ} {x : At ℕ} → Numeral s at x → x.value < 10000
digits_low n = number_small 4 n.digits _ n.number

pub number_short : {s : List ℕ} {at : ℕ} {x : At ℕ} → Numeral s at x → get_or s x.next 0 ≡ 44 → Short Number s at (read_to x.value (x.next + 1))
number_short n e = short_at (numeral_stands (λ w o. number_says w ∙ o) n) e

-- ---- letters

-- The byte at a position where a comma follows it; else 0.
abbrev pub letter_at : List ℕ → ℕ → ℕ
letter_at s at = cond (eqb (get_or s (at + 1) 0) 44) (get_or s at 0) 0

module _ (form : Form) (s : List ℕ) (at : ℕ) where
  pub letter_form : (b v : ℕ) → 44 < b → says form (b ∷ []) ≡ Some v → letter_at s at ≡ b → form_at form s at ≡ Some (read_to v (at + 2))
  letter_form b v h o e =
      by_split (eqb (get_or s (at + 1) 0) 44)
      (λ t.
      let q : get_or s at 0 ≡ b = simp t at e in
      form_bare form s (byte refl q (calm_above h) none) (eqb-true _ _ t) ∙ ap (option_map (λ (u : ℕ). read_to u (at + 1 + 1))) o ∙ ap (λ (i : ℕ). Some (read_to v i)) (omega arith))
      (λ t. let z : 0 ≡ b = simp t at e in absurd (omega (arith, z)))

  pub letter_short : (b v : ℕ) → 44 < b → says form (b ∷ []) ≡ Some v → letter_at s at ≡ b → Short form s at (read_to v (at + 2))
  letter_short b v h o e = record { read = letter_form b v h o e; near = omega arith }

  pub empty_short : says form [] ≡ Some 0 → get_or s at 0 ≡ 44 → Short form s at (read_to 0 (at + 1))
  empty_short o e = record { read = form_bare form s none e ∙ ap (option_map (λ (u : ℕ). read_to u (at + 1))) o; near = omega arith }

pub tag_says : (b : ℕ) → says (Tag b) (b ∷ []) ≡ Some 0
tag_says b = tag_yes (b ∷ []) b refl

pub kind_says_0 : says Kind (67 ∷ []) ≡ Some 0
kind_says_0 = kind_call (67 ∷ []) 67 refl refl

pub kind_says_1 : says Kind (82 ∷ []) ≡ Some 1
kind_says_1 = kind_return (82 ∷ []) 82 refl refl

pub kind_says_2 : says Kind (75 ∷ []) ≡ Some 2
kind_says_2 = kind_check (75 ∷ []) 75 refl refl

pub way_says_0 : says Way (67 ∷ []) ≡ Some 0
way_says_0 = way_call (67 ∷ []) 67 refl refl

pub way_says_1 : says Way (84 ∷ []) ≡ Some 1
way_says_1 = way_transfer (84 ∷ []) 84 refl refl

pub empty_says_0 : says Empty [] ≡ Some 0
empty_says_0 = empty_says []

pub marks_says_0 : says Marks [] ≡ Some 0
marks_says_0 = marks_empty [] refl

pub marks_says_1 : says Marks (80 ∷ []) ≡ Some 1
marks_says_1 = marks_p (80 ∷ []) (λ e. omega (arith, e)) 80 refl refl

pub marks_says_2 : says Marks (69 ∷ []) ≡ Some 2
marks_says_2 = marks_e (69 ∷ []) (λ e. omega (arith, e)) 69 refl refl

pub both_marks : {s : List ℕ} {at : ℕ} → get_or s at 0 ≡ 80 → get_or s (at + 1) 0 ≡ 69 → get_or s (at + 2) 0 ≡ 44 → Short Marks s at (read_to 3 (at + 3))
unfolding says
both_marks {s} {at} p q e = record {
  read = form_bare Marks s (byte refl p (calm_above (omega arith)) (byte {at = at + 1} {p = at + 2} (omega arith) q (calm_above (omega arith)) none)) e ∙ ap (λ (i : ℕ). Some (read_to 3 i)) (omega arith);
  near = omega arith;
}

-- ---- fields that are told by another form

module _ (s : List ℕ) (at : ℕ) where
  by_form : (f g : Form) → ((l : List ℕ) → says f l ≡ says g l) → form_at f s at ≡ form_at g s at
  unfolding said_at
  by_form f g same = by (before_at Comma s at)
    where
      by : (x : Option Part) → option_and_then (said_by f s) x ≡ option_and_then (said_by g s) x
      by None = refl
      by (Some p) = ap (option_map (λ (v : ℕ). read_to v p.next)) (same (part_of s p.start p.end))

  pub check_number : {kind : ℕ} {x : At ℕ} → kind ≡ 2 → Short Number s at x → Short (Check kind) s at x
  check_number {kind} e n = record { read = by_form (Check kind) Number (λ l. check_there l kind e ∙ sym (number_says l)) ∙ n.read; near = n.near }

  pub check_empty : {kind : ℕ} → (kind ≡ 2 → ⊥) → get_or s at 0 ≡ 44 → Short (Check kind) s at (read_to 0 (at + 1))
  check_empty {kind} e = empty_short (Check kind) s at (check_none [] kind e)

  pub own_number : (i : ℕ) {v n : ℕ} → form_at Number s at ≡ Some (read_to v n) → v ≡ i → form_at (Own i) s at ≡ Some (read_to v n)
  unfolding said_at
  own_number i {v} {n} e j = by (before_at Comma s at) e
    where
      by_said : (l : List ℕ) (d : Option ℕ) (m : ℕ) → number_of 4 l ≡ d → option_map (λ u. read_to u m) d ≡ Some (read_to v n) → option_map (λ u. read_to u m) (says (Own i) l) ≡ Some (read_to v n)
      by_said l None m o f = absurd (none-some _ f)
      by_said l (Some u) m o f =
          let a : u ≡ v = ap (λ (y : At ℕ). y.value) (same_Some _ _ f) in
          ap (option_map (λ (w : ℕ). read_to w m)) (own_yes l i o (a ∙ j)) ∙ f

      by : (x : Option Part) → option_and_then (said_by Number s) x ≡ Some (read_to v n) → option_and_then (said_by (Own i) s) x ≡ Some (read_to v n)
      by None f = absurd (none-some _ f)
      by (Some p) f =
          let l = part_of s p.start p.end in
          by_said l (number_of 4 l) p.next refl (ap (option_map (λ (w : ℕ). read_to w p.next)) (sym (number_says l)) ∙ f)

-- ---- ends of rows

-- A comma, and CRLF: an empty field and another that ends the row.
pub record EndsEmpty (s : List ℕ) (at : ℕ) : Type 0 where
  pub comma : get_or s at 0 ≡ 44
  pub cr : get_or s (at + 1) 0 ≡ 13
  pub lf : get_or s (at + 2) 0 ≡ 10

module _ (s : List ℕ) (at : ℕ) (e : EndsEmpty s at) where
  pub ends_comma : form_at Empty s at ≡ Some (read_to 0 (at + 1))
  ends_comma = form_bare Empty s none e.comma ∙ ap (option_map (λ (u : ℕ). read_to u (at + 1))) empty_says_0

  pub ends_row : end_at Empty s (at + 1) ≡ Some (read_to 0 (at + 3))
  ends_row =
      end_bare Empty s none e.cr (ap (λ (i : ℕ). get_or s i 0) (omega arith) ∙ e.lf)
      ∙ ap (option_map (λ (u : ℕ). read_to u (at + 1 + 2))) empty_says_0 ∙ ap (λ (i : ℕ). Some (read_to 0 i)) (omega arith)
