-- Fields that are short and have no quotes, by their bytes.
use Rattle.std.specs.Prelude.{ℕ, zero, suc, ◌+◌, ◌-◌, ◌*◌, ◌^◌, ◌%◌, ◌≤◌, ◌<◌, Bool, true, false, get_or, slice_get, leb, Option, Some, IfSome}
use Rattle.std.proofs.Math.Path.{◌≡◌, refl, ap}
use Rattle.std.proofs.Common.{sym, ◌∙◌, arith, lit<, lt-ltb}
use Rattle.std.specs.Bool.{then_some}
use Rattle.std.specs.Char.{is_ascii_digit}
use Rattle.std.proofs.lemmas.Bool.{and_parts}
use Rattle.std.proofs.lemmas.Option.{none-some, same_Some}
use mathlib.Core.List.{List, [], ◌∷◌, ◌++◌}
use Rattle.std.specs.Int.Bits.{bit_or}
use Rattle.std.proofs.lemmas.Nat.{or_lt}
use Rattle.std.proofs.Math.Pow.{pow-lt}
use borrow.Author.Tests.{eq-eqb, leb-true}
use Rattle.truth.specs.Truth.Bools.{by_split}
use Rattle.truth.specs.Truth.Kit.{shl_one}
use Rattle.scan.specs.declared.At.{At}
use Rattle.scan.specs.declared.Listed.TheVariants.{Held}
use Rattle.scan.specs.Scan.{read_to, nought, number_of, members_of, listed}
use Rattle.scan.specs.Scan.Bare.{Bare, none, byte, calm_above, bare_then, bare_long, bare_part}
use Rattle.scan.specs.Scan.Digits.{Digital, end, digit, digital_bare, digital_more, number_one, number_more, Listing, listing_start, listing_next, listing_last}
use Rattle.lex.specs.Lex.Bare.{bare_comma, bare_end}
use Rattle.fields.specs.declared.Form.{Form}
use Rattle.fields.specs.declared.Form.TheVariants.{Tag, Kind, Way, Empty}
use Rattle.fields.specs.Fields.{C, R, K, T, says, said_at, form_at, end_at}
use Rattle.records.specs.Records.{read_as, grants_at}
use Rattle.records.specs.Records.Rows.{grants_all}

-- What a function answers that knows the right answer of some inputs, and says nothing of the others.
abbrev pub Quick : {X : Type 0} → (right answer : Option X) → Type 0
Quick right answer = IfSome answer (λ x. right ≡ Some x)

-- what a test lets through
pub let_through : {X : Type 0} (P : X → Type 0) {x : X} {r : Option X} (b : Bool) → r ≡ then_some b x → (b ≡ true → P x) → IfSome r P
let_through P true e h = rw e (h refl)
let_through P false e h = rw e tt

-- ---- numbers

-- The digit that a byte is.
abbrev pub digit_of : ℕ → Option ℕ
digit_of b = then_some (is_ascii_digit b) (b - nought)

pub digit_is : (b : ℕ) {d : ℕ} → digit_of b ≡ Some d → (b ≡ d + 48) × (d ≤ 9)
digit_is b e =
    by_split (is_ascii_digit b)
    (λ t. let p = and_parts (leb 48 b) (leb b 57) t in let z = same_Some (b - 48) _ (simp t at e) in (omega (arith, z, leb-true 48 b p.0), omega (arith, z, leb-true b 57 p.1)))
    (λ t. absurd (none-some _ (simp t at e)))

-- A number of one to four digits, whatever follows them.
pub record Numeral (s : List ℕ) (at : ℕ) (x : At ℕ) : Type 0 where
  pub digits : List ℕ
  pub stand : Digital s at digits x.next
  pub number : number_of 4 digits ≡ Some x.value
  pub some : at < x.next
  pub near : x.next ≤ at + 4

module _ {s : List ℕ} {at : ℕ} where
  pub numeral_first : {b d : ℕ} → get_or s at 0 ≡ b → digit_of b ≡ Some d → Numeral s at (read_to d (at + 1))
  numeral_first {b} p e =
      let d = digit_is b e in
      record { digits = _; stand = digit refl (p ∙ d.0) d.1 end; number = number_one d.1; some = omega arith; near = omega arith }

  pub numeral_more : {v next b d : ℕ} → Numeral s at (read_to v next) → 0 < v → next < at + 4 → get_or s next 0 ≡ b → digit_of b ≡ Some d → Numeral s at (read_to (v * 10 + d) (next + 1))
  numeral_more {b = b} n z m p e =
      let d = digit_is b e in
      let l = bare_long s (digital_bare n.stand) in
      record {
        digits = n.digits ++ _ ∷ [];
        stand = digital_more n.stand refl (p ∙ d.0) d.1;
        number = number_more n.digits n.number z (omega (arith, l)) d.1;
        some = omega (arith, n.some);
        near = omega arith;
      }

-- ---- fields

-- Bytes without quotes that are a field of a form, from a position on: what they say, and where they end.
pub record Stands (form : Form) (s : List ℕ) (at : ℕ) (x : At ℕ) : Type 0 where
  pub bytes : List ℕ
  pub stand : Bare s at bytes x.next
  pub said : says form bytes ≡ Some x.value
  pub near : x.next ≤ at + 4

-- A short field that a comma follows.
pub record Short (form : Form) (s : List ℕ) (at : ℕ) (x : At ℕ) : Type 0 where
  pub read : form_at form s at ≡ Some x
  pub near : x.next ≤ at + 5

-- A tag is a letter, and no byte that a field's end may be.
abbrev pub TagsLetter : Form → Type 0
TagsLetter (Tag b) = 44 < b
TagsLetter f = Unit {0}

module _ {form : Form} {s : List ℕ} {at : ℕ} where
  pub short_at : {x : At ℕ} → Stands form s at x → get_or s x.next 0 ≡ 44 → Short form s at (read_to x.value (x.next + 1))
  unfolding said_at
  short_at x p = record { read = simp (bare_comma s x.stand p, bare_part s x.stand, x.said); near = omega (arith, x.near) }

  pub letter_stands : {b v next : ℕ} → 44 < b → says form (b ∷ []) ≡ Some v → get_or s at 0 ≡ b → next ≡ at + 1 → Stands form s at (read_to v next)
  letter_stands {b} h o e n = record { bytes = b ∷ []; stand = byte n e (calm_above h) none; said = o; near = omega (arith, n) }

  pub nothing_stands : says form [] ≡ Some 0 → Stands form s at (read_to 0 at)
  nothing_stands o = record { bytes = []; stand = none; said = o; near = omega arith }

  -- one of some letters, each of which says its place among them
  pub placed_stands : (letters : List ℕ) → ((k b : ℕ) → slice_get letters k ≡ Some b → (44 < b) × (says form (b ∷ []) ≡ Some k)) → {x : At ℕ} → (slice_get letters x.value ≡ Some (get_or s at 0)) × (x.next ≡ at + 1) → Stands form s at x
  placed_stands letters say {x} e = let h = say x.value _ e.0 in letter_stands h.0 h.1 refl e.1

pub numeral_stands : {form : Form} {s : List ℕ} {at : ℕ} {x : At ℕ} → ((w : List ℕ) → number_of 4 w ≡ Some x.value → says form w ≡ Some x.value) → Numeral s at x → Stands form s at x
numeral_stands same n = record { bytes = n.digits; stand = digital_bare n.stand; said = same n.digits n.number; near = n.near }

pub tag_says : {b : ℕ} → 44 < b → (k c : ℕ) → slice_get (b ∷ []) k ≡ Some c → (44 < c) × (says (Tag b) (c ∷ []) ≡ Some k)
unfolding says
tag_says {b} h zero c e = let z = same_Some b _ e in (omega (arith, h, z), simp (eq-eqb _ _ (sym z)))
tag_says h (suc k) c e = absurd (none-some _ e)

-- the letters of a node's kinds and of an edge's, each at its number
abbrev pub node_letters : List ℕ
node_letters = C ∷ R ∷ K ∷ []

abbrev pub edge_letters : List ℕ
edge_letters = C ∷ T ∷ []

pub kind_says : (k b : ℕ) → slice_get node_letters k ≡ Some b → (44 < b) × (says Kind (b ∷ []) ≡ Some k)
unfolding says
kind_says zero b e = rw (← same_Some 67 _ e) (lit< tt, refl)
kind_says (suc zero) b e = rw (← same_Some 82 _ e) (lit< tt, refl)
kind_says (suc (suc zero)) b e = rw (← same_Some 75 _ e) (lit< tt, refl)
kind_says (suc (suc (suc k))) b e = absurd (none-some _ e)

pub way_says : (k b : ℕ) → slice_get edge_letters k ≡ Some b → (44 < b) × (says Way (b ∷ []) ≡ Some k)
unfolding says
way_says zero b e = rw (← same_Some 67 _ e) (lit< tt, refl)
way_says (suc zero) b e = rw (← same_Some 84 _ e) (lit< tt, refl)
way_says (suc (suc k)) b e = absurd (none-some _ e)

-- ---- ends of rows

-- CRLF.
pub record EndsRow (s : List ℕ) (at : ℕ) : Type 0 where
  pub cr : get_or s at 0 ≡ 13
  pub lf : get_or s (at + 1) 0 ≡ 10

-- an empty field that ends a row
pub end_row : {s : List ℕ} {at : ℕ} → EndsRow s at → end_at Empty s at ≡ Some (read_to 0 (at + 2))
unfolding said_at says
end_row {s} {at} e = simp (bare_end s {at = at} none e.cr e.lf, bare_part s {at = at} none)

-- ---- grants

-- Grants that begin at a position and are read as far as another.
pub record Granting (s : List ℕ) (at i low bits : ℕ) : Type 0 where
  pub listing : Listing s at i low bits
  pub fits : bits < 2 ^ 64

pub granting_start : {s : List ℕ} {at : ℕ} → Granting s at at 0 0
granting_start = record { listing = listing_start; fits = lit< tt }

module _ {s : List ℕ} {at i low bits : ℕ} {x : At ℕ} (g : Granting s at i low bits) (n : Numeral s i x) (k : low ≤ x.value) (m : x.value < 64) where
  more : bit_or bits ((1 * 2 ^ x.value) % 2 ^ 64) ≡ bit_or bits (2 ^ x.value)
  more = ap (bit_or bits) (shl_one x.value m)

  more_fits : bit_or bits (2 ^ x.value) < 2 ^ 64
  more_fits = or_lt 64 bits (2 ^ x.value) g.fits (pow-lt m)

  pub granting_next : get_or s x.next 0 ≡ 32 → Granting s at (x.next + 1) (x.value + 1) (bit_or bits ((1 * 2 ^ x.value) % 2 ^ 64))
  granting_next e = rw more (record { listing = listing_next g.listing n.stand n.number k refl e; fits = more_fits })

  pub granting_end : EndsRow s x.next → read_as listed (grants_at s at) ≡ Some (read_to (Held (bit_or bits ((1 * 2 ^ x.value) % 2 ^ 64))) (x.next + 2))
  granting_end r =
      let b = bare_then g.listing.stand (digital_bare n.stand) in
      let e = grants_all s at (bare_end s b r.cr r.lf) (ap (members_of 4) (bare_part s b) ∙ listing_last g.listing n.stand n.number k (omega (arith, n.some, bare_long s (digital_bare n.stand)))) in
      rw more (ap (read_as listed) e ∙ simp (lt-ltb _ _ more_fits))
