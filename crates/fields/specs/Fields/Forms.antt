-- What a field of each form says, and how a field goes on in its row.
use Rattle.std.specs.Prelude.{ℕ, ◌<◌, ◌≡◌, List, length, get_or, eqb, Option, Some, None, option_map, option_and_then}
use Rattle.std.proofs.Math.Path.{refl, ap, sym}
use Rattle.std.proofs.Common.{◌∙◌, arith}
use borrow.Author.Tests.{eq-eqb, ne_eqb}
use Rattle.std.proofs.lemmas.Option.{none-some, same_Some}
use Rattle.truth.specs.Truth.Bools.{by_split}
use Rattle.scan.specs.Scan.{part_of, number_of, read_to}
use Rattle.scan.specs.Scan.Numbers.{number_small}
use Rattle.scan.specs.declared.At.{At}
use Rattle.lex.specs.declared.Part.{Part}
use Rattle.lex.specs.declared.Mark.{Mark}
use Rattle.lex.specs.Lex.{before_at, comma_at, last_at}
use Rattle.fields.specs.declared.Form.{Form}
use Rattle.fields.specs.declared.Form.TheVariants.{Tag, Number, Own, Kind, Check, Marks, Way, Empty}
use Rattle.fields.specs.Fields.{letter_of, empty_of, says, said_by, said_at, form_at, end_at}

module _ (l : List ℕ) where
  pub tag_yes : (b : ℕ) → letter_of l ≡ b → says (Tag b) l ≡ Some 0
  unfolding says
  tag_yes b e = simp (eq-eqb _ _ e)

  pub tag_no : (b : ℕ) → (letter_of l ≡ b → ⊥) → says (Tag b) l ≡ None
  unfolding says
  tag_no b e = simp (ne_eqb _ _ e)

  module _ (i : ℕ) where
    pub own_not : number_of 4 l ≡ None → says (Own i) l ≡ None
    unfolding says
    own_not e = simp e

    pub own_yes : {v : ℕ} → number_of 4 l ≡ Some v → v ≡ i → says (Own i) l ≡ Some v
    unfolding says
    own_yes e f = simp (e, eq-eqb _ _ f)

    pub own_other : {v : ℕ} → number_of 4 l ≡ Some v → (v ≡ i → ⊥) → says (Own i) l ≡ None
    unfolding says
    own_other e f = simp (e, ne_eqb _ _ f)

  pub number_says : says Number l ≡ number_of 4 l
  unfolding says
  number_says = refl

  pub empty_says : says Empty l ≡ empty_of l
  unfolding says
  empty_says = refl

  module _ (kind : ℕ) where
    pub check_there : kind ≡ 2 → says (Check kind) l ≡ number_of 4 l
    unfolding says
    check_there e = simp (eq-eqb _ _ e)

    pub check_none : (kind ≡ 2 → ⊥) → says (Check kind) l ≡ empty_of l
    unfolding says
    check_none e = simp (ne_eqb _ _ e)

  module _ (b : ℕ) (e : b ≡ letter_of l) where
    pub kind_call : b ≡ 67 → says Kind l ≡ Some 0
    unfolding says
    kind_call f = simp (sym e ∙ f)

    pub kind_return : b ≡ 82 → says Kind l ≡ Some 1
    unfolding says
    kind_return f = simp (sym e ∙ f)

    pub kind_check : b ≡ 75 → says Kind l ≡ Some 2
    unfolding says
    kind_check f = simp (sym e ∙ f)

    pub kind_none : (b ≡ 67 → ⊥) → (b ≡ 82 → ⊥) → (b ≡ 75 → ⊥) → says Kind l ≡ None
    unfolding says
    kind_none f g h = rw (← e) (simp (ne_eqb _ _ f, ne_eqb _ _ g, ne_eqb _ _ h))

    pub way_call : b ≡ 67 → says Way l ≡ Some 0
    unfolding says
    way_call f = simp (sym e ∙ f)

    pub way_transfer : b ≡ 84 → says Way l ≡ Some 1
    unfolding says
    way_transfer f = simp (sym e ∙ f)

    pub way_none : (b ≡ 67 → ⊥) → (b ≡ 84 → ⊥) → says Way l ≡ None
    unfolding says
    way_none f g = rw (← e) (simp (ne_eqb _ _ f, ne_eqb _ _ g))

  pub marks_empty : length l ≡ 0 → says Marks l ≡ Some 0
  unfolding says
  marks_empty h = simp (eq-eqb _ _ h)

  module _ (d : length l ≡ 0 → ⊥) (b : ℕ) (e : b ≡ letter_of l) where
    pub marks_p : b ≡ 80 → says Marks l ≡ Some 1
    unfolding says
    marks_p f = simp (ne_eqb _ _ d, sym e ∙ f)

    pub marks_e : b ≡ 69 → says Marks l ≡ Some 2
    unfolding says
    marks_e f = simp (ne_eqb _ _ d, sym e ∙ f)

    module _ (p : b ≡ 80 → ⊥) (q : b ≡ 69 → ⊥) where
      pub marks_long : (length l ≡ 2 → ⊥) → says Marks l ≡ None
      unfolding says
      marks_long f = rw (← e) (simp (ne_eqb _ _ d, ne_eqb _ _ p, ne_eqb _ _ q, ne_eqb _ _ f))

      module _ (t : length l ≡ 2) where
        pub marks_first : (get_or l 0 0 ≡ 80 → ⊥) → says Marks l ≡ None
        unfolding says
        marks_first f = rw (← e) (simp (ne_eqb _ _ d, ne_eqb _ _ p, ne_eqb _ _ q, eq-eqb _ _ t, ne_eqb _ _ f))

        pub marks_second : get_or l 0 0 ≡ 80 → (get_or l 1 0 ≡ 69 → ⊥) → says Marks l ≡ None
        unfolding says
        marks_second f g = rw (← e) (simp (ne_eqb _ _ d, ne_eqb _ _ p, ne_eqb _ _ q, eq-eqb _ _ t, eq-eqb _ _ f, ne_eqb _ _ g))

        pub marks_both : get_or l 0 0 ≡ 80 → get_or l 1 0 ≡ 69 → says Marks l ≡ Some 3
        unfolding says
        marks_both f g = rw (← e) (simp (ne_eqb _ _ d, ne_eqb _ _ p, ne_eqb _ _ q, eq-eqb _ _ t, eq-eqb _ _ f, eq-eqb _ _ g))

-- ---- how large a number a form gives

never : {P : Type 0} {v : ℕ} → None ≡ Some v → P
never e = let z : ◌≡◌ {A = ℕ} 0 1 = cc in absurd (omega arith)

is : {u v : ℕ} → Some u ≡ Some v → u ≡ v
is e = cc

-- The bound that a form keeps.
pub data Below : Form → ℕ → Type 0 where
  number : Below Number 10000
  check : {kind : ℕ} → Below (Check kind) 10000
  kind : Below Kind 3
  marks : Below Marks 4
  way : Below Way 2

empty_small : (l : List ℕ) {v : ℕ} → empty_of l ≡ Some v → v < 10000
empty_small l e = by_split (eqb (length l) 0) (λ t. let z = is (simp t at e) in omega (arith, z)) (λ t. never (simp t at e))

said_below : {form : Form} {most : ℕ} → Below form most → (l : List ℕ) {v : ℕ} → says form l ≡ Some v → v < most
unfolding says
said_below number l e = number_small 4 l _ e
said_below (check {kind}) l e = by_split (eqb kind 2) (λ t. number_small 4 l _ (simp t at e)) (λ t. empty_small l (simp t at e))
said_below kind l e =
    by_split (eqb (letter_of l) 67) (λ t. let z = is (simp t at e) in omega (arith, z))
    (λ t. by_split (eqb (letter_of l) 82) (λ u. let z = is (simp (t, u) at e) in omega (arith, z))
    (λ u. by_split (eqb (letter_of l) 75) (λ w. let z = is (simp (t, u, w) at e) in omega (arith, z)) (λ w. never (simp (t, u, w) at e))))
said_below marks l e =
    by_split (eqb (length l) 0) (λ a. let z = is (simp a at e) in omega (arith, z))
    (λ a. by_split (eqb (letter_of l) 80) (λ b. let z = is (simp (a, b) at e) in omega (arith, z))
    (λ b. by_split (eqb (letter_of l) 69) (λ c. let z = is (simp (a, b, c) at e) in omega (arith, z))
    (λ c. by_split (eqb (length l) 2)
    (λ d. by_split (eqb (get_or l 0 0) 80)
    (λ f. by_split (eqb (get_or l 1 0) 69) (λ g. let z = is (simp (a, b, c, d, f, g) at e) in omega (arith, z)) (λ g. never (simp (a, b, c, d, f, g) at e)))
    (λ f. never (simp (a, b, c, d, f) at e)))
    (λ d. never (simp (a, b, c, d) at e)))))
said_below way l e =
    by_split (eqb (letter_of l) 67) (λ t. let z = is (simp t at e) in omega (arith, z))
    (λ t. by_split (eqb (letter_of l) 84) (λ u. let z = is (simp (t, u) at e) in omega (arith, z)) (λ u. never (simp (t, u) at e)))

-- ---- a field in its row

module _ (form : Form) (s : List ℕ) (at : ℕ) where
  pub form_said : {x : Option Part} → x ≡ comma_at s at → option_and_then (said_by form s) x ≡ form_at form s at
  unfolding said_at
  form_said e = ap (option_and_then (said_by form s)) e

  pub end_said : {x : Option Part} → x ≡ last_at s at → option_and_then (said_by form s) x ≡ end_at form s at
  unfolding said_at
  end_said e = ap (option_and_then (said_by form s)) e

pub form_below : {form : Form} {most : ℕ} → Below form most → (m : Mark) (s : List ℕ) (at : ℕ) {x : At ℕ} → said_at form m s at ≡ Some x → x.value < most
unfolding said_at
form_below {form} {most} b m s at {x} e = by (before_at m s at) e
  where
    by_said : (l : List ℕ) (d : Option ℕ) (n : ℕ) → says form l ≡ d → option_map (λ v. read_to v n) d ≡ Some x → x.value < most
    by_said l None n p q = absurd (none-some _ q)
    by_said l (Some u) n p q = let z : u ≡ x.value = ap (λ (y : At ℕ). y.value) (same_Some _ _ q) in rw (← z) (said_below b l p)

    by : (o : Option Part) → option_and_then (said_by form s) o ≡ Some x → x.value < most
    by None q = absurd (none-some _ q)
    by (Some y) q = by_said (part_of s y.start y.end) (says form (part_of s y.start y.end)) y.next refl q
