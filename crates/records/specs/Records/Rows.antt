-- What follows from what a row says.
use Rattle.std.specs.Prelude.{ℕ, ◌^◌, ◌<◌, ◌≡◌, refl, List, Bool, true, false, cond, ltb, Option, Some, None, option_map}
use Rattle.std.proofs.Common.{sym, ap, ◌∙◌, subst}
use Rattle.std.proofs.lemmas.Option.{none-some, same_Some, cond_some}
use Rattle.truth.specs.Truth.Tests.{says_true}
use Rattle.scan.specs.declared.At.{At}
use Rattle.scan.specs.declared.Listed.{Listed}
use Rattle.scan.specs.declared.Listed.TheVariants.{Held, Beyond}
use Rattle.scan.specs.Scan.{read_to, part_of, members_of, listed, held_of}
use Rattle.lex.specs.declared.Part.{Part}
use Rattle.lex.specs.declared.Mark.TheVariants.{Comma}
use Rattle.lex.specs.Lex.{last_at}
use Rattle.graph.specs.Graph.{size_of, Ranges}
use Rattle.graph.specs.Judge.{range_test}
use Rattle.graph.specs.Judge.Laws.{range?}
use Rattle.graph.specs.declared.Node.{Node}
use Rattle.graph.specs.declared.Size.{Size}
use Rattle.fields.specs.declared.Form.{Form}
use Rattle.fields.specs.declared.Form.TheVariants.{Tag, Number, Own, Kind, Check, Marks, Way, Empty}
use Rattle.fields.specs.Fields.{G, N, most_digits, form_at, end_at}
use Rattle.fields.specs.Fields.Forms.{Below, number, check, kind, marks, form_below}
use Rattle.records.specs.declared.Lead.{Lead}
use Rattle.records.specs.declared.Three.{Three}
use Rattle.records.specs.Records.{◌⟫◌, read_as, grants_at, three_at, header_at, lead_at, node_of, node_at, edge_at, no_kind, kept}

-- what is read past another thing was read where that thing was
pub past : {X Y P : Type 0} (o : Option (At X)) (f : X → (next : ℕ) → Option Y) {y : Y} → (o ⟫ f) ≡ Some y → ((x : At X) → o ≡ Some x → f x.value x.next ≡ Some y → P) → P
past None f e g = absurd (none-some _ e)
past (Some x) f e g = g x refl e

-- grants that are all of a part
pub grants_all : (s : List ℕ) (at : ℕ) {p : Part} {x : ℕ} → last_at s at ≡ Some p → members_of most_digits (part_of s p.start p.end) ≡ Some x → grants_at s at ≡ Some (read_to x p.next)
unfolding grants_at
grants_all s at e f = simp (e, f)

-- ---- how large the numbers of a row are

pub record LeadLow (x : Lead) : Type 0 where
  pub kind_low : x.kind < 3
  pub check_low : x.check < 10000
  pub marks_low : x.marks < 4

pub lead_low : (s : List ℕ) (at i : ℕ) {x : At Lead} → lead_at s at i ≡ Some x → LeadLow x.value
unfolding lead_at
lead_low s at i e =
    past (form_at (Tag N) s at) _ e (λ t _ e. past (form_at (Own i) s t.next) _ e (λ o _ e. past (form_at Kind s o.next) _ e (λ k a e.
    past (form_at (Check k.value) s k.next) _ e (λ h b e. past (form_at Marks s h.next) _ e (λ m c e.
    subst (λ (y : At Lead). LeadLow y.value) (same_Some _ _ e)
    (record { kind_low = form_below kind Comma s _ a; check_low = form_below check Comma s _ b; marks_low = form_below marks Comma s _ c }))))))

pub record ThreeLow (most : ℕ) (x : Three) : Type 0 where
  pub a_low : x.a < 10000
  pub b_low : x.b < 10000
  pub c_low : x.c < most

pub three_low : (letter : ℕ) {form : Form} {most : ℕ} → Below form most → (s : List ℕ) (at : ℕ) {x : At Three} → three_at letter form s at ≡ Some x → ThreeLow most x.value
unfolding three_at
three_low letter {form} {most} below s at e =
    past (form_at (Tag letter) s at) _ e (λ t _ e. past (form_at Number s t.next) _ e (λ a f e. past (form_at Number s a.next) _ e (λ b g e.
    past (form_at form s b.next) _ e (λ c h e. past (form_at Empty s c.next) _ e (λ v _ e. past (end_at Empty s v.next) _ e (λ w _ e.
    subst (λ (y : At Three). ThreeLow most y.value) (same_Some _ _ e)
    (record { a_low = form_below number Comma s _ f; b_low = form_below number Comma s _ g; c_low = form_below below Comma s _ h })))))))

-- the counts of a first row are in range
pub header_ranges : (s : List ℕ) (at : ℕ) {c : At Size} → header_at s at ≡ Some c → Ranges c.value
unfolding header_at
header_ranges s at e =
    past (three_at G Number s at) _ e (λ x _ e.
    let f = cond_some (range_test (size_of x.value.a x.value.b x.value.c)) _ _ e in
    subst (λ (y : At Size). Ranges y.value) f.1 (says_true (range? _) f.0))

-- ---- a row, field by field: grants

module _ (s : List ℕ) (at : ℕ) where
  pub grants_none : last_at s at ≡ None → grants_at s at ≡ None
  unfolding grants_at
  grants_none e = simp e

  -- as the set that 64 bits hold, where they do
  pub grants_part : {p : Part} → last_at s at ≡ Some p → read_as listed (grants_at s at) ≡ option_map (λ x. read_to x p.next) (held_of (members_of most_digits (part_of s p.start p.end)))
  unfolding grants_at
  grants_part {p} e = simp e (by (members_of most_digits (part_of s p.start p.end)))
    where
      by : (o : Option ℕ) → read_as listed (option_map (λ x. read_to x p.next) o) ≡ option_map (λ x. read_to x p.next) (held_of o)
      by None = refl
      by (Some x) = refl

-- Grants that 64 bits hold, and grants that they don't.
pub record Holds (g : Option (At ℕ)) (bits next : ℕ) : Type 0 where
  pub is : g ≡ Some (read_to bits next)
  pub fits : ltb bits (2 ^ 64) ≡ true

pub record Passes64 (g : Option (At ℕ)) (next : ℕ) : Type 0 where
  pub bits : ℕ
  pub is : g ≡ Some (read_to bits next)
  pub past : ltb bits (2 ^ 64) ≡ false

-- what a set as it is read says of what the row says
by_held : (x : At ℕ) {bits n : ℕ} (t : Bool) → ltb x.value (2 ^ 64) ≡ t → read_to (cond t (Held x.value) Beyond) x.next ≡ read_to (Held bits) n → Holds (Some x) bits n
by_held x false h e = let z = ap (λ (y : At Listed). y.value) e in absurd (never z)
  where
    never : {bits : ℕ} → Beyond ≡ Held bits → ⊥
    never e = cc
by_held x {bits} {n} true h e =
    let v : Held x.value ≡ Held bits = ap (λ (y : At Listed). y.value) e in
    let a : x.value ≡ bits = cc in
    let b : x.next ≡ n = ap (λ (y : At Listed). y.next) e in
    record { is = λ i. Some (read_to (a i) (b i)); fits = rw a at h }

pub granted_held : (g : Option (At ℕ)) {bits n : ℕ} → read_as listed g ≡ Some (read_to (Held bits) n) → Holds g bits n
granted_held None e = absurd (none-some _ e)
granted_held (Some x) e = by_held x (ltb x.value (2 ^ 64)) refl (same_Some _ _ e)

by_beyond : (x : At ℕ) {n : ℕ} (t : Bool) → ltb x.value (2 ^ 64) ≡ t → read_to (cond t (Held x.value) Beyond) x.next ≡ read_to Beyond n → Passes64 (Some x) n
by_beyond x true h e = let z = ap (λ (y : At Listed). y.value) e in absurd (never z)
  where
    never : {bits : ℕ} → Held bits ≡ Beyond → ⊥
    never e = cc
by_beyond x {n} false h e =
    let b : x.next ≡ n = ap (λ (y : At Listed). y.next) e in
    record { bits = x.value; is = λ i. Some (read_to x.value (b i)); past = h }

pub granted_beyond : (g : Option (At ℕ)) {n : ℕ} → read_as listed g ≡ Some (read_to Beyond n) → Passes64 g n
granted_beyond None e = absurd (none-some _ e)
granted_beyond (Some x) e = by_beyond x (ltb x.value (2 ^ 64)) refl (same_Some _ _ e)

pub granted_wrong : (g : Option (At ℕ)) → read_as listed g ≡ None → g ≡ None
granted_wrong None e = refl
granted_wrong (Some x) e = absurd (none-some _ (sym e))

-- ---- a row, field by field: the first five of a node's

module _ (s : List ℕ) (at i : ℕ) where
  pub lead_1 : form_at (Tag 78) s at ≡ None → lead_at s at i ≡ None
  unfolding lead_at
  lead_1 w = simp w

  module _ {v1 p1 : ℕ} (e1 : form_at (Tag 78) s at ≡ Some (read_to v1 p1)) where
    pub lead_2 : form_at (Own i) s p1 ≡ None → lead_at s at i ≡ None
    unfolding lead_at
    lead_2 w = simp (e1, w)

    module _ {v2 p2 : ℕ} (e2 : form_at (Own i) s p1 ≡ Some (read_to v2 p2)) where
      pub lead_3 : form_at Kind s p2 ≡ None → lead_at s at i ≡ None
      unfolding lead_at
      lead_3 w = simp (e1, e2, w)

      module _ {kind p3 : ℕ} (e3 : form_at Kind s p2 ≡ Some (read_to kind p3)) where
        pub lead_4 : form_at (Check kind) s p3 ≡ None → lead_at s at i ≡ None
        unfolding lead_at
        lead_4 w = simp (e1, e2, e3, w)

        module _ {check p4 : ℕ} (e4 : form_at (Check kind) s p3 ≡ Some (read_to check p4)) where
          pub lead_5 : form_at Marks s p4 ≡ None → lead_at s at i ≡ None
          unfolding lead_at
          lead_5 w = simp (e1, e2, e3, e4, w)

          pub lead_all : {marks p5 : ℕ} → form_at Marks s p4 ≡ Some (read_to marks p5) → lead_at s at i ≡ Some (read_to (record { kind = kind; check = check; marks = marks }) p5)
          unfolding lead_at
          lead_all e5 = simp (e1, e2, e3, e4, e5)

-- ---- a row, field by field: a letter, three fields and two empty ones

module _ (letter : ℕ) (form : Form) (s : List ℕ) (at : ℕ) where
  pub three_1 : form_at (Tag letter) s at ≡ None → three_at letter form s at ≡ None
  unfolding three_at
  three_1 w = simp w

  module _ {v1 p1 : ℕ} (e1 : form_at (Tag letter) s at ≡ Some (read_to v1 p1)) where
    pub three_2 : form_at Number s p1 ≡ None → three_at letter form s at ≡ None
    unfolding three_at
    three_2 w = simp (e1, w)

    module _ {a p2 : ℕ} (e2 : form_at Number s p1 ≡ Some (read_to a p2)) where
      pub three_3 : form_at Number s p2 ≡ None → three_at letter form s at ≡ None
      unfolding three_at
      three_3 w = simp (e1, e2, w)

      module _ {b p3 : ℕ} (e3 : form_at Number s p2 ≡ Some (read_to b p3)) where
        pub three_4 : form_at form s p3 ≡ None → three_at letter form s at ≡ None
        unfolding three_at
        three_4 w = simp (e1, e2, e3, w)

        module _ {c p4 : ℕ} (e4 : form_at form s p3 ≡ Some (read_to c p4)) where
          pub three_5 : form_at Empty s p4 ≡ None → three_at letter form s at ≡ None
          unfolding three_at
          three_5 w = simp (e1, e2, e3, e4, w)

          module _ {v5 p5 : ℕ} (e5 : form_at Empty s p4 ≡ Some (read_to v5 p5)) where
            pub three_6 : end_at Empty s p5 ≡ None → three_at letter form s at ≡ None
            unfolding three_at
            three_6 w = simp (e1, e2, e3, e4, e5, w)

            pub three_all : {v6 p6 : ℕ} → end_at Empty s p5 ≡ Some (read_to v6 p6) → three_at letter form s at ≡ Some (read_to (record { a = a; b = b; c = c }) p6)
            unfolding three_at
            three_all e6 = simp (e1, e2, e3, e4, e5, e6)

-- ---- node, edge and first row, by their parts

-- a node whose grants 64 bits can't hold
abbrev no_node : Node
no_node = record { kind = no_kind; check = 0; privileged = 0; entry = 0; grants = 0 }

module _ (s : List ℕ) (at i : ℕ) where
  pub node_none : lead_at s at i ≡ None → node_at s at i ≡ None
  unfolding node_at
  node_none e = simp e

  module _ {x : Lead} {p : ℕ} (e : lead_at s at i ≡ Some (read_to x p)) where
    pub node_bare : grants_at s p ≡ None → node_at s at i ≡ None
    unfolding node_at
    node_bare f = simp (e, f)

    node_all : {g q : ℕ} → grants_at s p ≡ Some (read_to g q) → node_at s at i ≡ Some (read_to (node_of x g) q)
    unfolding node_at
    node_all f = simp (e, f)

    pub node_held : {g q : ℕ} → Holds (grants_at s p) g q → read_as kept (node_at s at i) ≡ Some (read_to (node_of x g) q)
    node_held {g} {q} h = ap (read_as kept) (node_all h.is) ∙ ap (λ (t : Bool). Some (read_to (cond t (node_of x g) no_node) q)) h.fits

    pub node_beyond : {q : ℕ} → Passes64 (grants_at s p) q → read_as kept (node_at s at i) ≡ Some (read_to no_node q)
    node_beyond {q} h = ap (read_as kept) (node_all h.is) ∙ ap (λ (t : Bool). Some (read_to (cond t (node_of x h.bits) no_node) q)) h.past

module _ (s : List ℕ) (at : ℕ) where
  pub edge_none : three_at 69 Way s at ≡ None → edge_at s at ≡ None
  unfolding edge_at
  edge_none e = simp e

  pub edge_all : {x : Three} {p : ℕ} → three_at 69 Way s at ≡ Some (read_to x p) → edge_at s at ≡ Some (read_to (record { from = x.a; to = x.b; way = x.c }) p)
  unfolding edge_at
  edge_all e = simp e

  pub header_none : three_at 71 Number s at ≡ None → header_at s at ≡ None
  unfolding header_at
  header_none e = simp e

  module _ {x : Three} {p : ℕ} (e : three_at 71 Number s at ≡ Some (read_to x p)) where
    pub header_out : range_test (size_of x.a x.b x.c) ≡ false → header_at s at ≡ None
    unfolding header_at
    header_out f = simp (e, f)

    pub header_all : range_test (size_of x.a x.b x.c) ≡ true → header_at s at ≡ Some (read_to (size_of x.a x.b x.c) p)
    unfolding header_at
    header_all f = simp (e, f)
