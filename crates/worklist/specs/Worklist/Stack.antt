-- What the stack's steps do, and what they keep.
use Rattle.std.specs.Prelude.{◌≡◌, refl, List, [], ◌∷◌, Bool, true, false, ℕ, zero, suc, ◌+◌, ◌-◌, ◌≤◌, ◌<◌, eqb, leb, ltb, length, get_or, set, Option, Some}
use Rattle.std.proofs.Math.Seq.{set_out}
use Rattle.std.proofs.Common.{sym, ap, subst, ◌∙◌, not-suc-le-zero, le_of_suc-le-suc, add-one, arith, length-set, get_or-set_same, get_or-set_other, below_none, eqb-true, eq-eqb, ne_eqb, lt-ltb, le-ltb, le-leb}
use Rattle.std.proofs.Math.Decide.{ℕ_discrete}
use Rattle.std.proofs.lemmas.Bool.{eqb-false, lt-leb}
use Rattle.truth.specs.Truth.Bools.{by_split, both, left, right}
use Rattle.worklist.specs.Worklist.{holds, fresh, Put, count_down, Fills, filled, kept, zeros, Stacked, Takes, taken, untaken}
use Rattle.worklist.specs.Worklist.Filled.{set_more}

-- ---- marks

zeros_mark : (d : List ℕ) (n : ℕ) → n < length d → get_or d n 0 ≡ 0 → zeros (set d n 1) + 1 ≡ zeros d
unfolding zeros
zeros_mark [] n l z = absurd (not-suc-le-zero l)
zeros_mark (x ∷ d) zero l z = rw z (omega arith)
zeros_mark (x ∷ d) (suc n) l z = omega (arith, zeros_mark d n (le_of_suc-le-suc l) z)

zeros_clear : (d : List ℕ) (n : ℕ) → zeros (set d n 0) ≤ zeros d + 1
unfolding zeros
zeros_clear [] n = omega arith
zeros_clear (x ∷ d) zero = omega arith
zeros_clear (x ∷ d) (suc n) = omega (arith, zeros_clear d n)

-- an unmarked node finds a place
pub put_room : (nodes : ℕ) (d st : List ℕ) (b top : ℕ) → b < length d → get_or d b 0 ≡ 0 → Stacked nodes d st top → top < length st
put_room nodes d st b top l z w = omega (arith, zeros_mark d b l z, w.free)

pub put_stacked : (nodes : ℕ) (d st : List ℕ) (b top : ℕ) → b < nodes → b < length d → get_or d b 0 ≡ 0 → Stacked nodes d st top
    → Stacked nodes (set d b 1) (set st top b) (top + 1)
put_stacked nodes d st b top ln ld z w = record {
  free = rw (length-set st top b) (omega (arith, zeros_mark d b ld z, w.free));
  entries = λ j l. entry j l (ℕ_discrete j top);
  marked = λ m lm h. find m lm h (ℕ_discrete m b);
}
  where
    lt : top < length st
    lt = put_room nodes d st b top ld z w

    entry : (j : ℕ) → j < top + 1 → Dec (j ≡ top) → get_or (set st top b) j 0 < nodes
    entry j l (yes q) = rw (q, get_or-set_same st top b 0 lt) ln
    entry j l (no q) = rw (get_or-set_other st top j b 0 q) (w.entries j (omega (arith, q)))

    find : (m : ℕ) → m < nodes → (get_or (set d b 1) m 0 ≡ 0 → ⊥) → Dec (m ≡ b) → (j : ℕ) × (j < top + 1) × (get_or (set st top b) j 0 ≡ m)
    find m lm h (yes q) = (top, omega arith, get_or-set_same st top b 0 lt ∙ sym q)
    find m lm h (no q) =
        let r = w.marked m lm (λ z. h (get_or-set_other d b m 1 0 q ∙ z)) in
        (r.0, omega (arith, r.1), get_or-set_other st top r.0 b 0 (λ e. omega (arith, r.1)) ∙ r.2)

-- the node on top is taken off, and its mark with it
pub take_stacked : (nodes : ℕ) (d st : List ℕ) (t : ℕ) → get_or st t 0 < length d → Stacked nodes d st (t + 1) → Stacked nodes (set d (get_or st t 0) 0) st t
take_stacked nodes d st t ld w = record {
  free = omega (arith, zeros_clear d (get_or st t 0), w.free);
  entries = λ j l. w.entries j (omega arith);
  marked = λ m lm h. find m lm h (ℕ_discrete m (get_or st t 0));
}
  where
    find : (m : ℕ) → m < nodes → (get_or (set d (get_or st t 0) 0) m 0 ≡ 0 → ⊥) → Dec (m ≡ get_or st t 0) → (j : ℕ) × (j < t) × (get_or st j 0 ≡ m)
    find m lm h (yes q) = absurd (h (ap (λ (x : ℕ). get_or (set d (get_or st t 0) 0) x 0) q ∙ get_or-set_same d (get_or st t 0) 0 0 ld))
    find m lm h (no q) =
        let r = w.marked m lm (λ z. h (get_or-set_other d (get_or st t 0) m 0 0 q ∙ z)) in
        let ne : r.0 ≡ t → ⊥ = λ e. q (sym r.2 ∙ ap (λ (x : ℕ). get_or st x 0) e) in
        (r.0, omega (arith, r.1, ne), r.2)

-- a stack that has a place for each node on it is left only where it is empty
pub untaken_empty : (nodes : ℕ) (d st : List ℕ) (top : ℕ) → Stacked nodes d st top → ((t : ℕ) → top ≡ t + 1 → t < length st → ⊥) → top ≡ 0
untaken_empty nodes d st zero w h = refl
untaken_empty nodes d st (suc t) w h = absurd (h t (sym (add-one t)) (omega (arith, w.free)))

-- with an empty stack no node is marked
pub none_stacked : (nodes : ℕ) (d st : List ℕ) → Stacked nodes d st 0 → (n : ℕ) → n < nodes → get_or d n 0 ≡ 0
none_stacked nodes d st w n l =
    by_split (eqb (get_or d n 0) 0) (eqb-true (get_or d n 0) 0) (λ q. let r = w.marked n l (eqb-false (get_or d n 0) 0 q) in absurd (omega (arith, r.1)))

-- every node on the stack, every mark set
pub all_stacked : (nodes : ℕ) (d st : List ℕ) → zeros d ≡ 0 → nodes ≤ length st → ((j : ℕ) → j < nodes → get_or st j 0 ≡ nodes - 1 - j) → Stacked nodes d st nodes
all_stacked nodes d st z l h = record {
  free = omega arith;
  entries = λ j lj. omega (arith, h j lj);
  marked = λ n ln q.
      let i : nodes - 1 - n < nodes = omega arith in
      (nodes - 1 - n, i, omega (arith, h (nodes - 1 - n) i));
}

pub zeros_none : (d : List ℕ) → ((j : ℕ) → j < length d → get_or d j 0 ≡ 1) → zeros d ≡ 0
unfolding zeros
zeros_none [] h = refl
zeros_none (x ∷ d) h = rw (h 0 (omega arith)) (omega (arith, zeros_none d (λ j l. h (suc j) (omega arith))))

-- ---- what `put` does

module _ (d st : List ℕ) (top b : ℕ) (wanted : Bool) where
  pub unwanted : wanted ≡ false → Put d st top b (fresh d st top b wanted) d st top
  unwanted e = record { marks = rw e; stack = rw e; height = rw e }

  module _ (e : wanted ≡ true) where
    pub full : length st ≤ top → Put d st top b (fresh d st top b wanted) d st top
    full h =
        let l = le-ltb top (length st) h in
        record { marks = rw (e, l); stack = rw (e, l); height = rw (e, l) }

    module _ (place : top < length st) where
      abbrev l : ltb top (length st) ≡ true
      l = lt-ltb top (length st) place

      pub markless : length d ≤ b → Put d st top b (fresh d st top b wanted) d st top
      markless h =
          let m = le-ltb b (length d) h in
          record { marks = rw (e, l, m); stack = rw (e, l, m); height = rw (e, l, m) }

      module _ (mark : b < length d) where
        abbrev m : ltb b (length d) ≡ true
        m = lt-ltb b (length d) mark

        pub too_large : 65535 < b → Put d st top b (fresh d st top b wanted) d st top
        too_large h =
            let s = lt-leb b 65535 h in
            record { marks = rw (e, l, m, s); stack = rw (e, l, m, s); height = rw (e, l, m, s) }

        module _ (low : b ≤ 65535) where
          abbrev s : leb b 65535 ≡ true
          s = le-leb b 65535 low

          pub marked : (get_or d b 0 ≡ 0 → ⊥) → Put d st top b (fresh d st top b wanted) d st top
          marked h =
              let f = ne_eqb (get_or d b 0) 0 h in
              record { marks = rw (e, l, m, s, f); stack = rw (e, l, m, s, f); height = rw (e, l, m, s, f) }

          pub stacked : get_or d b 0 ≡ 0 → Put d st top b (fresh d st top b wanted) (set d b 1) (set st top b) (top + 1)
          stacked h =
              let f = eq-eqb (get_or d b 0) 0 h in
              record { marks = rw (e, l, m, s, f); stack = rw (e, l, m, s, f); height = rw (e, l, m, s, f) }

-- a node that has a mark and a place, is wanted and is not on the stack goes there
pub fresh_so : (nodes : ℕ) (d st : List ℕ) (top b : ℕ) → b ≤ 65535 → b < length d → get_or d b 0 ≡ 0 → Stacked nodes d st top → fresh d st top b true ≡ true
fresh_so nodes d st top b low mark z w =
    both (both (lt-ltb top (length st) (put_room nodes d st b top mark z w)) (both (lt-ltb b (length d) mark) (le-leb b 65535 low))) (eq-eqb (get_or d b 0) 0 z)

pub fresh_unmarked : (d st : List ℕ) (top b : ℕ) (wanted : Bool) → fresh d st top b wanted ≡ true → (wanted ≡ true) × (get_or d b 0 ≡ 0)
fresh_unmarked d st top b wanted f =
    (left wanted _ f, eqb-true (get_or d b 0) 0 (right (holds d st top b) _ (right wanted _ f)))

-- ---- what `take` does

-- a node that has no mark is taken too
pub taken_unmarked : (d st : List ℕ) (top t : ℕ) → top ≡ t + 1 → t < length st → length d ≤ get_or st t 0 → Takes d st top (Some (get_or st t 0)) d st t
taken_unmarked d st top t e l h =
    subst (λ (a : List ℕ). Takes d st top (Some (get_or st t 0)) a st t) (set_out d (get_or st t 0) 0 h) (taken e l)

-- ---- what `fill` stores

pub count_more : (n : ℕ) (st : List ℕ) (i : ℕ) → count_down n st (i + 1) ≡ set (count_down n st i) i (n - 1 - i)
unfolding count_down
count_more n st i = rw (add-one i)

pub count_long : (n : ℕ) (st : List ℕ) (i : ℕ) → length (count_down n st i) ≡ length st
unfolding count_down
count_long n st zero = refl
count_long n st (suc i) = length-set (count_down n st i) i (n - 1 - i) ∙ count_long n st i

counted : (n : ℕ) (st : List ℕ) (i : ℕ) → i ≤ length st → (j : ℕ) → j < i → get_or (count_down n st i) j 0 ≡ n - 1 - j
counted n st zero h = below_none _
counted n st (suc i) h =
    rw (← add-one i, count_more n st i) (set_more (λ j. n - 1 - j) (count_down n st i) i (n - 1 - i) (omega (arith, count_long n st i)) refl (counted n st i (omega arith)))

pub fills_by : (n : ℕ) (st st' : List ℕ) → n ≤ length st → n ≤ 65535 → st' ≡ count_down n st n → Fills n st st'
fills_by n st st' h l e = rw e (filled h l)

pub fills_all : (n : ℕ) (st : List ℕ) {st' : List ℕ} → n ≤ length st → n ≤ 65535 → Fills n st st' → (j : ℕ) → j < n → get_or st' j 0 ≡ n - 1 - j
fills_all n st h l (filled _ _) = counted n st n h
fills_all n st h l (kept d) = absurd (d h l)

-- ---- one answer, and one content

pub put_one : {d st a b x y : List ℕ} {top n i j : ℕ} {new : Bool} → Put d st top n new a x i → Put d st top n new b y j → (a ≡ b) × (x ≡ y) × (i ≡ j)
put_one f h = (f.marks ∙ sym h.marks, f.stack ∙ sym h.stack, f.height ∙ sym h.height)

pub takes_one : {d st a b x y : List ℕ} {top i j : ℕ} {m n : Option ℕ} → Takes d st top m a x i → Takes d st top n b y j → (m ≡ n) × (a ≡ b) × (x ≡ y) × (i ≡ j)
takes_one {d} {st} (taken {t} e l) (taken {t = u} f k) =
    let z : t ≡ u = omega arith in
    (ap (λ (i : ℕ). Some (get_or st i 0)) z, ap (λ (i : ℕ). set d (get_or st i 0) 0) z, refl, z)
takes_one (taken e l) (untaken h) = absurd (h _ e l)
takes_one (untaken h) (taken e l) = absurd (h _ e l)
takes_one (untaken h) (untaken k) = (refl, refl, refl, refl)

pub fills_one : {n : ℕ} {st a b : List ℕ} → Fills n st a → Fills n st b → a ≡ b
fills_one (filled k l) (filled m o) = refl
fills_one (filled k l) (kept h) = absurd (h k l)
fills_one (kept h) (filled k l) = absurd (h k l)
fills_one (kept h) (kept k) = refl
