-- Sets by inclusion, their bounds as numbers, and the number of a set as a measure.
use Rattle.std.specs.Prelude.{◌≡◌, refl, Bool, true, false, ◌&&◌, ◌↔◌, ℕ, ◌^◌, ◌≤◌, ◌<◌, min}
use Rattle.std.proofs.Common.{sym, ap, ◌∙◌, ⊎_elim, lt_of_lt_of_le, lt_of_le_of_lt, arith, pow_pos, pow_mono, lt-ltb, le-ltb, eq-eqb, eqb-true}
use Rattle.std.proofs.Math.Bool.{or_assoc}
use Rattle.std.proofs.Math.Decide.{dec_lt}
use Rattle.std.proofs.Math.Pow.{pow-lt, ones_lt}
use Rattle.std.specs.Int.Bits.{bit_and, or_add_and}
use Rattle.std.proofs.lemmas.Nat.{and_le_l, and_le_r, or_lt, xor_lt, and_comm}
use Rattle.std.proofs.lemmas.Bool.{eqb-false}
use Rattle.truth.specs.Truth.Bools.{by_split, clash, same_bool, both, left, right, either, or_left, or_right}
use Rattle.sets.specs.Sets.{has, empty, all, join, common, without, add, within, same}
use Rattle.sets.specs.Sets.Members.{has_join, has_common, has_empty, same_members}

-- ---- inclusion

implied : (x y : Bool) → (x ≡ true → y ≡ true) → (x && y) ≡ x
implied true y f = f refl
implied false y f = refl

-- to lie within is to have no member that the other lacks
pub within_members : (a b : ℕ) → (within a b ≡ true) ↔ ((p : ℕ) → has a p ≡ true → has b p ≡ true)
unfolding within common
within_members a b = (
  (λ w p h. right (has a p) (has b p) (sym (has_common a b p) ∙ ap (λ (s : ℕ). has s p) (eqb-true (bit_and a b) a w) ∙ h)),
  λ f. eq-eqb (bit_and a b) a (same_members (common a b) a (λ p. has_common a b p ∙ implied (has a p) (has b p) (f p))),
)

pub within_refl : (a : ℕ) → within a a ≡ true
within_refl a = (within_members a a).1 (λ p h. h)

pub within_trans : (a b c : ℕ) → within a b ≡ true → within b c ≡ true → within a c ≡ true
within_trans a b c u v = (within_members a c).1 (λ p h. (within_members b c).0 v p ((within_members a b).0 u p h))

pub within_antisym : (a b : ℕ) → within a b ≡ true → within b a ≡ true → a ≡ b
within_antisym a b u v = same_members a b (λ p. same_bool (has a p) (has b p) ((within_members a b).0 u p) ((within_members b a).0 v p))

pub empty_within : (a : ℕ) → within empty a ≡ true
empty_within a = (within_members empty a).1 (λ p h. clash h (has_empty p))

pub join_left : (a b : ℕ) → within a (join a b) ≡ true
join_left a b = (within_members a (join a b)).1 (λ p h. has_join a b p ∙ or_left (has b p) h)

pub join_right : (a b : ℕ) → within b (join a b) ≡ true
join_right a b = (within_members b (join a b)).1 (λ p h. has_join a b p ∙ or_right (has a p) h)

pub join_least : (a b c : ℕ) → within a c ≡ true → within b c ≡ true → within (join a b) c ≡ true
join_least a b c u v =
    (within_members (join a b) c).1
    (λ p h. ⊎_elim ((within_members a c).0 u p) ((within_members b c).0 v p) (either (has a p) (has b p) (sym (has_join a b p) ∙ h)))

pub common_left : (a b : ℕ) → within (common a b) a ≡ true
common_left a b = (within_members (common a b) a).1 (λ p h. left (has a p) (has b p) (sym (has_common a b p) ∙ h))

pub common_right : (a b : ℕ) → within (common a b) b ≡ true
common_right a b = (within_members (common a b) b).1 (λ p h. right (has a p) (has b p) (sym (has_common a b p) ∙ h))

pub common_greatest : (a b c : ℕ) → within c a ≡ true → within c b ≡ true → within c (common a b) ≡ true
common_greatest a b c u v =
    (within_members c (common a b)).1 (λ p h. has_common a b p ∙ both ((within_members c a).0 u p h) ((within_members c b).0 v p h))

-- ---- a set of k digits stays one

pub empty_lt : (k : ℕ) → empty < 2 ^ k
unfolding empty
empty_lt k = pow_pos k

pub all_lt : (k j : ℕ) → min k 64 ≤ j → all k < 2 ^ j
unfolding all
all_lt k j h = lt_of_lt_of_le (ones_lt (min k 64)) (pow_mono h)

pub join_lt : (k a b : ℕ) → a < 2 ^ k → b < 2 ^ k → join a b < 2 ^ k
unfolding join
join_lt k a b = or_lt k a b

pub common_lt : (k a b : ℕ) → a < 2 ^ k → common a b < 2 ^ k
unfolding common
common_lt k a b h = lt_of_le_of_lt (and_le_l a b) h

pub without_lt : (k a b : ℕ) → a < 2 ^ k → without a b < 2 ^ k
unfolding without
without_lt k a b h = xor_lt k a (bit_and a b) h (lt_of_le_of_lt (and_le_l a b) h)

-- p need only be below k where a set has room for it
pub add_lt : (k s p : ℕ) → (p < 64 → p < k) → s < 2 ^ k → add s p < 2 ^ k
unfolding add
add_lt k s p f h = by_dec (dec_lt p 64)
  where
    by_dec : Dec (p < 64) → add s p < 2 ^ k
    by_dec (yes l) = unfold add in rw (lt-ltb p 64 l) (or_lt k s (2 ^ p) h (pow-lt (f l)))
    by_dec (no l) = unfold add in rw (le-ltb p 64 (omega arith)) h

-- ---- the number of a set as a measure

pub within_le : (a b : ℕ) → within a b ≡ true → a ≤ b
unfolding within
within_le a b w = omega (arith, and_le_r a b, eqb-true (bit_and a b) a w)

-- joining what is there already changes nothing; anything else makes the number more
pub join_same : (a b : ℕ) → (within b a ≡ true) ↔ (join a b ≡ a)
join_same a b = (
  (λ w. within_antisym (join a b) a (join_least a b a (within_refl a) w) (join_left a b)),
  λ e. rw e at (join_right a b),
)

pub join_more : (a b : ℕ) → (within b a ≡ false) ↔ (a < join a b)
unfolding within join
join_more a b = (
  (λ w. omega (arith, or_add_and a b, and_comm a b, and_le_l b a, eqb-false (bit_and b a) b w)),
  λ l. by_split (within b a) (λ w. absurd (omega (arith, (join_same a b).0 w))) (λ w. w),
)

-- the common part with a set that holds all of it changes nothing; with any other it makes the number less
pub common_same : (a b : ℕ) → (within a b ≡ true) ↔ (common a b ≡ a)
unfolding within common
common_same a b = (eqb-true (bit_and a b) a, eq-eqb (bit_and a b) a)

pub common_less : (a b : ℕ) → (within a b ≡ false) ↔ (common a b < a)
unfolding within common
common_less a b = (
  (λ w. omega (arith, and_le_l a b, eqb-false (bit_and a b) a w)),
  λ l. by_split (within a b) (λ w. absurd (omega (arith, (common_same a b).0 w))) (λ w. w),
)

-- ---- equal sets

pub same_eq : (a b : ℕ) → (same a b ≡ true) ↔ (a ≡ b)
unfolding same
same_eq a b = (eqb-true a b, eq-eqb a b)

pub join_comm : (a b : ℕ) → join a b ≡ join b a
join_comm a b =
    within_antisym (join a b) (join b a)
    (join_least a b (join b a) (join_right b a) (join_left b a)) (join_least b a (join a b) (join_right a b) (join_left a b))

pub join_assoc : (a b c : ℕ) → join (join a b) c ≡ join a (join b c)
join_assoc a b c =
    same_members (join (join a b) c) (join a (join b c)) (λ p. simp has_join (or_assoc (has a p) (has b p) (has c p)))
