-- Which way sums move.
use Rattle.std.specs.Prelude.{ℕ, ◌≤◌, ◌<◌, ◌^◌, min, Bool}
use Rattle.std.proofs.Common.{sym, ◌∙◌, arith, lt-ltb}
use Rattle.std.proofs.Math.Logic.{⊎_elim}
use Rattle.truth.specs.Truth.Bools.{clash, both, left, right, either, or_left, or_right}
use Rattle.sets.specs.Sets.{has}
use Rattle.sets.specs.Sets.Members.{has_join, has_common, has_empty, has_all}
use Rattle.sets.specs.Sets.Order.{empty_lt, all_lt, join_lt, common_lt}
use Rattle.graph.specs.Graph.{System, may, sure}
use Rattle.flow.specs.Walk.{start, merge, Toward}

pub toward_refl : (y : System) (a : Bool) → Toward y a a
toward_refl may a = λ t. t
toward_refl sure a = λ t. t

pub toward_trans : (y : System) (a b c : Bool) → Toward y a b → Toward y b c → Toward y a c
toward_trans may a b c f g = λ t. g (f t)
toward_trans sure a b c f g = λ t. f (g t)

module _ (a b p : ℕ) where
  pub merge_left : (y : System) → Toward y (has a p) (has (merge y a b) p)
  unfolding merge
  merge_left may = λ t. has_join a b p ∙ or_left (has b p) t
  merge_left sure = λ t. left (has a p) (has b p) (sym (has_common a b p) ∙ t)

  pub merge_right : (y : System) → Toward y (has b p) (has (merge y a b) p)
  unfolding merge
  merge_right may = λ t. has_join a b p ∙ or_right (has a p) t
  merge_right sure = λ t. right (has a p) (has b p) (sym (has_common a b p) ∙ t)

  pub merge_both : (y : System) (c : Bool) → Toward y (has a p) c → Toward y (has b p) c → Toward y (has (merge y a b) p) c
  unfolding merge
  merge_both may c f h = λ t. ⊎_elim f h (either (has a p) (has b p) (sym (has_join a b p) ∙ t))
  merge_both sure c f h = λ t. has_common a b p ∙ both (f t) (h t)

pub merge_lt : (y : System) (k a b : ℕ) → a < 2 ^ k → b < 2 ^ k → merge y a b < 2 ^ k
unfolding merge
merge_lt may k a b h l = join_lt k a b h l
merge_lt sure k a b h l = common_lt k a b h

pub start_lt : (y : System) (k : ℕ) → start y k < 2 ^ k
unfolding start
start_lt may k = empty_lt k
start_lt sure k = all_lt k k (omega arith)

pub start_first : (y : System) (k p : ℕ) (c : Bool) → k ≤ 64 → p < k → Toward y (has (start y k) p) c
unfolding start
start_first may k p c h l = λ t. clash t (has_empty p)
start_first sure k p c h l = λ t. has_all k p ∙ lt-ltb p (min k 64) (omega arith)
