-- Laws of truth values, as facts of the form b ≡ true.
use Rattle.std.specs.Prelude.{◌≡◌, refl, ◌⊎◌, Bool, true, false, not, ◌&&◌, ◌||◌}
use Rattle.std.proofs.Common.{sym, ◌∙◌, inl, inr, true≢false}
use Rattle.std.proofs.lemmas.Bool.{false≢true}
use Rattle.truth.specs.Truth.{◌⇒◌}

pub split : (b : Bool) → (b ≡ true) ⊎ (b ≡ false)
split true = inl refl
split false = inr refl

pub clash : {A : Type 0} {b : Bool} → b ≡ true → b ≡ false → A
clash t f = absurd (true≢false (sym t ∙ f))

-- what holds on either side holds
pub by_split : {A : Type 0} (b : Bool) → (b ≡ true → A) → (b ≡ false → A) → A
by_split true t f = t refl
by_split false t f = f refl

-- two truth values that imply each other are one
pub same_bool : (a b : Bool) → (a ≡ true → b ≡ true) → (b ≡ true → a ≡ true) → a ≡ b
same_bool true b h k = sym (h refl)
same_bool false true h k = k refl
same_bool false false h k = refl

-- an implication, turned round
pub turned : (a b : Bool) → (a ≡ true → b ≡ true) → b ≡ false → a ≡ false
turned true b h f = clash (h refl) f
turned false b h f = refl

pub unturned : (a b : Bool) → (not a ≡ true → not b ≡ true) → b ≡ true → a ≡ true
unturned true b h t = refl
unturned false true h t = h refl
unturned false false h t = t

pub both : {a b : Bool} → a ≡ true → b ≡ true → a && b ≡ true
both {a = true} p q = q
both {a = false} p q = p

pub left : (a b : Bool) → a && b ≡ true → a ≡ true
left true b e = refl
left false b e = e

pub right : (a b : Bool) → a && b ≡ true → b ≡ true
right true b e = e
right false b e = absurd (false≢true e)

pub either : (a b : Bool) → a || b ≡ true → (a ≡ true) ⊎ (b ≡ true)
either true b e = inl refl
either false b e = inr e

pub or_left : {a : Bool} (b : Bool) → a ≡ true → a || b ≡ true
or_left {a = true} b e = refl
or_left {a = false} b e = absurd (false≢true e)

pub or_right : (a : Bool) {b : Bool} → b ≡ true → a || b ≡ true
or_right true e = refl
or_right false e = e

pub given : (a b : Bool) → a ⇒ b ≡ true → a ≡ true → b ≡ true
given true b e t = e
given false b e t = absurd (false≢true t)

pub when : (a b : Bool) → (a ≡ true → b ≡ true) → a ⇒ b ≡ true
when true b h = h refl
when false b h = refl
