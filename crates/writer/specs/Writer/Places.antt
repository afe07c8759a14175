-- Bytes one after another, and that each call that writes them leaves one answer and one content.
use Rattle.std.specs.Prelude.{ℕ, suc, ◌+◌, ◌≤◌, ◌<◌, ◌≡◌, refl, List, [], ◌∷◌, ◌++◌, length, get_or, take, set, ltb}
use Rattle.std.proofs.Common.{sym, ap, ap₂, ◌∙◌, subst, add-one, add-zero, arith, length-append, take_all, take-suc, ltb-true, ltb-false}
use Rattle.std.proofs.lemmas.List.Edits.{sets}
use Rattle.std.proofs.Math.Seq.{length-sets, set_out}
use Rattle.truth.specs.Truth.Bools.{by_split}
use Rattle.writer.specs.declared.Writer.{Writer}
use Rattle.writer.specs.Writer.{last_place, place_of, Puts, IsWriter, Adds}

-- ---- bytes, and bytes after them

sets_append : (l : List ℕ) (i : ℕ) (xs ys : List ℕ) → sets (sets l i xs) (i + length xs) ys ≡ sets l i (xs ++ ys)
sets_append l i [] ys = ap (λ j. sets l j ys) (add-zero i)
sets_append l i (x ∷ xs) ys = ap (λ j. sets (sets (set l i x) (suc i) xs) j ys) (omega arith) ∙ sets_append (set l i x) (suc i) xs ys

sets_past : (l : List ℕ) (i : ℕ) (xs : List ℕ) → length l ≤ i → sets l i xs ≡ l
sets_past l i [] h = refl
sets_past l i (x ∷ xs) h = ap (λ m. sets m (suc i) xs) (set_out l i x h) ∙ sets_past l (suc i) xs (omega arith)

sets_place : (l : List ℕ) (n : ℕ) (xs : List ℕ) → length l ≤ last_place → sets l (place_of n) xs ≡ sets l n xs
sets_place l n xs h =
    by_split (ltb n last_place)
    (λ t. ap (λ i. sets l i xs) (omega (arith, ltb-true n last_place t)))
    (λ t.
    let p = ltb-false n last_place t in
    sets_past l (place_of n) xs (omega (arith, h, p)) ∙ sym (sets_past l n xs (omega (arith, h, p))))

pub puts_none : {l : List ℕ} {i : ℕ} → i ≤ last_place → Puts [] l i i l
puts_none h = record { answer = omega (arith, h); content = refl }

pub puts_long : {bytes l m : List ℕ} {i j : ℕ} → Puts bytes l i j m → length m ≡ length l
puts_long {bytes} {l} {m} {i} p = ap length p.content ∙ length-sets l i bytes

pub puts_then : {xs ys l m n : List ℕ} {i j k : ℕ} → length l ≤ last_place → Puts xs l i j m → Puts ys m j k n → Puts (xs ++ ys) l i k n
puts_then {xs} {ys} {l} {m} {n} {i} {j} {k} h a b = record {
  answer = omega (arith, a.answer, b.answer, length-append xs ys);
  content =
      b.content
      ∙ ap₂ (λ (x : List ℕ) (y : ℕ). sets x y ys) a.content a.answer
      ∙ sets_place (sets l i xs) (i + length xs) ys (omega (arith, h, length-sets l i xs))
      ∙ sets_append l i xs ys;
}

-- bytes that are written from the start of a buffer, no more of them than there are places
pub puts_count : {bytes l m : List ℕ} {r : ℕ} → Puts bytes l 0 r m → length bytes ≤ last_place → r ≡ length bytes
puts_count p h = omega (arith, p.answer, h)

pub puts_one : {bytes l a b : List ℕ} {i r s : ℕ} → Puts bytes l i r a → Puts bytes l i s b → (r ≡ s) × (a ≡ b)
puts_one p q = (p.answer ∙ sym q.answer, p.content ∙ sym q.content)

-- ---- what a writer adds

pub adds_none : {w : Writer} → IsWriter w → Adds [] w w
adds_none s = record { writer = s; puts = puts_none s.place; same = refl }

pub adds_then : {xs ys : List ℕ} {u v w : Writer} → Adds xs u v → Adds ys v w → Adds (xs ++ ys) u w
adds_then a b = record { writer = a.writer; puts = puts_then a.writer.buffer a.puts b.puts; same = b.same ∙ a.same }

pub adds_one : {bytes : List ℕ} {u v w : Writer} → Adds bytes u v → Adds bytes u w → (v.at ≡ w.at) × (v.out.now ≡ w.out.now)
adds_one a b = puts_one a.puts b.puts

pub adds_as : {xs ys : List ℕ} {u v : Writer} → xs ≡ ys → Adds xs u v → Adds ys u v
adds_as {u = u} {v = v} e a = subst (λ x. Adds x u v) e a

-- the first i bytes of a list, and one more
pub take_more : (l : List ℕ) (i : ℕ) → i < length l → take i l ++ (get_or l i 0 ∷ []) ≡ take (i + 1) l
take_more l i h = rw add-one (sym (take-suc l i 0 h))

pub adds_next : {u v w : Writer} (bytes : List ℕ) (i : ℕ) → i < length bytes → Adds (take i bytes) u v → Adds (get_or bytes i 0 ∷ []) v w → Adds (take (i + 1) bytes) u w
adds_next bytes i h a b = adds_as (take_more bytes i h) (adds_then a b)

pub adds_all : {u v : Writer} (bytes : List ℕ) (i : ℕ) → length bytes ≤ i → Adds (take i bytes) u v → Adds bytes u v
adds_all bytes i h a = adds_as (take_all i bytes h) a

-- a writer that began at the start of its buffer has counted what it added
pub adds_count : {bytes : List ℕ} {u v : Writer} → Adds bytes u v → u.at ≡ 0 → length bytes ≤ last_place → v.at ≡ length bytes
adds_count a z h = omega (arith, a.puts.answer, z, h)

-- ---- places of 64 bits, and one byte at a place

pub place_past : (n : ℕ) → last_place ≤ n → place_of n ≡ last_place
place_past n h = omega (arith, h)

pub place_low : (n : ℕ) → n ≤ last_place → place_of n ≡ n
place_low n h = omega (arith, h)

pub place_le : (n : ℕ) → place_of n ≤ n
place_le n = omega arith

-- no slice reaches the largest place
pub lent : {n : ℕ} → n < 18446744073709551616 → n ≤ last_place
lent h = omega (arith, h)

-- nor after bytes were written to it
pub lent_after : {bytes l m : List ℕ} {i j : ℕ} → length l ≤ last_place → Puts bytes l i j m → length m ≤ last_place
lent_after h p = omega (arith, h, puts_long p)

pub puts_as : {xs ys l m : List ℕ} {i j : ℕ} → xs ≡ ys → Puts xs l i j m → Puts ys l i j m
puts_as {l = l} {m = m} {i = i} {j = j} e p = subst (λ x. Puts x l i j m) e p

pub put_past : {b i r : ℕ} {l : List ℕ} → length l ≤ i → r ≡ place_of (i + 1) → Puts (b ∷ []) l i r l
put_past {b} {i} {r} {l} h e = record { answer = e; content = sym (set_out l i b h) }

pub put_in : {b i : ℕ} {l : List ℕ} → i < length l → length l ≤ last_place → Puts (b ∷ []) l i (i + 1) (set l i b)
put_in {i = i} h k = record { answer = sym (place_low (i + 1) (omega (arith, h, k))); content = refl }
