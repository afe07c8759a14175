-- How a call's answer follows, that it leaves one answer and one content, and how long a refusal's row is.
use Rattle.std.specs.Prelude.{ℕ, ◌≤◌, ◌<◌, ◌≡◌, refl, List, length}
use Rattle.std.proofs.Common.{sym, ap, ◌∙◌, subst, arith, length-append}
use Rattle.std.proofs.lemmas.List.Edits.{sets}
use Rattle.graph.specs.Refusals.{numbered}
use Rattle.graph.specs.declared.Refusal.{Refusal}
use Rattle.graph.specs.declared.Refusal.TheVariants as why
use Rattle.writer.specs.Writer.{last_place, Puts, Adds}
use Rattle.writer.specs.declared.Writer.{Writer}
use Rattle.writer.specs.Writer.Places.{puts_count, adds_count}
use Rattle.writer.specs.Writer.Numbers.{decimal_short}
use Rattle.graph.specs.Refusals.{Written}
use Rattle.std.specs.Prelude.{Ok, Err}
use Rattle.refusals.specs.Writes.{refusal_row, refusal_bytes, Writes, written, too_short}

module _ {bytes before : List ℕ} {count : ℕ} (e : count ≡ length bytes) where
  pub writes_none : length before < count → Writes bytes before (Err why.NoRoom) before
  writes_none h = too_short (λ l. omega (arith, e, h, l))

  pub writes_all : {r : ℕ} {after : List ℕ} → count ≤ length before → Puts bytes before 0 r after → Writes bytes before (Ok count) after
  writes_all {r} {after} h p =
      subst (λ (l : List ℕ). Writes bytes before (Ok count) l) (sym p.content) (subst (λ (n : ℕ). Writes bytes before (Ok n) (sets before 0 bytes)) (sym e) (written (omega (arith, e, h))))

-- bytes that were written to a buffer with room for more
pub writes_close : {bytes before after : List ℕ} {r most : ℕ} → Puts bytes before 0 r after → most ≤ length before → length bytes ≤ most → most ≤ last_place → Writes bytes before (Ok r) after
writes_close p h k l = let e = puts_count p (omega (arith, k, l)) in writes_all e (omega (arith, e, h, k)) p

pub refusal_is : {number place : ℕ} (r : Refusal) → number ≡ (numbered r).number → place ≡ (numbered r).place → refusal_row number place ≡ refusal_bytes r
refusal_is {number} {place} r a b = ap (λ n. refusal_row n place) a ∙ ap (refusal_row (numbered r).number) b

-- a writer that began at the start of a buffer, with room for what it added
pub writes_added : {bytes after : List ℕ} {u v : Writer} → Adds bytes u v → u.at ≡ 0 → after ≡ v.out.now → length bytes ≤ length u.out.now → Writes bytes u.out.now (Ok v.at) after
writes_added {bytes} {after} {u} {v} a z e h =
    let n = adds_count a z (omega (arith, h, a.writer.buffer)) in
    let p : Puts bytes u.out.now 0 v.at v.out.now = rw z at a.puts in
    rw e (writes_all n (omega (arith, n, h)) p)

-- ---- one answer and one content

pub writes_one : {bytes before a b : List ℕ} {r s : Written} → Writes bytes before r a → Writes bytes before s b → (r ≡ s) × (a ≡ b)
writes_one (written h) (written i) = (refl, refl)
writes_one (written h) (too_short d) = absurd (d h)
writes_one (too_short d) (written h) = absurd (d h)
writes_one (too_short d) (too_short f) = (refl, refl)

-- ---- how long a refusal's row is

pub refusal_short : (number place : ℕ) → length (refusal_row number place) ≤ 51
refusal_short number place =
    let a = decimal_short 20 number in
    let b = decimal_short 20 place in
    simp length-append (omega arith)
