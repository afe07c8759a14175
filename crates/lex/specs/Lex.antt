-- RFC 4180 fields of a text. Definitions alone.
pub mod Fields
pub mod Bare
use Rattle.std.specs.Prelude.{ℕ, ◌+◌, List, cond, length, get_or, drop, eqb, ltb, leb, Option, Some, None, option_and_then}
use Rattle.scan.specs.Scan.{quote, comma, cr, lf, run}
use Rattle.scan.specs.declared.Class.TheVariants.{Plain, Inside}
use Rattle.lex.specs.declared.Part.{Part}
use Rattle.lex.specs.declared.Mark.{Mark}
use Rattle.lex.specs.declared.Mark.TheVariants.{Comma, RowEnd}
use Rattle.lex.specs.declared.Lexed.{Lexed}

-- A field from start up to end, past which and past what follows it the text goes on at next.
abbrev pub part : (start end next : ℕ) → Part
part start end next = record { start = start; end = end; next = next }

abbrev pub lexed : Part → Mark → Lexed
lexed p m = record { part = p; mark = m }

-- A field from start up to end, where the text goes on at a: there the text ends, or a comma follows, or CRLF; else it is malformed.
unfoldable pub followed : List ℕ → (start end a : ℕ) → Option Lexed
followed s start end a =
    cond (leb (length s) a) (Some (lexed (part start end a) RowEnd))
    (cond (eqb (get_or s a 0) comma) (Some (lexed (part start end (a + 1)) Comma))
    (cond (eqb (get_or s a 0) cr) (cond (eqb (get_or s (a + 1) 0) lf) (Some (lexed (part start end (a + 2)) RowEnd)) None) None))

-- Past an opening quote: up to the next quote, which has to be there. A doubled quote is malformed.
unfoldable pub quoted_at : List ℕ → ℕ → Option Lexed
quoted_at s b =
    cond (ltb (b + run Inside (drop b s)) (length s))
    (followed s b (b + run Inside (drop b s)) (b + run Inside (drop b s) + 1))
    None

unfoldable pub plain_at : List ℕ → ℕ → Option Lexed
plain_at s b = followed s b (b + run Plain (drop b s)) (b + run Plain (drop b s))

-- The field at a position, and what follows it.
unfoldable pub field_at : List ℕ → ℕ → Option Lexed
field_at s at = cond (eqb (get_or s at 0) quote) (quoted_at s (at + 1)) (plain_at s at)

-- A field, where the mark that follows it is the one asked for.
abbrev pub marked : (asked there : Mark) → Part → Option Part
marked Comma Comma p = Some p
marked Comma RowEnd p = None
marked RowEnd Comma p = None
marked RowEnd RowEnd p = Some p

unfoldable pub before_at : Mark → List ℕ → ℕ → Option Part
before_at m s at = option_and_then (λ (x : Lexed). marked m x.mark x.part) (field_at s at)

-- A field that a comma follows; a field that a row's end follows.
abbrev pub comma_at : List ℕ → ℕ → Option Part
comma_at s at = before_at Comma s at

abbrev pub last_at : List ℕ → ℕ → Option Part
last_at s at = before_at RowEnd s at
