-- What a field of a row says. Definitions alone.
pub mod Forms
use Rattle.std.specs.Prelude.{ℕ, List, cond, length, get_or, eqb, Option, Some, None, option_map, option_and_then}
use Rattle.scan.specs.Scan.{part_of, number_of, read_to}
use Rattle.scan.specs.declared.At.{At}
use Rattle.lex.specs.Lex.{before_at}
use Rattle.lex.specs.declared.Part.{Part}
use Rattle.lex.specs.declared.Mark.{Mark}
use Rattle.lex.specs.declared.Mark.TheVariants.{Comma, RowEnd}
use Rattle.fields.specs.declared.Form.{Form}
use Rattle.fields.specs.declared.Form.TheVariants.{Tag, Number, Own, Kind, Check, Marks, Way, Empty}

-- Letters as bytes.
abbrev pub G : ℕ
G = 71

abbrev pub N : ℕ
N = 78

abbrev pub E : ℕ
E = 69

abbrev pub C : ℕ
C = 67

abbrev pub R : ℕ
R = 82

abbrev pub K : ℕ
K = 75

abbrev pub T : ℕ
T = 84

abbrev pub P : ℕ
P = 80

-- A number in a field has at most so many digits.
abbrev pub most_digits : ℕ
most_digits = 4

-- The byte of a field of one byte; 0 for any other field.
abbrev pub letter_of : List ℕ → ℕ
letter_of l = cond (eqb (length l) 1) (get_or l 0 0) 0

abbrev pub empty_of : List ℕ → Option ℕ
empty_of l = cond (eqb (length l) 0) (Some 0) None

-- What a field of a form says, as a number: kinds 0 to 2, marks 0 for none, 1 P, 2 E and 3 PE, ways 0 and 1. A row's own number is to be i; a
-- check permission stands at a check (kind 2) alone.
unfoldable pub says : Form → List ℕ → Option ℕ
says (Tag b) l = cond (eqb (letter_of l) b) (Some 0) None
says Number l = number_of most_digits l
says (Own i) l = option_and_then (λ v. cond (eqb v i) (Some v) None) (number_of most_digits l)
says Kind l = cond (eqb (letter_of l) C) (Some 0) (cond (eqb (letter_of l) R) (Some 1) (cond (eqb (letter_of l) K) (Some 2) None))
says (Check kind) l = cond (eqb kind 2) (number_of most_digits l) (empty_of l)
says Marks l =
    cond (eqb (length l) 0) (Some 0)
    (cond (eqb (letter_of l) P) (Some 1)
    (cond (eqb (letter_of l) E) (Some 2)
    (cond (eqb (length l) 2) (cond (eqb (get_or l 0 0) P) (cond (eqb (get_or l 1 0) E) (Some 3) None) None) None)))
says Way l = cond (eqb (letter_of l) C) (Some 0) (cond (eqb (letter_of l) T) (Some 1) None)
says Empty l = empty_of l

-- What a part of the text says, and where the text goes on after it.
abbrev pub said_by : Form → List ℕ → Part → Option (At ℕ)
said_by form s p = option_map (λ v. read_to v p.next) (says form (part_of s p.start p.end))

-- A field of a form that a mark follows: a comma, or the row's end.
unfoldable pub said_at : Form → Mark → List ℕ → ℕ → Option (At ℕ)
said_at form m s at = option_and_then (said_by form s) (before_at m s at)

abbrev pub form_at : Form → List ℕ → ℕ → Option (At ℕ)
form_at form s at = said_at form Comma s at

abbrev pub end_at : Form → List ℕ → ℕ → Option (At ℕ)
end_at form s at = said_at form RowEnd s at
