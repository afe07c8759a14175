-- What a row of a text means: the first row, a node's and an edge's. Definitions alone.
pub mod Rows
use Rattle.std.specs.Prelude.{ℕ, ◌%◌, ◌/◌, ◌^◌, List, cond, ltb, Option, Some, None, option_map, option_and_then}
use Rattle.scan.specs.declared.At.{At}
use Rattle.scan.specs.Scan.{read_to, part_of, members_of}
use Rattle.lex.specs.Lex.{last_at}
use Rattle.lex.specs.declared.Part.{Part}
use Rattle.fields.specs.declared.Form.{Form}
use Rattle.fields.specs.declared.Form.TheVariants.{Tag, Number, Own, Kind, Check, Marks, Way, Empty}
use Rattle.fields.specs.Fields.{G, N, E, most_digits, form_at, end_at}
use Rattle.graph.specs.Graph.{size_of}
use Rattle.graph.specs.Judge.{range_test}
use Rattle.graph.specs.declared.Size.{Size}
use Rattle.graph.specs.declared.Node.{Node}
use Rattle.graph.specs.declared.Edge.{Edge}
use Rattle.records.specs.declared.Three.{Three}
use Rattle.records.specs.declared.Lead.{Lead}

-- A field or a part of a row, and then what follows it; nothing where it can't be read.
infixr 20 ◌⟫◌
abbrev pub ◌⟫◌ : {X Y : Type 0} → Option (At X) → (X → (next : ℕ) → Option Y) → Option Y
Some x ⟫ f = f x.value x.next
None ⟫ f = None

-- What is read, by f.
abbrev pub read_as : {X Y : Type 0} → (X → Y) → Option (At X) → Option (At Y)
read_as f x = x ⟫ λ v p. Some (read_to (f v) p)

-- Grants end a row: a set as the number with those bits, of any size.
abbrev pub grants_by : List ℕ → Part → Option (At ℕ)
grants_by s p = option_map (λ x. read_to x p.next) (members_of most_digits (part_of s p.start p.end))

unfoldable pub grants_at : List ℕ → ℕ → Option (At ℕ)
grants_at s at = option_and_then (grants_by s) (last_at s at)

-- A letter, two numbers, a field of a form and two empty fields.
unfoldable pub three_at : (letter : ℕ) → Form → List ℕ → ℕ → Option (At Three)
three_at letter form s at =
    form_at (Tag letter) s at ⟫ λ _ p. form_at Number s p ⟫ λ a p. form_at Number s p ⟫ λ b p. form_at form s p ⟫ λ c p.
    form_at Empty s p ⟫ λ _ p. end_at Empty s p ⟫ λ _ p. Some (read_to (record { a = a; b = b; c = c }) p)

-- The first row: G, K, N, M and two empty fields, the counts in range.
unfoldable pub header_at : List ℕ → ℕ → Option (At Size)
header_at s at = three_at G Number s at ⟫ λ x p. cond (range_test (size_of x.a x.b x.c)) (Some (read_to (size_of x.a x.b x.c) p)) None

-- A node row: N, its number, its kind, its check permission, its marks; and its grants.
unfoldable pub lead_at : List ℕ → (at i : ℕ) → Option (At Lead)
lead_at s at i =
    form_at (Tag N) s at ⟫ λ _ p. form_at (Own i) s p ⟫ λ _ p. form_at Kind s p ⟫ λ kind p. form_at (Check kind) s p ⟫ λ check p.
    form_at Marks s p ⟫ λ marks p. Some (read_to (record { kind = kind; check = check; marks = marks }) p)

abbrev pub node_of : Lead → (grants : ℕ) → Node
node_of x grants = record { kind = x.kind; check = x.check; privileged = x.marks % 2; entry = x.marks / 2; grants = grants }

unfoldable pub node_at : List ℕ → (at i : ℕ) → Option (At Node)
node_at s at i = lead_at s at i ⟫ λ x p. read_as (node_of x) (grants_at s p)

-- An edge row: E, from, to, its kind and two empty fields.
unfoldable pub edge_at : List ℕ → (at : ℕ) → Option (At Edge)
edge_at s at = read_as (λ x. record { from = x.a; to = x.b; way = x.c }) (three_at E Way s at)

-- A node as it is handed on: where 64 bits can't hold its grants its kind is none, which breaks the node's rule as its grants do.
abbrev pub no_kind : ℕ
no_kind = 255

abbrev pub kept : Node → Node
kept x = cond (ltb x.grants (2 ^ 64)) x (record { kind = no_kind; check = 0; privileged = 0; entry = 0; grants = 0 })
