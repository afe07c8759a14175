-- What a writer's known bytes are after a text was answered for: those of before, and then what the text prints.
use Rattle.std.specs.Prelude.{ℕ, List}
use Rattle.std.specs.declared.option.Option.{Option}
use Rattle.std.specs.Io.KnownBytes.{Appends}
use Rattle.answer.specs.Prints.{Prints}

abbrev pub Answered : List ℕ → Option (List ℕ) → Option (List ℕ) → Type 0
Answered s old new = (bs : List ℕ) × Prints s bs × Appends old new bs
