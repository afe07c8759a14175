-- What `stack_fits` promises: a stack of node numbers below n in a slice of at most 1,024 places, height of them used.
use Rattle.std.specs.Prelude.{ℕ, ◌<◌, ◌≤◌, List, length, get_or}
use Rattle.truth.specs.Truth.{All}

-- The frame at place i is a node.
abbrev pub Frame : (n : ℕ) (stack : List ℕ) → ℕ → Type 0
Frame n stack i = get_or stack i 0 < n

pub record StackFits (n : ℕ) (stack : List ℕ) (height : ℕ) : Type 0 where
  pub slice : length stack ≤ 1024
  pub held : height ≤ length stack
  pub nodes : All (Frame n stack) height
