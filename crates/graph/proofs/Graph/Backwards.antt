-- The worked graph whose edges stand backwards has one content.
use Rattle.graph.specs.Graph.Backwards.{backwards, backwards_slices, computed}
use Rattle.std.specs.Prelude.{◌≡◌}
use Rattle.graph.specs.Graph.{Slices, Content}
use Rattle.graph.proofs.Graph.Tables.{computed_one}

pub backwards_one : {s : Slices} → Content backwards s → s ≡ backwards_slices
backwards_one = computed_one backwards backwards_slices 2 0 computed
