-- What full inspection of a frame comes to.
use Rattle.std.specs.Prelude.{ℕ, ◌≤◌, ◌≡◌, List, ◌∷◌, true, get_or}
use Rattle.std.proofs.Common.{ap, arith}
use Rattle.truth.specs.Truth.Bools.{by_split, clash}
use Rattle.sets.specs.Sets.{has}
use Rattle.graph.specs.Graph.{privileged_by}
use Rattle.stacks.specs.Machine.{Rights, Inspected, full}
use Rattle.stacks.specs.Machine.Inspections.{full_lacks, full_stops, full_below}

module _ (x : Rights) (p n : ℕ) (r : List ℕ) where
  -- what passes has the permission
  pub full_grants : (full x p (n ∷ r)).passes ≡ true → has (get_or x.grants n 0) p ≡ true
  full_grants t = by_split (has (get_or x.grants n 0) p) (λ a. a) (λ a. clash t (ap (λ (y : Inspected). y.passes) (full_lacks x p n r a)))

  pub full_looks : 1 ≤ (full x p (n ∷ r)).looked
  full_looks =
      by_split (has (get_or x.grants n 0) p)
      (λ a. by_split (privileged_by (get_or x.marks n 0) p) (λ v. rw (full_stops x p n r a v) (omega arith)) (λ v. rw (full_below x p n r a v) (omega arith)))
      (λ a. rw (full_lacks x p n r a) (omega arith))
