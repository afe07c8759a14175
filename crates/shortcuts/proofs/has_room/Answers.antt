use Rattle.std.proofs.Common.{arith}
use Rattle.truth.specs.Truth.Tests.{says_same, le?}
use Rattle.shortcuts.proofs.has_room.Goals as goal

pub returns-then-count-s : goal.returns-then-count-s
returns-then-count-s c = says_same (le? _ _) (λ h. omega (arith, h)) (λ h. omega (arith, h))

pub returns-else-count-s : goal.returns-else-count-s
returns-else-count-s c = says_same (le? _ _) (λ h. omega (arith, h)) (λ h. omega (arith, h))
