use native.Mathlib.Omega.{arith}
use mathlib.Core.Path.{◌≡◌}
use lib.ListN.{length}
use borrow.Author.Count.{below_none, below_more}
use Rattle.truth.specs.Truth.{holds}
use Rattle.truth.specs.Truth.Tests.{says_same, and?, lt?}
use Rattle.worklist.proofs.all_below.Goals as goal

pub returns-then-n-gt-LARGEST : goal.returns-then-n-gt-LARGEST
returns-then-n-gt-LARGEST c = holds (λ i l. omega (arith, c.type_inv.list i))

pub loop-number-init : goal.loop-number-init
loop-number-init c = holds (below_none _)

pub loop-number-preserved : goal.loop-number-preserved
loop-number-preserved c =
    says_same (and? c.loop-number.invariant (lt? _ _)) (λ p. below_more _ _ p.0 p.1) (λ a. ((λ j l. a j (omega arith)), a _ (omega arith)))

pub returns : goal.returns
returns c =
    let e : c.loop-number.number-index ≡ length c.args.list.now = omega arith in
    rw (← e) c.loop-number.invariant
