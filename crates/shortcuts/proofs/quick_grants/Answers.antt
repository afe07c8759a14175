use Rattle.std.proofs.Common.{arith}
use Rattle.truth.specs.Truth.Tests.{says_true}
use Rattle.shortcuts.specs.Shortcuts.Short.{let_through, granting_start, granting_next, granting_end}
use Rattle.shortcuts.proofs.quick_grants.Goals as goal

pub loop-at-init : goal.loop-at-init
loop-at-init c = granting_start

pub returns-then-s-grant-ne32 : goal.returns-then-s-grant-ne32
returns-then-s-grant-ne32 c =
    let_through _ _ c.then_some.ensures
    (λ t. granting_end c.loop-at.invariant c.in_ok-grant.ensures c.if-grant-low.false (omega (arith, c.if-grant-ge-SET_BITS.false)) (says_true c.ends_row.ensures t))

pub loop-at-preserved : goal.loop-at-preserved
loop-at-preserved c = granting_next c.loop-at.invariant c.in_ok-grant.ensures c.if-grant-low.false (omega (arith, c.if-grant-ge-SET_BITS.false)) c.if-s-grant-ne32.false
