-- The node on top is taken, whether or not it has a mark.
use Rattle.std.proofs.Common.{◌≡◌, ◌+◌}
use Rattle.worklist.specs.Worklist.{taken, untaken}
use native.Mathlib.Omega.{arith}
use Rattle.worklist.specs.Worklist.Stack.{taken_unmarked}
use Rattle.worklist.proofs.Pending.take.Goals.{then-node-self, else-node-self}
use Rattle.worklist.proofs.Pending.take.Goals as goal

pub returns-in_err-top-clause-taken : goal.returns-in_err-top-clause-taken
returns-in_err-top-clause-taken c = rw c.from_residual.ensures (untaken (λ t e l. c.in_err-top.ensures (omega arith)))

pub returns-then-self-top-clause-taken : goal.returns-then-self-top-clause-taken
returns-then-self-top-clause-taken c = untaken (λ t e l. omega (arith, c.in_ok-top.ensures))

pub returns-clause-taken : goal.returns-clause-taken
returns-clause-taken c =
    let e : c.args.self.now.top ≡ c.in_ok-top.top + 1 = omega (arith, c.in_ok-top.ensures) in
    elim c.if-node-self.branch [
      | then-node-self w ↦ rw w.self-is (taken {t = c.in_ok-top.top} e c.if-self-top.false)
      | else-node-self w ↦ rw w.self-is (taken_unmarked _ _ _ _ e c.if-self-top.false w.if-node-self.false)
    ]
