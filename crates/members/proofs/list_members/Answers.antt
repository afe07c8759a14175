use Rattle.std.proofs.Common.{arith, rules, sym, ◌∙◌}
use Rattle.writer.specs.Writer.Places.{puts_none, puts_then, puts_as, puts_long, put_in}
use Rattle.members.specs.Members.{members_from}
use Rattle.members.specs.Members.Laws.{members_with, members_same, members_all}
use Rattle.members.proofs.list_members.Goals as goal
use Rattle.members.proofs.list_members.Goals.{then-has, else-has}

pub loop-p-init : goal.loop-p-init
unfolding members_from
loop-p-init c = (puts_none (omega arith), omega arith)

pub loop-p-preserved : goal.loop-p-preserved
loop-p-preserved c =
    let v = c.loop-p in
    let long = puts_long v.invariant.0 ∙ c.requires in
    elim c.if-has.branch [
      | then-has w ↦
          (rw (w.list-is, w.count-is) (puts_as (members_with _ _ (sym c.has.ensures ∙ w.if-has.true)) (puts_then (omega (arith, c.requires)) v.invariant.0 (put_in (omega (arith, long, v.invariant.1)) (omega (arith, long))))), omega arith)
      | else-has w ↦ (rw (w.list-is, w.count-is) (puts_as (members_same _ _ (sym c.has.ensures ∙ w.if-has.false)) v.invariant.0), omega arith)
    ]

pub returns : goal.returns
returns c = puts_as (members_all _ _ (search rules) (omega (arith, c.loop-p-test.false, c.loop-p.auto.p-end))) c.loop-p.invariant.0
