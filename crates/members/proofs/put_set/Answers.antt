-- What is listed is read back from the list: the members, at most 64.
use Rattle.std.proofs.Common.{rules, arith, ap, take, length-take-le, sym, ◌∙◌}
use Rattle.std.proofs.Math.Nat.{sub-zero}
use Rattle.writer.specs.Writer.Places.{adds_as, puts_long}
use Rattle.members.specs.Members.{spaced}
use Rattle.members.specs.Members.Laws.{listed}
use Rattle.members.proofs.put_set.Goals as goal

pub slice_bounds-list-end : goal.slice_bounds-list-end
slice_bounds-list-end c =
    let long = puts_long c.list_members-count.ensures in
    omega (arith, long, (listed c.args.set (search rules) c.list_members-count.ensures).0)

pub slice_bounds-put_list-end : goal.slice_bounds-put_list-end
slice_bounds-put_list-end c =
    let long = puts_long c.list_members-count.ensures in
    let few = (listed c.args.set (search rules) c.list_members-count.ensures).0 in
    sym (length-take-le _ _ (omega (arith, long, few)))

pub returns : goal.returns
returns c =
    let members = (listed c.args.set (search rules) c.list_members-count.ensures).1 in
    adds_as (ap spaced (ap (λ i. take i c.list_members-count.new.list) (sym (sub-zero _)) ∙ members)) c.put_list.ensures
