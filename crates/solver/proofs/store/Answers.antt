-- The edges of an accepted graph are linked (`lists_linked`), and MAY is solved. SURE is solved by MAY's out sets and by what MAY says of every
-- check (`may_any`); both, with the sets of the nodes, are the content asked for (`walked_content`).
use Rattle.std.specs.Prelude.{◌≡◌, ℕ, zero, suc, ◌≤◌, Bool, List, length, refl}
use Rattle.std.proofs.Common.{◌∙◌, arith, length-set}
use Rattle.std.proofs.Math.ListN.{replicate, length-replicate, get_or-replicate}
use Rattle.graph.specs.Graph.{may, sure}
use Rattle.graph.specs.Lent.{lent}
use Rattle.worklist.specs.Worklist.{Linked, Lists, link_to, Links, linked, kept}
use Rattle.flow.specs.Walk.{Setting}
use Rattle.flow.specs.Walk.Settled.{Settled}
use Rattle.flow.proofs.Walk.Stored.{walked_content}
use Rattle.flow.proofs.Walk.Settled.{may_any}
use Rattle.flow.proofs.Walk.Taken.{lists_linked}
use Rattle.solver.proofs.store.Goals.{After-link, After-spread}
use Rattle.solver.proofs.store.Goals as goal

-- ---- lists keep their lengths where edges are linked

link_to_long : (froms : List ℕ) (i : ℕ) (x : Lists) → (length (link_to froms i x).head ≡ length x.head) × (length (link_to froms i x).prev ≡ length x.prev)
unfolding link_to
link_to_long froms zero x = (refl, refl)
link_to_long froms (suc i) x = let w = link_to_long froms i x in (length-set _ _ _ ∙ w.0, length-set _ _ _ ∙ w.1)

links_long : {froms head prev : List ℕ} {r : Bool} {x : Lists} → Links froms head prev r x → (length x.head ≡ length head) × (length x.prev ≡ length prev)
links_long (linked _) = link_to_long _ _ _
links_long (kept _) = (refl, refl)

-- ---- the lists of the edges, and what MAY leaves

module _ (c : After-link) where
  edges_linked : Linked c.args.graph.now.edges.froms.now c.args.graph.now.size.n c.link.new.self.head.now c.link.new.self.prev.now c.args.graph.now.size.m
  edges_linked =
      let acc = c.requires.acceptable in
      let high = acc.shape.ranges in
      lists_linked _ _ _ acc (λ i l. get_or-replicate 1024 i 0 0 l) (omega (arith, high.n_high)) (omega (arith, high.m_high)) c.link.ensures.linked

  head_long : c.args.graph.now.size.n ≤ length c.link.new.self.head.now
  head_long = omega (arith, (links_long c.link.ensures.linked).0, c.requires.acceptable.shape.ranges.n_high)

  prev_long : c.args.graph.now.size.m ≤ length c.link.new.self.prev.now
  prev_long = omega (arith, (links_long c.link.ensures.linked).1, c.requires.acceptable.shape.ranges.m_high)

module _ (c : After-spread) where
  may_settled : Settled (lent c.args.graph.now) may c.args.into.now.may.now (replicate 1024 0) c.settle.new.sums.ins.now c.settle.new.sums.past.now c.spread.new.out
  may_settled =
      let s = c.settle.ensures.settled in
      record { setting = record { acc = c.requires.acceptable; any = tt }; good = s.good; quiet = s.quiet; stored = c.spread.ensures }

  sure_setting : Setting (lent c.args.graph.now) sure c.spread.new.out c.settle.new.sums.past.now
  sure_setting = record { acc = c.requires.acceptable; any = may_any _ _ _ _ _ _ may_settled }

pub settle-requires-clause-walkable : goal.settle-requires-clause-walkable
settle-requires-clause-walkable c =
    let k = (goal.at.settle-requires-clause-walkable c).After-link in
    let acc = c.requires.acceptable in
    record {
      setting = record { acc = acc; any = tt };
      linked = edges_linked k;
      head_long = head_long k;
      prev_long = prev_long k;
      wide_long = omega (arith, c.requires.long.may_long);
      any_long = omega (arith, length-replicate {A = ℕ} 1024 0, acc.shape.ranges.n_high);
    }

pub settle-requires-2-clause-walkable : goal.settle-requires-2-clause-walkable
settle-requires-2-clause-walkable c =
    let k = (goal.at.settle-requires-2-clause-walkable c).After-link in
    record {
      setting = sure_setting (goal.at.settle-requires-2-clause-walkable c).After-spread;
      linked = edges_linked k;
      head_long = head_long k;
      prev_long = prev_long k;
      wide_long = omega (arith, c.spread.auto.out, c.requires.long.may_long);
      any_long = c.settle.ensures.sums.past_long;
    }

pub returns-clause-content : goal.returns-clause-content
returns-clause-content c =
    let k = (goal.at.returns-clause-content c).After-spread in
    let s = c.settle-2.ensures.settled in
    let by_sure : Settled (lent c.args.graph.now) sure c.spread.new.out c.settle.new.sums.past.now c.settle-2.new.sums.ins.now c.settle-2.new.sums.past.now c.spread-2.new.out =
    record { setting = sure_setting k; good = s.good; quiet = s.quiet; stored = c.spread-2.ensures } in
    let o = c.store_nodes.ensures in
    let long = c.requires.long in
    rw (o.may, o.sure) (walked_content _ _ _ _ _ _ _ _ _ _ _ (may_settled k) by_sure o.nodes (o.denied_long ∙ long.denied_long) (o.granted_long ∙ long.granted_long) (c.spread.auto.out ∙ long.may_long) (c.spread-2.auto.out ∙ long.sure_long))
