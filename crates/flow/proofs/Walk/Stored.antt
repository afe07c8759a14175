-- What both walks leave is the content that the slices are to hold.
use Rattle.std.specs.Prelude.{ℕ, ◌<◌, ◌^◌, ◌≡◌, List, Bool, not, ◌&&◌, eqb, length, get_or, min}
use Rattle.std.proofs.Common.{sym, ◌∙◌, ap, ap₂, arith, lt-ltb}
use Rattle.std.proofs.Math.Bool.{true, false, cond}
use Rattle.sets.specs.Sets.{has, all}
use Rattle.sets.specs.Sets.Members.{has_all, has_without, below_members}
use Rattle.sets.specs.Sets.Order.{all_lt, without_lt}
use Rattle.graph.specs.Graph.{call_rule, Graph, Acceptable, System, may, sure, call_set, held, Stored, Content}
use Rattle.graph.specs.Graph.Rule.{call_by_rule}
use Rattle.graph.proofs.Graph.Rounds.{least_closed, greatest_backed}
use Rattle.graph.specs.Graph.Code.{denied_code, granted_code}
use Rattle.flow.specs.Walk.{call_num, called_by, carried, NodesStored}
use Rattle.flow.specs.Walk.Settled.{Settled}
use Rattle.flow.proofs.Walk.Settled.{may_settled, may_ins, sure_settled, sure_ins}
use Rattle.flow.proofs.Walk.Sums.{has_called}
use Rattle.flow.proofs.Walk.Taken.{carried_lt}

-- the out sets have no member at K or above
outs_stored : (g : Graph) (y : System) (w a s q l : List ℕ) → length l ≡ g.size.m → Settled g y w a s q l → Stored g.size.k g.size.m l
outs_stored g y w a s q l long h = record {
  long = long;
  below = λ e p u t. (below_members g.size.k (carried g y a s q e)).0 (carried_lt g y w a s q h.setting.acc h.good e u) p (rw (h.stored e u) at t);
}

module _ (g : Graph) (acc : Acceptable g) (s : List ℕ) where
  called_lt : (n : ℕ) → n < g.size.n → get_or s n 0 < 2 ^ g.size.k → called_by g.nodes.privileged g.nodes.grants s n < 2 ^ g.size.k
  unfolding call_num
  called_lt n u h = go (eqb (get_or g.nodes.privileged n 0) 1)
    where
      go : (b : Bool) → cond b (get_or g.nodes.grants n 0) (get_or s n 0) < 2 ^ g.size.k
      go true = (below_members g.size.k (get_or g.nodes.grants n 0)).1 (acc.nodes n u).grants_below
      go false = h

module _ (g : Graph) (any none s q m s' q' l den gra : List ℕ) (hm : Settled g may none any s q m) (hs : Settled g sure m q s' q' l)
    (hn : NodesStored g.size.k g.size.n g.nodes.privileged g.nodes.grants s s' den gra)
    (dl : length den ≡ g.size.n) (gl : length gra ≡ g.size.n) (ml : length m ≡ g.size.m) (sl : length l ≡ g.size.m) where
  acc : Acceptable g
  acc = hm.setting.acc

  may_call : (n p : ℕ) → n < g.size.n → p < g.size.k → has (called_by g.nodes.privileged g.nodes.grants s n) p ≡ call_set g may (held m) n p
  may_call n p u k = has_called g s n p ∙ ap (call_rule g n p) (may_ins g none any s q m hm n p u k) ∙ sym (call_by_rule g may (held m) n p)

  sure_call : (n p : ℕ) → n < g.size.n → p < g.size.k → has (called_by g.nodes.privileged g.nodes.grants s' n) p ≡ call_set g sure (held l) n p
  sure_call n p u k = has_called g s' n p ∙ ap (call_rule g n p) (sure_ins g m q s' q' l hs n p u k) ∙ sym (call_by_rule g sure (held l) n p)

  pub walked_content : Content g (record { denied = den; granted = gra; may_out = m; sure_out = l })
  walked_content = record {
    denied_stored = record {
      long = dl;
      below = λ n p u t. (below_members g.size.k _).0 (without_lt g.size.k (all g.size.k) (called_by g.nodes.privileged g.nodes.grants s n) (all_lt g.size.k g.size.k (omega arith))) p (rw (hn.denies n u) at t);
    };
    granted_stored = record {
      long = gl;
      below = λ n p u t. (below_members g.size.k _).0 (called_lt g acc s' n u (hs.good.s_low n u)) p (rw (hn.grants_set n u) at t);
    };
    may_stored = outs_stored g may none any s q m ml hm;
    sure_stored = outs_stored g sure m q s' q' l sl hs;
    least = (least_closed g acc (held m)).1 (may_settled g none any s q m hm);
    greatest = (greatest_backed g (held m) (held l)).1 (sure_settled g m q s' q' l hs);
    denies = λ n p u k. ap (λ (x : ℕ). has x p) (hn.denies n u) ∙ has_without (all g.size.k) (called_by g.nodes.privileged g.nodes.grants s n) p ∙ ap₂ ◌&&◌ (has_all g.size.k p ∙ lt-ltb p (min g.size.k 64) (omega (arith, acc.shape.ranges.k_high))) (ap not (may_call n p u k)) ∙ sym (denied_code g (held m) n p);
    grants = λ n p u k. ap (λ (x : ℕ). has x p) (hn.grants_set n u) ∙ sure_call n p u k ∙ sym (granted_code g (held l) n p);
  }
