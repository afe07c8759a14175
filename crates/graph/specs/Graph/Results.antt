-- Stored sets: that those which agree are one, and that what is written down is stored. `Graph/Results` of proofs/ has the content of an accepted graph.
use Rattle.std.specs.Prelude.{ℕ, zero, suc, ◌<◌, ◌≡◌, List, Bool, get_or}
use Rattle.std.proofs.Common.{sym, ◌∙◌, ext_get_or}
use Rattle.sets.specs.Sets.Members.{same_below, below_members}
use Rattle.sets.specs.Sets.Pack.{pack, pack_lt}
use Rattle.graph.specs.Graph.{Graph, Outs, denied_set, granted_set, Slices, held, Stored}
use Rattle.graph.specs.Graph.Rounds.{length_sheet, get_d_sheet, written, rounds}

-- ---- one content

-- stored sets that agree below k are one list
pub stored_one : (k n : ℕ) (l l' : List ℕ) → Stored k n l → Stored k n l' → ((i p : ℕ) → i < n → p < k → held l i p ≡ held l' i p) → l ≡ l'
stored_one k n l l' a b h =
    ext_get_or 0 l l' (a.long ∙ sym b.long)
    (λ i u.
    let j : i < n = rw a.long at u in
    same_below k (get_or l i 0) (get_or l' i 0) ((below_members k (get_or l i 0)).1 (λ p. a.below i p j)) ((below_members k (get_or l' i 0)).1 (λ p. b.below i p j)) (λ p q. h i p j q))

-- ---- a content

pub stored_written : (k n : ℕ) (x : ℕ → ℕ → Bool) → Stored k n (written k n x)
unfolding written
stored_written k n x = record {
  long = length_sheet n (λ i. pack k (x i));
  below = λ i p l t. (below_members k (pack k (x i))).0 (pack_lt k (x i)) p (rw (get_d_sheet n (λ i. pack k (x i)) i l) at t);
}

pub stored_rounds : (g : Graph) (f : Outs → Outs) (b : Bool) (j : ℕ) → Stored g.size.k g.size.m (rounds g f b j)
unfolding rounds
stored_rounds g f b zero = stored_written g.size.k g.size.m (λ _ _. b)
stored_rounds g f b (suc j) = stored_written g.size.k g.size.m (f (held (rounds g f b j)))

-- the four slices that go with stored out sets
abbrev pub slices_of : Graph → (may sure : List ℕ) → Slices
slices_of g m s = record {
  denied = written g.size.k g.size.n (denied_set g (held m));
  granted = written g.size.k g.size.n (granted_set g (held s));
  may_out = m;
  sure_out = s;
}
