-- The rules of call, trans and out sets, for whoever computes the sets from running sums of the nodes.
use Rattle.std.specs.Prelude.{ℕ, ◌≡◌, refl, Bool, true, false, cond, ◌&&◌}
use Rattle.truth.specs.Truth.Bools.{both, left, right}
use Rattle.graph.specs.Graph.{Graph, is_check, check, privileged, grants, from, to, is_call, System, Outs, in_set, call_rule, call_set, past_set, trans_rule, out_rule, out_set}

pub call_by_rule : (g : Graph) (y : System) (x : Outs) (n p : ℕ) → call_set g y x n p ≡ call_rule g n p (in_set g y x n p)
unfolding call_set
call_by_rule g y x n p = refl

pub out_by_rule : (g : Graph) (w : Outs) (y : System) (x : Outs) (e p : ℕ)
    → out_set g w y x e p ≡ out_rule g e p (in_set g y x (from g e) p) (past_set g w y x (from g e) p)
unfolding out_set
out_by_rule g w y x e p = refl

call_rule_mono : (g : Graph) (n p : ℕ) (a a' : Bool) → (a ≡ true → a' ≡ true) → call_rule g n p a ≡ true → call_rule g n p a' ≡ true
unfolding call_rule
call_rule_mono g n p a a' h = go (privileged g n p)
  where
    go : (v : Bool) → cond v (grants g n p) a ≡ true → cond v (grants g n p) a' ≡ true
    go true t = t
    go false t = h t

-- an out set grows with what its from node holds; what passes matters at a check alone
pub out_rule_mono : (g : Graph) (e p : ℕ) (a a' b b' : Bool) → (a ≡ true → a' ≡ true) → (is_check g (from g e) ≡ true → b ≡ true → b' ≡ true)
    → out_rule g e p a b ≡ true → out_rule g e p a' b' ≡ true
unfolding out_rule trans_rule
out_rule_mono g e p a a' b b' h j = go (is_call g e)
  where
    n : ℕ
    n = from g e

    moved : (c v : Bool) → is_check g n ≡ c → cond c (cond v (grants g n (check g n) && a) b) a ≡ true → cond c (cond v (grants g n (check g n) && a') b') a' ≡ true
    moved true true k t = both (left (grants g n (check g n)) a t) (h (right (grants g n (check g n)) a t))
    moved true false k t = j k t
    moved false v k t = h t

    go : (c : Bool) → cond c (call_rule g n p a && grants g (to g e) p) (cond (is_check g n) (cond (privileged g n (check g n)) (grants g n (check g n) && a) b) a) ≡ true
        → cond c (call_rule g n p a' && grants g (to g e) p) (cond (is_check g n) (cond (privileged g n (check g n)) (grants g n (check g n) && a') b') a') ≡ true
    go true t = both (call_rule_mono g n p a a' h (left (call_rule g n p a) (grants g (to g e) p) t)) (right (call_rule g n p a) (grants g (to g e) p) t)
    go false t = moved (is_check g n) (privileged g n (check g n)) refl t
