-- What the walk's functions do with their slices, in the walk's terms: sets that arrive, nodes that go on the stack, and one turn of sending.
use Prim.Native.Nat.{ℕ, zero, suc, ◌+◌, ◌≤◌, ◌<◌}
use Rattle.std.specs.Prelude.{◌≡◌, List, Bool, true, false, cond, length, get_or, set}
use Rattle.std.proofs.Math.Path.{refl}
use Rattle.std.proofs.Common.{arith}
use Rattle.graph.specs.Graph.{System}
use Rattle.worklist.specs.Worklist.{fresh, Put}
use Rattle.flow.specs.Walk.{State, state, push, arrive, send_from, Sendable, Bringable, Brings, Delivered}

-- ---- a set v arrives at node b

pushed : (s q d st : List ℕ) (top b : ℕ) (new : Bool)
    → state s q (cond new (set d b 1) d) (cond new (set st top b) st) (cond new (top + 1) top) ≡ push s q d st top b new
unfolding push
pushed s q d st top b true = refl
pushed s q d st top b false = refl

pub arrived : (y : System) (s q d st : List ℕ) (top b v : ℕ) (counted told : Bool) (s' q' d' st' : List ℕ) (top' : ℕ)
    → Delivered y s q b v counted s' q' told
    → Put d st top b (fresh d st top b told) d' st' top'
    → state s' q' d' st' top' ≡ arrive y (state s q d st top) b v counted
unfolding arrive
arrived y s q d st top b v counted told s' q' d' st' top' f g =
    rw (f.ins, f.past, g.marks, g.stack, g.height, f.told) (pushed _ _ d st top b _)

-- ---- sending

module _ (kinds checks grants tos ways : List ℕ) (y : System) (w prev : List ℕ) (c t : ℕ) where
  abbrev send : (fuel cur : ℕ) → State → State
  send = send_from kinds checks grants tos ways y w prev c t

  pub sent_all : (cur : ℕ) (x z : State) → cur ≡ 0 → send cur cur x ≡ z → x ≡ z
  unfolding send_from
  sent_all cur x z e h = rw e at h

  module _ (down : (e : ℕ) → e < length tos → get_or prev e 0 ≤ e) where
    -- more fuel than edges changes nothing
    fuel : (f g cur : ℕ) (x : State) → cur ≤ f → cur ≤ g → cur ≤ length tos → send f cur x ≡ send g cur x
    unfolding send_from
    fuel zero zero cur x hf hg h = refl
    fuel zero (suc g) zero x hf hg h = refl
    fuel zero (suc g) (suc e) x hf hg h = absurd (omega arith)
    fuel (suc f) zero zero x hf hg h = refl
    fuel (suc f) zero (suc e) x hf hg h = absurd (omega arith)
    fuel (suc f) (suc g) zero x hf hg h = refl
    fuel (suc f) (suc g) (suc e) x hf hg h =
        let low = down e (omega arith) in
        fuel f g (get_or prev e 0) _ (omega arith) (omega arith) (omega arith)

    -- a turn of `send`, at edge e
    pub sent_one : (x x' : State) (cur e b v : ℕ) (counted : Bool)
        → cur ≡ suc e
        → e < length tos
        → Brings kinds checks grants tos ways y w c t e b v counted
        → x' ≡ arrive y x b v counted
        → send (get_or prev e 0) (get_or prev e 0) x' ≡ send cur cur x
    unfolding send_from
    sent_one x x' cur e b v counted ec h f g =
        let low = down e h in
        rw (g, f.counts_so, f.set_sent, f.to, ec)
        (fuel (get_or prev e 0) e (get_or prev e 0) _ (omega arith) low (omega arith))

pub bringable : (kinds checks grants tos ways w prev : List ℕ) (ins past e : ℕ) → Sendable kinds checks grants tos ways w prev ins past → e < length tos → Bringable kinds checks grants tos ways w e
bringable kinds checks grants tos ways w prev ins past e s h =
    let l = s.ends e h in
    record { own = h; way = omega arith; wide = omega arith; kind = l; check = omega arith; grant = omega arith }
