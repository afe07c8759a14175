-- No two refusals share number and place: there is a way back from them.
use Rattle.std.specs.Prelude.{◌≡◌, refl, cond, eqb}
use Rattle.std.proofs.Common.{sym, ◌∙◌}
use Rattle.graph.specs.Refusals.{Numbered, numbered}
use Rattle.graph.specs.declared.Refusal.{Refusal}
use Rattle.graph.specs.declared.Refusal.TheVariants.{Shape, Node, Edge, NoEntry, Asked, Stack, NotACheck, NoRule, Denied, NoRoom, Row, TooLong}

-- The refusal with that number and place.
abbrev pub refusal : Numbered → Refusal
refusal r =
    cond (eqb r.number 2) (Node r.place)
    (cond (eqb r.number 3) (Edge r.place)
    (cond (eqb r.number 4) NoEntry
    (cond (eqb r.number 5) Asked
    (cond (eqb r.number 6) Stack
    (cond (eqb r.number 7) NotACheck
    (cond (eqb r.number 8) NoRule
    (cond (eqb r.number 9) Denied
    (cond (eqb r.number 10) NoRoom
    (cond (eqb r.number 11) (Row r.place)
    (cond (eqb r.number 12) TooLong
    Shape))))))))))

pub refusal_numbered : (r : Refusal) → refusal (numbered r) ≡ r
refusal_numbered Shape = refl
refusal_numbered (Node i) = refl
refusal_numbered (Edge e) = refl
refusal_numbered NoEntry = refl
refusal_numbered Asked = refl
refusal_numbered Stack = refl
refusal_numbered NotACheck = refl
refusal_numbered NoRule = refl
refusal_numbered Denied = refl
refusal_numbered NoRoom = refl
refusal_numbered (Row i) = refl
refusal_numbered TooLong = refl

-- No two refusals have one number and place.
pub numbered_one : (r s : Refusal) → numbered r ≡ numbered s → r ≡ s
numbered_one r s e = sym (refusal_numbered r) ∙ (λ i. refusal (e i)) ∙ refusal_numbered s
