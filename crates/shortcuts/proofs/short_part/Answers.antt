use Rattle.std.proofs.Common.{refl, ◌∙◌, [], ◌∷◌, eqb-true}
use Rattle.std.proofs.lemmas.Option.{IfSome_then}
use Rattle.fields.specs.Fields.{says}
use Rattle.fields.specs.Fields.Forms.{number_says, check_there, check_none, own_yes}
use Rattle.shortcuts.specs.Shortcuts.Short.{let_through, numeral_stands, nothing_stands, placed_stands, tag_says, node_letters, kind_says, edge_letters, way_says}
use Rattle.shortcuts.proofs.short_part.Goals as goal

pub returns-in-Tag : goal.returns-in-Tag
returns-in-Tag c =
    let h = c.requires.letter in
    rw c.in-Tag.is (IfSome_then _ c.short_letter.ensures (λ x e. placed_stands (c.in-Tag.letter ∷ []) (tag_says (rw c.in-Tag.is at h)) e))

pub returns-in-Number : goal.returns-in-Number
returns-in-Number c = rw c.in-Number.is (IfSome_then _ c.short_number.ensures (λ x n. numeral_stands (λ w e. number_says w ∙ e) n))

pub returns-in_ok-own-in-Own : goal.returns-in_ok-own-in-Own
returns-in_ok-own-in-Own c =
    let_through _ _ c.then_some.ensures (λ t. rw c.in-Own.is (numeral_stands (λ w e. own_yes w _ e (eqb-true _ _ t)) c.in_ok-own-in-Own.ensures))

pub returns-in-Kind : goal.returns-in-Kind
returns-in-Kind c = rw c.in-Kind.is (IfSome_then _ c.short_letter-in-Kind.ensures (λ x e. placed_stands node_letters kind_says e))

pub returns-then-kind-eq-CHECK_NODE : goal.returns-then-kind-eq-CHECK_NODE
returns-then-kind-eq-CHECK_NODE c = rw c.in-Check.is (IfSome_then _ c.short_number-then-kind-eq-CHECK_NODE.ensures (λ x n. numeral_stands (λ w e. check_there w _ c.if-kind-eq-CHECK_NODE.true ∙ e) n))

pub returns-else-kind-eq-CHECK_NODE : goal.returns-else-kind-eq-CHECK_NODE
returns-else-kind-eq-CHECK_NODE c = rw c.in-Check.is (nothing_stands (check_none [] _ c.if-kind-eq-CHECK_NODE.false))

pub returns-in-Way : goal.returns-in-Way
returns-in-Way c = rw c.in-Way.is (IfSome_then _ c.short_letter-in-Way.ensures (λ x e. placed_stands edge_letters way_says e))

pub returns-in-Empty : goal.returns-in-Empty
returns-in-Empty c = rw c.in-Empty.is (nothing_stands (unfold says in refl))
