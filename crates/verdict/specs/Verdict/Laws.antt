-- One answer for every input.
use Rattle.std.specs.Prelude.{ℕ, ◌≡◌, refl, List, [], ◌∷◌, get_or, Ok, Err}
use Rattle.std.proofs.Common.{sym, ◌∙◌, ap}
use Rattle.truth.specs.Truth.Bools.{clash}
use Rattle.graph.specs.Graph.{Graph}
use Rattle.graph.specs.Refusals.{Numbered}
use Rattle.graph.specs.Refusals.Laws.{numbered_one}
use Rattle.graph.specs.Judge.Laws.{refuses_one, refuses_not}
use Rattle.verdict.specs.declared.Finding.{Finding}
use Rattle.verdict.specs.declared.Finding.TheVariants.{Needed, AlwaysPasses, AlwaysFails, NeverReached}
use Rattle.verdict.specs.Verdict.{Ruling, verdict_number, VerdictRefuses, sets, graph, asked, no_check, VerdictGiven, Rules, refused, given}

-- what a check's two sets say of it is one finding
finding_numbered : ℕ → Finding
finding_numbered n = get_or (Needed ∷ AlwaysPasses ∷ AlwaysFails ∷ NeverReached ∷ []) n Needed

verdict_back : (v : Finding) → finding_numbered (verdict_number v) ≡ v
unfolding finding_numbered
verdict_back Needed = refl
verdict_back AlwaysPasses = refl
verdict_back AlwaysFails = refl
verdict_back NeverReached = refl

pub finding_one : {a b : Finding} {n : ℕ} → verdict_number a ≡ n → verdict_number b ≡ n → a ≡ b
finding_one {a} {b} f h = sym (verdict_back a) ∙ ap finding_numbered (f ∙ sym h) ∙ verdict_back b

module _ (g : Graph) (d r : List ℕ) (n : ℕ) where
  refusal_one : {x z : Numbered} → VerdictRefuses g d r n x → VerdictRefuses g d r n z → x ≡ z
  refusal_one (sets f) (sets h) = refl
  refusal_one (sets f) (graph l h) = absurd (f l)
  refusal_one (sets f) (asked l a h) = absurd (f l)
  refusal_one (sets f) (no_check l a b h) = absurd (f l)
  refusal_one (graph l f) (sets h) = absurd (h l)
  refusal_one (graph l f) (graph m h) = refuses_one g f h
  refusal_one (graph l f) (asked m a h) = absurd (refuses_not g f a)
  refusal_one (graph l f) (no_check m a b h) = absurd (refuses_not g f a)
  refusal_one (asked l a f) (sets h) = absurd (h l)
  refusal_one (asked l a f) (graph m h) = absurd (refuses_not g h a)
  refusal_one (asked l a f) (asked m b h) = refl
  refusal_one (asked l a f) (no_check m b c h) = absurd (f c)
  refusal_one (no_check l a b f) (sets h) = absurd (h l)
  refusal_one (no_check l a b f) (graph m h) = absurd (refuses_not g h a)
  refusal_one (no_check l a b f) (asked m c h) = absurd (h b)
  refusal_one (no_check l a b f) (no_check m c e h) = refl

  refusal_not : {x : Numbered} {v : Finding} → VerdictRefuses g d r n x → VerdictGiven g d r n v → ⊥
  refusal_not (sets f) h = f h.long
  refusal_not (graph l f) h = refuses_not g f h.acceptable
  refusal_not (asked l a f) h = f h.below
  refusal_not (no_check l a b f) h = clash h.at_check f

  pub rules_one : {a b : Ruling} → Rules g d r n a → Rules g d r n b → a ≡ b
  rules_one (refused {r = a} f) (refused {r = b} h) = ap Err (numbered_one a b (refusal_one f h))
  rules_one (refused f) (given h) = absurd (refusal_not f h)
  rules_one (given h) (refused f) = absurd (refusal_not f h)
  rules_one (given f) (given h) = ap Ok (finding_one f.number h.number)
