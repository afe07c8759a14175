-- The worked gateway's text prints the worked rows.
use Rattle.std.specs.Prelude.{ℕ, zero, suc, ◌+◌, ◌^◌, ◌<◌, ◌≡◌, refl, List, [], ◌∷◌, true, false}
use Rattle.std.proofs.Common.{sym, ap, ◌∙◌, subst, arith, lt_of_lt_of_le, lit<, pow_mono}
use Rattle.truth.specs.Truth.Bools.{by_split}
use Rattle.sets.specs.Sets.{has}
use Rattle.sets.specs.Sets.Members.{below_members}
use Rattle.sets.specs.Sets.Code.{has_code}
use Rattle.graph.specs.Graph.{Graph, Content}
use Rattle.graph.specs.Graph.Code.{verdict_code}
use Rattle.graph.specs.Graph.Gateway.{gateway, gateway_slices}
use Rattle.graph.proofs.Graph.Gateway.{gateway_accepted, gateway_content}
use Rattle.graph.specs.Judge.{judge, Judges}
use Rattle.graph.specs.Judge.Laws.{judges_judge}
use Rattle.graph.specs.Refusals.{Judged}
use Rattle.text.specs.Text.{on_meaning, on_judged, outcome_from, outcome, read}
use Rattle.text.specs.Text.Gateway.{gateway_text, gateway_nodes, gateway_edges, gateway_means, gateway_graph}
use Rattle.writer.specs.Writer.{decimal_by}
use Rattle.members.specs.Members.{members_from, after_first}
use Rattle.rows.specs.Result.{rows_from}
use Rattle.report.specs.Report.{rows_of}
use Rattle.answer.specs.Prints.{Prints, printed}
use Rattle.answer.specs.Prints.Laws.{prints_one}

-- One line for each row of the document.
unfoldable pub gateway_output : List ℕ
gateway_output =
    110 ∷ 111 ∷ 100 ∷ 101 ∷ 44 ∷ 100 ∷ 101 ∷ 110 ∷ 105 ∷ 101 ∷ 100 ∷ 44 ∷ 103 ∷ 114 ∷ 97 ∷ 110 ∷ 116 ∷ 101 ∷ 100 ∷ 44 ∷ 118 ∷ 101 ∷ 114 ∷ 100 ∷ 105 ∷ 99 ∷ 116 ∷ 13 ∷ 10 ∷
    48 ∷ 44 ∷ 44 ∷ 48 ∷ 32 ∷ 49 ∷ 44 ∷ 13 ∷ 10 ∷
    49 ∷ 44 ∷ 48 ∷ 44 ∷ 49 ∷ 44 ∷ 13 ∷ 10 ∷
    50 ∷ 44 ∷ 44 ∷ 49 ∷ 44 ∷ 48 ∷ 13 ∷ 10 ∷
    51 ∷ 44 ∷ 44 ∷ 48 ∷ 32 ∷ 49 ∷ 44 ∷ 13 ∷ 10 ∷
    52 ∷ 44 ∷ 44 ∷ 48 ∷ 32 ∷ 49 ∷ 44 ∷ 13 ∷ 10 ∷
    53 ∷ 44 ∷ 44 ∷ 48 ∷ 32 ∷ 49 ∷ 44 ∷ 49 ∷ 13 ∷ 10 ∷
    54 ∷ 44 ∷ 44 ∷ 49 ∷ 44 ∷ 13 ∷ 10 ∷
    55 ∷ 44 ∷ 48 ∷ 44 ∷ 49 ∷ 44 ∷ 13 ∷ 10 ∷ []

-- the members of a set, one by one
member : (s p count : ℕ) → has s p ≡ true → members_from s p (suc count) ≡ p ∷ members_from s (p + 1) count
unfolding members_from
member s p count t = rw t refl

no_member : (s p count : ℕ) → has s p ≡ false → members_from s p (suc count) ≡ members_from s (p + 1) count
unfolding members_from
no_member s p count t = rw t refl

no_more : (s p count : ℕ) → s < 2 ^ p → members_from s p count ≡ []
unfolding members_from
no_more s p zero h = refl
no_more s p (suc count) h =
    by_split (has s p) (λ t. absurd (omega (arith, (below_members p s).0 h p t)))
    (λ t. no_member s p count t ∙ no_more s (p + 1) count (lt_of_lt_of_le h (pow_mono (omega arith))))

-- the four sets of two permissions
none : members_from 0 0 64 ≡ []
none = no_more 0 0 64 (lit< tt)

zero_only : members_from 1 0 64 ≡ 0 ∷ []
zero_only = member 1 0 63 (has_code 1 0) ∙ ap (λ l. 0 ∷ l) (no_more 1 1 63 (lit< tt))

one_only : members_from 2 0 64 ≡ 1 ∷ []
one_only = no_member 2 0 63 (has_code 2 0) ∙ member 2 1 62 (has_code 2 1) ∙ ap (λ l. 1 ∷ l) (no_more 2 2 62 (lit< tt))

both : members_from 3 0 64 ≡ 0 ∷ 1 ∷ []
both = member 3 0 63 (has_code 3 0) ∙ ap (λ l. 0 ∷ l) (member 3 1 62 (has_code 3 1) ∙ ap (λ l. 1 ∷ l) (no_more 3 2 62 (lit< tt)))

rows : rows_of gateway gateway_slices ≡ gateway_output
unfolding gateway_output decimal_by after_first rows_from
rows = simp (none, zero_only, one_only, both, has_code, verdict_code.0, verdict_code.1)

outcome_so : outcome gateway_text ≡ read 2 gateway_nodes gateway_edges
unfolding outcome_from gateway_text
outcome_so =
    ap on_meaning gateway_means
    ∙ ap (λ (g : Graph). on_judged (judge g) 2 gateway_nodes gateway_edges) gateway_graph
    ∙ ap (λ (j : Judged). on_judged j 2 gateway_nodes gateway_edges) (sym (judges_judge gateway (Judges.accepted gateway_accepted)))

pub gateway_prints : Prints gateway_text gateway_output
gateway_prints = subst (Prints gateway_text) (ap (λ (g : Graph). rows_of g gateway_slices) gateway_graph ∙ rows) (printed outcome_so (subst (λ (g : Graph). Content g gateway_slices) (sym gateway_graph) gateway_content))

-- and nothing else
pub gateway_prints_only : {b : List ℕ} → Prints gateway_text b → b ≡ gateway_output
gateway_prints_only p = prints_one p gateway_prints
