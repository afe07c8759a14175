use Rattle.std.proofs.Common.{◌≡◌, Err, inl, inr, rules, arith}
use Rattle.report.specs.Report.Laws.{too_large, graph_written, graph_unwritten}
use Rattle.report.proofs.write_graph.Goals as goal

pub returns-then-n-gt-MOST_NODES : goal.returns-then-n-gt-MOST_NODES
returns-then-n-gt-MOST_NODES c =
    too_large _ (λ r. elim c.then-n-gt-MOST_NODES.either [ inl n ↦ omega (arith, n, r.n_high) | inr m ↦ omega (arith, m.1, r.m_high) ])

pub returns-in_err-solve : goal.returns-in_err-solve
returns-in_err-solve c =
    let e : (c.from_residual.result ≡ Err c.in_err-solve.field-0.0) = search rules in
    rw e (graph_unwritten _ (record { denied_long = search rules; granted_long = search rules; may_long = search rules; sure_long = search rules }) c.in_err-solve.ensures.solves)

pub returns : goal.returns
returns c = graph_written _ (record { denied_long = search rules; granted_long = search rules; may_long = search rules; sure_long = search rules }) c.in_ok-solve.ensures.solves c.write_result.ensures
