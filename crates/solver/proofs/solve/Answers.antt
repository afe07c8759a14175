-- Refused where the lengths or the graph are; else the graph is acceptable, and `store` leaves its content.
use Rattle.std.proofs.lemmas.Result.{err_from_is_err_and}
use Rattle.truth.specs.Truth.Tests.{says_true, says_false}
use Rattle.graph.specs.Judge.Laws.{accepted_is, refused_is}
use Rattle.solver.specs.Solve.{results, graph, refused, solved}
use Rattle.solver.proofs.solve.Goals as goal

pub returns-then-not-long-clause-solves : goal.returns-then-not-long-clause-solves
returns-then-not-long-clause-solves c = refused (results (says_false c.results_long-long.ensures c.if-not-long.true))

pub returns-in_err-check-clause-solves : goal.returns-in_err-check-clause-solves
returns-in_err-check-clause-solves c =
    let p = err_from_is_err_and c.from_residual.result c.from_residual.ensures.1 in
    rw (p.1, p.2) (refused (graph (says_true c.results_long-long.ensures c.if-not-long.false) (refused_is c.in_err-check.ensures)))

pub store-requires-clause-acceptable : goal.store-requires-clause-acceptable
store-requires-clause-acceptable c = accepted_is c.in_ok-check.ensures

pub store-requires-clause-long : goal.store-requires-clause-long
store-requires-clause-long c = says_true c.results_long-long.ensures c.if-not-long.false

pub returns-clause-solves : goal.returns-clause-solves
returns-clause-solves c = solved (says_true c.results_long-long.ensures c.if-not-long.false) (accepted_is c.in_ok-check.ensures) c.store.ensures.content
