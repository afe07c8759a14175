use borrow.Author.Rules.{rules}
use Rattle.truth.specs.Truth.Tests.{says_true, says_false}
use Rattle.truth.proofs.Truth.Searches.{finds_below}
use Rattle.graph.specs.Graph.{EdgeObeys}
use Rattle.graph.specs.Lent.{lent}
use Rattle.judge.proofs.first_bad_edge.Goals as goal

pub returns : goal.returns
returns c = finds_below (EdgeObeys (lent c.args.graph.now)) _ _ c.find.ensures.ran (λ e f k. search (rules, says_false)) (λ e f k. search (rules, says_true))
