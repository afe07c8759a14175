use borrow.Author.Rules.{rules}
use Rattle.truth.specs.Truth.Tests.{says_true, says_false}
use Rattle.truth.proofs.Truth.Searches.{finds_below}
use Rattle.graph.specs.Graph.{NodeObeys}
use Rattle.graph.specs.Lent.{lent}
use Rattle.judge.proofs.first_bad_node.Goals as goal

pub returns : goal.returns
returns c = finds_below (NodeObeys (lent c.args.graph.now)) _ _ c.find.ensures.ran (λ i f k. search (rules, says_false)) (λ i f k. search (rules, says_true))
