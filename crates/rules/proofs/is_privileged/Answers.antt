use mathlib.Core.Path.{sym}
use Rattle.graph.specs.Graph.Code.{privileged_code}
use Rattle.rules.proofs.is_privileged.Goals as goal

pub returns : goal.returns
returns c = sym (privileged_code _ _)
