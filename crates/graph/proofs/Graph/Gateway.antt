-- The worked gateway is accepted, and its content is the worked one.
use Rattle.graph.specs.Graph.Gateway.{gateway, gateway_slices, computed}
use Rattle.std.specs.Prelude.{◌≡◌}
use Rattle.graph.specs.Graph.{Acceptable, Slices, Content}
use Rattle.graph.specs.Graph.Tables.{computed_accepted}
use Rattle.graph.proofs.Graph.Tables.{computed_content, computed_one}

pub gateway_accepted : Acceptable gateway
gateway_accepted = computed_accepted gateway gateway_slices 3 3 computed

pub gateway_content : Content gateway gateway_slices
gateway_content = computed_content gateway gateway_slices 3 3 computed

pub gateway_one : {s : Slices} → Content gateway s → s ≡ gateway_slices
gateway_one = computed_one gateway gateway_slices 3 3 computed
