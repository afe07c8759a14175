-- The worked gateway's text, and that it means the worked gateway.
use Rattle.std.specs.Prelude.{ℕ, ◌≡◌, refl, List, [], ◌∷◌}
use Rattle.graph.specs.Graph.Gateway.{gateway}
use Rattle.scan.specs.Scan.{run, digits_from, number_of, words, ascending, members_of}
use Rattle.lex.specs.Lex.{followed, quoted_at, plain_at, field_at, before_at}
use Rattle.graph.specs.declared.Node.{Node}
use Rattle.graph.specs.declared.Edge.{Edge}
use Rattle.fields.specs.Fields.{says, said_at}
use Rattle.records.specs.Records.{grants_at, three_at, header_at, lead_at, node_at, edge_at}
use Rattle.text.specs.Text.{rows_at, text_at, graph_from}
use Rattle.text.specs.Text as text

-- One line for each row of the document.
unfoldable pub gateway_text : List ℕ
gateway_text =
    71 ∷ 44 ∷ 50 ∷ 44 ∷ 56 ∷ 44 ∷ 56 ∷ 44 ∷ 44 ∷ 13 ∷ 10 ∷
    78 ∷ 44 ∷ 48 ∷ 44 ∷ 67 ∷ 44 ∷ 44 ∷ 69 ∷ 44 ∷ 48 ∷ 32 ∷ 49 ∷ 13 ∷ 10 ∷
    78 ∷ 44 ∷ 49 ∷ 44 ∷ 67 ∷ 44 ∷ 44 ∷ 69 ∷ 44 ∷ 49 ∷ 13 ∷ 10 ∷
    78 ∷ 44 ∷ 50 ∷ 44 ∷ 75 ∷ 44 ∷ 48 ∷ 44 ∷ 44 ∷ 48 ∷ 32 ∷ 49 ∷ 13 ∷ 10 ∷
    78 ∷ 44 ∷ 51 ∷ 44 ∷ 82 ∷ 44 ∷ 44 ∷ 44 ∷ 48 ∷ 32 ∷ 49 ∷ 13 ∷ 10 ∷
    78 ∷ 44 ∷ 52 ∷ 44 ∷ 67 ∷ 44 ∷ 44 ∷ 80 ∷ 44 ∷ 48 ∷ 32 ∷ 49 ∷ 13 ∷ 10 ∷
    78 ∷ 44 ∷ 53 ∷ 44 ∷ 75 ∷ 44 ∷ 48 ∷ 44 ∷ 44 ∷ 48 ∷ 32 ∷ 49 ∷ 13 ∷ 10 ∷
    78 ∷ 44 ∷ 54 ∷ 44 ∷ 82 ∷ 44 ∷ 44 ∷ 44 ∷ 48 ∷ 32 ∷ 49 ∷ 13 ∷ 10 ∷
    78 ∷ 44 ∷ 55 ∷ 44 ∷ 82 ∷ 44 ∷ 44 ∷ 44 ∷ 49 ∷ 13 ∷ 10 ∷
    69 ∷ 44 ∷ 48 ∷ 44 ∷ 50 ∷ 44 ∷ 67 ∷ 44 ∷ 44 ∷ 13 ∷ 10 ∷
    69 ∷ 44 ∷ 49 ∷ 44 ∷ 50 ∷ 44 ∷ 67 ∷ 44 ∷ 44 ∷ 13 ∷ 10 ∷
    69 ∷ 44 ∷ 50 ∷ 44 ∷ 51 ∷ 44 ∷ 84 ∷ 44 ∷ 44 ∷ 13 ∷ 10 ∷
    69 ∷ 44 ∷ 49 ∷ 44 ∷ 52 ∷ 44 ∷ 67 ∷ 44 ∷ 44 ∷ 13 ∷ 10 ∷
    69 ∷ 44 ∷ 52 ∷ 44 ∷ 53 ∷ 44 ∷ 67 ∷ 44 ∷ 44 ∷ 13 ∷ 10 ∷
    69 ∷ 44 ∷ 53 ∷ 44 ∷ 54 ∷ 44 ∷ 84 ∷ 44 ∷ 44 ∷ 13 ∷ 10 ∷
    69 ∷ 44 ∷ 52 ∷ 44 ∷ 54 ∷ 44 ∷ 84 ∷ 44 ∷ 44 ∷ 13 ∷ 10 ∷
    69 ∷ 44 ∷ 49 ∷ 44 ∷ 55 ∷ 44 ∷ 84 ∷ 44 ∷ 44 ∷ 13 ∷ 10 ∷ []

pub gateway_nodes : List Node
gateway_nodes =
    record { kind = 0; check = 0; privileged = 0; entry = 1; grants = 3 } ∷
    record { kind = 0; check = 0; privileged = 0; entry = 1; grants = 2 } ∷
    record { kind = 2; check = 0; privileged = 0; entry = 0; grants = 3 } ∷
    record { kind = 1; check = 0; privileged = 0; entry = 0; grants = 3 } ∷
    record { kind = 0; check = 0; privileged = 1; entry = 0; grants = 3 } ∷
    record { kind = 2; check = 0; privileged = 0; entry = 0; grants = 3 } ∷
    record { kind = 1; check = 0; privileged = 0; entry = 0; grants = 3 } ∷
    record { kind = 1; check = 0; privileged = 0; entry = 0; grants = 2 } ∷ []

pub gateway_edges : List Edge
gateway_edges =
    record { from = 0; to = 2; way = 0 } ∷
    record { from = 1; to = 2; way = 0 } ∷
    record { from = 2; to = 3; way = 1 } ∷
    record { from = 1; to = 4; way = 0 } ∷
    record { from = 4; to = 5; way = 0 } ∷
    record { from = 5; to = 6; way = 1 } ∷
    record { from = 4; to = 6; way = 1 } ∷
    record { from = 1; to = 7; way = 1 } ∷ []

pub gateway_means : text_at gateway_text 0 1 ≡ text.says 2 gateway_nodes gateway_edges
unfolding gateway_text gateway_nodes gateway_edges run followed quoted_at plain_at field_at before_at digits_from number_of words ascending members_of says said_at grants_at three_at header_at lead_at node_at edge_at rows_at text_at
gateway_means = refl

pub gateway_graph : graph_from 2 gateway_nodes gateway_edges ≡ gateway
unfolding gateway_nodes gateway_edges
gateway_graph = refl
