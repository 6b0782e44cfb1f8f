use Rattle.spectro_hmltext.proofs.NodeLineLaws.{one_node}
use Rattle.spectro_hmltext.proofs.node_line_laws.a_line_has_at_most_one_node.Goals as goal

pub returns : goal.returns
returns c = one_node
