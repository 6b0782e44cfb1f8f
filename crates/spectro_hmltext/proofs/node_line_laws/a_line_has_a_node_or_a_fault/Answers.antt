use Rattle.spectro_hmltext.proofs.NodeCases.{node_or_fault}
use Rattle.spectro_hmltext.proofs.node_line_laws.a_line_has_a_node_or_a_fault.Goals as goal

pub returns : goal.returns
returns c = node_or_fault
