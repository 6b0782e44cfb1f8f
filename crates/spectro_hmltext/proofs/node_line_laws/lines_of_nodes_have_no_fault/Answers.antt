use Rattle.spectro_hmltext.proofs.NodeLineLaws.{no_fault}
use Rattle.spectro_hmltext.proofs.node_line_laws.lines_of_nodes_have_no_fault.Goals as goal

pub returns : goal.returns
returns c = no_fault
