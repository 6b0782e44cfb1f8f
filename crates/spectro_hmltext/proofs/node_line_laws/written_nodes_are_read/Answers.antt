use Rattle.spectro_hmltext.proofs.WrittenNodes.{written_line}
use Rattle.spectro_hmltext.proofs.node_line_laws.written_nodes_are_read.Goals as goal

pub returns : goal.returns
returns c = written_line
