-- Nodes as the code keeps and shows them.
use Rattle.std.specs.Prelude.{string_bytes}
use Rattle.spectro_hml.specs.Sheets.{SheetNode, see_node, all_node}
use Rattle.spectro_hml.specs.declared.node.Node.{Node}
use Rattle.spectro_hml.specs.declared.node.Node.TheVariants as shown
use Rattle.spectro_hml.specs.declared.sheet.Kept.{Kept}
use Rattle.spectro_hml.specs.declared.sheet.Kept.TheVariants as kept

abbrev pub node_shown : Node → SheetNode
node_shown (shown.See label next) = see_node label.now next
node_shown (shown.All clauses) = all_node clauses.now

abbrev pub node_kept : Kept → SheetNode
node_kept (kept.See label next) = see_node (string_bytes label) next
node_kept (kept.All clauses) = all_node clauses.items
