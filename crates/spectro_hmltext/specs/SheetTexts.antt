-- The text of a sheet: a line for each node.
use Rattle.std.specs.Prelude.{ℕ, ◌+◌, List, [], ◌∷◌, ◌++◌, codes, if◌then◌else◌}
use Rattle.std.specs.Fmt.{decimal}
use Rattle.std.specs.List.{flat_map}
use Rattle.spectro_hml.specs.declared.node.Clause.{Clause}
use Rattle.spectro_hml.specs.Sheets.{SheetNode, see_node, all_node}
use Rattle.spectro_hmltext.specs.Printed.{label_text}

-- a space and the sign
abbrev pub sign : Clause → List ℕ
sign clause = if clause.positive then codes " +" else codes " -"

-- a space, the sign, and the number of the node
abbrev pub clause_text : Clause → List ℕ
clause_text clause = sign clause ++ decimal clause.node

-- NUMBER see "LABEL" NUMBER, or NUMBER all and the clauses, and LF
abbrev pub node_text : ℕ → SheetNode → List ℕ
node_text number (see_node label next) = decimal number ++ codes " see " ++ label_text label ++ codes " " ++ decimal next ++ codes "\n"
node_text number (all_node clauses) = decimal number ++ codes " all" ++ flat_map clause_text clauses ++ codes "\n"

-- the lines of the nodes, which are numbered from here on
abbrev pub nodes_text : ℕ → List SheetNode → List ℕ
nodes_text number [] = []
nodes_text number (node ∷ nodes) = node_text number node ++ nodes_text (number + 1) nodes

abbrev pub sheet_text : List SheetNode → List ℕ
sheet_text nodes = nodes_text 0 nodes
