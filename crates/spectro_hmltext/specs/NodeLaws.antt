-- What is true of all lines of nodes.
use Rattle.std.specs.Prelude.{ℕ, ◌≡◌, ◌≤◌, ◌⊎◌, List, ◌++◌, codes}
use Rattle.spectro_hml.specs.Sheets.{SheetNode, IsNodeAt}
use Rattle.spectro_hmltext.specs.SheetTexts.{node_text}
use Rattle.spectro_hmltext.specs.NodeLines.{IsNodeLine}
use Rattle.spectro_hmltext.specs.NodeFaults.{IsNodeFault}
use Rattle.spectro_hmltext.specs.declared.node_line.NodeError.{NodeError}

-- a line is of at most one node at a place
abbrev pub EachLineHasAtMostOneNode : Type 0
EachLineHasAtMostOneNode = (line : List ℕ) (place : ℕ) (one other : SheetNode) → IsNodeLine line place one → IsNodeLine line place other → one ≡ other

-- a line has at most one fault at a place
abbrev pub EachLineHasAtMostOneFault : Type 0
EachLineHasAtMostOneFault = (line : List ℕ) (place : ℕ) (one other : NodeError) → IsNodeFault line place one → IsNodeFault line place other → one ≡ other

-- the line of a node has no fault at the place of the node
abbrev pub LinesOfNodesHaveNoFault : Type 0
LinesOfNodesHaveNoFault = (line : List ℕ) (place : ℕ) (node : SheetNode) (error : NodeError) → IsNodeLine line place node → IsNodeFault line place error → ⊥

-- each line is of a node at a place or has a fault there
abbrev pub EachLineHasANodeOrAFault : Type 0
EachLineHasANodeOrAFault = (line : List ℕ) (place : ℕ) → ((node : SheetNode) × IsNodeLine line place node) ⊎ ((error : NodeError)
    × IsNodeFault line place error)

-- the line that is written for a node, without its LF, is of this node, where the node may stand at its place, and its number is at most 4294967295
abbrev pub WrittenNodesAreRead : Type 0
WrittenNodesAreRead = (line : List ℕ) (place : ℕ) (node : SheetNode) → node_text place node ≡ line ++ codes "\n" → IsNodeAt place node → place ≤ 4294967295
    → IsNodeLine line place node
