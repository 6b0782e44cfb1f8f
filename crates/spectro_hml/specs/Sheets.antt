-- Sheets: formulas whose parts are shared. Each node names nodes before it, and stands for the formula that it unfolds to.
use Rattle.std.specs.Prelude.{ℕ, ◌≡◌, ◌<◌, List, [], ◌∷◌, ◌++◌, slice_get, slice_index_or, Some, All, fold, if◌then◌else◌}
use Rattle.spectro_spec.specs.System.{Label, IsLabel}
use Rattle.spectro_spec.specs.Formula.{Formula, Clauses, see, all, no_clauses, plus, minus}
use Rattle.spectro_hml.specs.Clauses.{ClausesRise}
use Rattle.spectro_hml.specs.declared.node.Clause.{Clause}

-- an observation before the formula of a node, or a conjunction of clauses, each the sign and the number of a node
pub data SheetNode : Type 0 where
  see_node : Label → ℕ → SheetNode
  all_node : List Clause → SheetNode

-- the node may stand at this place: it names nodes before it alone
abbrev pub IsNodeAt : ℕ → SheetNode → Type 0
IsNodeAt place (see_node label next) = IsLabel label × (next < place)
IsNodeAt place (all_node clauses) = ClausesRise clauses × All (λ clause. clause.node < place) clauses

-- each node may stand at its place
abbrev pub IsSheet : List SheetNode → Type 0
IsSheet nodes = (place : ℕ) (node : SheetNode) → slice_get nodes place ≡ Some node → IsNodeAt place node

-- the formula of this number
abbrev pub formula_at : List Formula → ℕ → Formula
formula_at formulas k = slice_index_or formulas k (all no_clauses)

-- the clauses with the formulas of their numbers
abbrev pub clauses_of : List Formula → List Clause → Clauses
clauses_of formulas [] = no_clauses
clauses_of formulas (clause ∷ clauses) =
    if clause.positive then plus (formula_at formulas clause.node) (clauses_of formulas clauses) else minus (formula_at formulas clause.node)
    (clauses_of formulas clauses)

-- the formula of a node, where these are the formulas of those before it
abbrev pub formula_of_node : List Formula → SheetNode → Formula
formula_of_node formulas (see_node label next) = see label (formula_at formulas next)
formula_of_node formulas (all_node clauses) = all (clauses_of formulas clauses)

-- the formulas of the nodes, in order
abbrev pub formulas_of : List SheetNode → List Formula
formulas_of nodes = fold (λ formulas node. formulas ++ formula_of_node formulas node ∷ []) [] nodes

-- the formula that the node of this number unfolds to
abbrev pub unfolded : List SheetNode → ℕ → Formula
unfolded nodes k = formula_at (formulas_of nodes) k
