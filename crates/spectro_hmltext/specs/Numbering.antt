-- The sheet in which each occurrence of a formula is a node of its own, the inner ones before the outer, the clauses in order.
use Rattle.std.specs.Prelude.{ℕ, ◌+◌, ◌-◌, true, false, List, [], ◌∷◌, ◌++◌}
use Rattle.spectro_spec.specs.Formula.{Formula, Clauses, see, all, no_clauses, plus, minus}
use Rattle.spectro_hml.specs.declared.node.Clause.{Clause}
use Rattle.spectro_hml.specs.Sheets.{SheetNode, see_node, all_node}

abbrev mutual
  -- how many formulas stand in the formula, itself counted
  pub size : Formula → ℕ
  size (see label formula) = size formula + 1
  size (all clauses) = size_of_clauses clauses + 1

  pub size_of_clauses : Clauses → ℕ
  size_of_clauses no_clauses = 0
  size_of_clauses (plus formula clauses) = size formula + size_of_clauses clauses
  size_of_clauses (minus formula clauses) = size formula + size_of_clauses clauses

-- the number of the formula whose nodes are behind so many: it is the last of them
abbrev pub number_of : ℕ → Formula → ℕ
number_of before formula = before + size formula - 1

-- the clauses by number, where their nodes are behind so many
abbrev pub numbered : ℕ → Clauses → List Clause
numbered before no_clauses = []
numbered before (plus formula clauses) = record { positive = true; node = number_of before formula } ∷ numbered (before + size formula) clauses
numbered before (minus formula clauses) = record { positive = false; node = number_of before formula } ∷ numbered (before + size formula) clauses

abbrev mutual
  -- the nodes of the formula behind so many others
  pub nodes_of : ℕ → Formula → List SheetNode
  nodes_of before (see label formula) = nodes_of before formula ++ see_node label (number_of before formula) ∷ []
  nodes_of before (all clauses) = nodes_of_clauses before clauses ++ all_node (numbered before clauses) ∷ []

  pub nodes_of_clauses : ℕ → Clauses → List SheetNode
  nodes_of_clauses before no_clauses = []
  nodes_of_clauses before (plus formula clauses) = nodes_of before formula ++ nodes_of_clauses (before + size formula) clauses
  nodes_of_clauses before (minus formula clauses) = nodes_of before formula ++ nodes_of_clauses (before + size formula) clauses
