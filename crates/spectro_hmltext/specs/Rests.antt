-- What is still to be written of a text, piece by piece.
use Rattle.std.specs.Prelude.{ℕ, ◌≡◌, ◌<◌, List, [], ◌∷◌, ◌++◌, length, codes, if◌then◌else◌, drop, slice_get, Option, Some, None, All}
use Rattle.spectro_hml.specs.declared.node.Clause.{Clause}
use Rattle.spectro_hml.specs.Sheets.{SheetNode, see_node, all_node, clauses_of, formulas_of, unfolded}
use Rattle.spectro_hmltext.specs.Printed.{clauses_text, formula_text}
use Rattle.spectro_hmltext.specs.declared.printer.Rest.{Rest}
use Rattle.spectro_hmltext.specs.declared.printer.Rest.TheVariants.{Clauses, Formula}

-- the clauses of a conjunction; another node has none
abbrev pub clauses_in : Option SheetNode → List Clause
clauses_in None = []
clauses_in (Some (see_node label next)) = []
clauses_in (Some (all_node clauses)) = clauses

-- the bytes that the rest stands for
abbrev pub rest_text : List SheetNode → Rest → List ℕ
rest_text nodes (Formula node) = formula_text (unfolded nodes node)
rest_text nodes (Clauses node from) = clauses_text (clauses_of (formulas_of nodes) (drop from (clauses_in (slice_get nodes node))))

-- the same of several, of which the last is written first
abbrev pub rests_text : List SheetNode → List Rest → List ℕ
rests_text nodes [] = []
rests_text nodes (rest ∷ rests) = rests_text nodes rests ++ rest_text nodes rest

-- what stands before the formula of the clause
abbrev pub sign_text : Clause → List ℕ
sign_text clause = if clause.positive then [] else codes "not "

-- the node of the rest is one of the sheet
abbrev pub IsRest : List SheetNode → Rest → Type 0
IsRest nodes (Formula node) = node < length nodes
IsRest nodes (Clauses node from) = node < length nodes

-- a front of the text was written behind the old bytes, and rests for what follows it put behind those below
pub record Leaves (nodes : List SheetNode) (text old new : List ℕ) (below now : List Rest) : Type 0 where
  pub front : List ℕ
  pub more : List Rest
  pub written : new ≡ old ++ front
  pub left : now ≡ below ++ more
  pub whole : text ≡ front ++ rests_text nodes more
  pub some : 0 < length front
  pub named : All (IsRest nodes) more
