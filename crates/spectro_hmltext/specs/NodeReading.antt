-- What the code finds in the line of a node.
use Rattle.std.specs.Prelude.{ℕ, ◌≡◌, ◌==◌, Bool, true, false, List, [], ◌∷◌, ◌++◌, length, map, Option, None, if◌then◌else◌}
use Rattle.std.specs.Option.{option_map}
use Rattle.spectro_io.specs.Numbers.{capped, number_of}
use Rattle.spectro_hml.specs.declared.node.Clause.{Clause}
use Rattle.spectro_hml.specs.Sheets.{SheetNode}
use Rattle.spectro_hmltext.specs.NodeLines.{IsObservation, AreClauses, NodeForm, see_form, all_form, IsNodeAtPlace}
use Rattle.spectro_hmltext.specs.NodeFaults.{IsFormFault}
use Rattle.spectro_hmltext.specs.declared.node_line.NodeError.{NodeError}
use Rattle.spectro_hmltext.specs.declared.node_line.NodeError.TheVariants.{OutOfMemory}
use Rattle.spectro_hmltext.specs.declared.node_line.Observation.{Observation}

-- the clause, with its number as it is read
abbrev pub capped_clause : Clause → Clause
capped_clause clause = record { positive = clause.positive; node = capped clause.node }

-- the form, with its numbers as they are read
abbrev pub capped_form : NodeForm → NodeForm
capped_form (see_form number inside next) = see_form (capped number) inside (capped next)
capped_form (all_form number clauses) = all_form (capped number) (map capped_clause clauses)

-- the text is of no observation
abbrev pub IsNoObservation : List ℕ → Type 0
IsNoObservation text = (inside : List ℕ) (next : ℕ) → ¬ IsObservation text inside next

-- the text has these between its quotes, and the number behind them, as it is read
pub record IsObservationRead (text : List ℕ) (read : Observation) : Type 0 where
  pub next : ℕ
  pub is : IsObservation text read.inside.now next
  pub value : read.next ≡ capped next

-- the clause of the sign, with the number of the digits as it is read
abbrev pub clause_with : Bool → List ℕ → Option Clause
clause_with positive digits = option_map (λ number. record { positive = positive; node = number }) (number_of digits)

-- the clause of a sign and digits, as it is read
abbrev pub clause_read : List ℕ → Option Clause
clause_read [] = None
clause_read (byte ∷ digits) = if byte == 43 then clause_with true digits else (if byte == 45 then clause_with false digits else None)

-- the text is of no clauses
abbrev pub AreNoClauses : List ℕ → Type 0
AreNoClauses text = (clauses : List Clause) → ¬ AreClauses text clauses

-- the text is of these clauses, as they are read
pub record AreClausesRead (text : List ℕ) (read : List Clause) : Type 0 where
  pub clauses : List Clause
  pub are : AreClauses text clauses
  pub values : read ≡ map capped_clause clauses

-- the node of the form was put behind the others, where it may stand there
pub record IsPut (form : NodeForm) (old new : List SheetNode) : Type 0 where
  pub node : SheetNode
  pub placed : IsNodeAtPlace form (length old) node
  pub list : new ≡ old ++ node ∷ []

-- what an error says of the form; want of memory says nothing
abbrev pub IsFormRefused : NodeForm → ℕ → NodeError → Type 0
IsFormRefused form place OutOfMemory = Unit {0}
IsFormRefused form place error = IsFormFault form place error
