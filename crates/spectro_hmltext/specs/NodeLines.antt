-- One line of the text of a sheet: the number of a node, `see` with a label in quotes and a number, or `all` with clauses.
use Rattle.std.specs.Prelude.{ℕ, ◌≡◌, ◌<◌, ◌≤◌, Bool, true, false, List, [], ◌∷◌, ◌++◌, length, All, codes, if◌then◌else◌}
use Rattle.spectro_io.specs.Blanks.{AreBlanks, IsApart}
use Rattle.spectro_io.specs.Numbers.{is_number, number_value}
use Rattle.spectro_io.specs.QuotedLabels.{is_closed_behind, IsQuoted}
use Rattle.spectro_hml.specs.declared.node.Clause.{Clause}
use Rattle.spectro_hml.specs.Clauses.{ClausesRise}
use Rattle.spectro_hml.specs.Sheets.{SheetNode, see_node, all_node}

-- blanks, if any, then the word, and behind it nothing, or a blank and what follows
pub record BeginsWith (text word rest : List ℕ) : Type 0 where
  pub front : List ℕ
  pub whole : text ≡ front ++ word ++ rest
  pub blanks : AreBlanks front
  pub apart : IsApart rest

-- the first word is digits, and they stand for the number
pub record BeginsNumber (text : List ℕ) (number : ℕ) (rest : List ℕ) : Type 0 where
  pub digits : List ℕ
  pub first : BeginsWith text digits rest
  pub is_number : is_number digits ≡ true
  pub value : number ≡ number_value digits

-- `+` for a positive clause, and `-` for a negative one
abbrev pub sign_of : Bool → ℕ
sign_of positive = if positive then 43 else 45

-- the first word is a sign and digits, and they stand for the clause
pub record BeginsClause (text : List ℕ) (clause : Clause) (rest : List ℕ) : Type 0 where
  pub digits : List ℕ
  pub first : BeginsWith text (sign_of clause.positive ∷ digits) rest
  pub is_number : is_number digits ≡ true
  pub value : clause.node ≡ number_value digits

-- blanks, if any, then this between two quotes, of which the second is the next that no backslash takes with it,
-- and behind it nothing, or a blank and what follows
pub record BeginsQuoted (text inside rest : List ℕ) : Type 0 where
  pub front : List ℕ
  pub whole : text ≡ front ++ 34 ∷ inside ++ 34 ∷ rest
  pub blanks : AreBlanks front
  pub closed : is_closed_behind false inside ≡ true
  pub apart : IsApart rest

-- this between two quotes, a number, and no more
pub record IsObservation (text inside : List ℕ) (next : ℕ) : Type 0 where
  pub rest : List ℕ
  pub back : List ℕ
  pub quoted : BeginsQuoted text inside rest
  pub number : BeginsNumber rest next back
  pub end : AreBlanks back

-- the clauses, and no more
abbrev pub AreClauses : List ℕ → List Clause → Type 0
AreClauses text [] = AreBlanks text
AreClauses text (clause ∷ clauses) = (rest : List ℕ) × BeginsClause text clause rest × AreClauses rest clauses

-- what a line has: its number, and what stands between the quotes with the number behind it, or clauses
pub data NodeForm : Type 0 where
  see_form : ℕ → List ℕ → ℕ → NodeForm
  all_form : ℕ → List Clause → NodeForm

-- the number at the front of the line
abbrev pub first_number : NodeForm → ℕ
first_number (see_form number inside next) = number
first_number (all_form number clauses) = number

-- this is true of each number behind the first
abbrev pub HoldsOfOthers : (ℕ → Type 0) → NodeForm → Type 0
HoldsOfOthers P (see_form number inside next) = P next
HoldsOfOthers P (all_form number clauses) = All (λ clause. P clause.node) clauses

-- the word behind the first number
abbrev pub word_of : NodeForm → List ℕ
word_of (see_form number inside next) = codes "see"
word_of (all_form number clauses) = codes "all"

-- what stands behind the word
abbrev pub IsBehindWord : List ℕ → NodeForm → Type 0
IsBehindWord text (see_form number inside next) = IsObservation text inside next
IsBehindWord text (all_form number clauses) = AreClauses text clauses

-- the line has a number, the word, and what stands behind it, with blanks between them
pub record IsNodeForm (line : List ℕ) (form : NodeForm) : Type 0 where
  pub behind_number : List ℕ
  pub behind_word : List ℕ
  pub number : BeginsNumber line (first_number form) behind_number
  pub word : BeginsWith behind_number (word_of form) behind_word
  pub others : IsBehindWord behind_word form

-- what stands between the quotes is of a label
abbrev pub HasLabel : NodeForm → Type 0
HasLabel (see_form number inside next) = (label : List ℕ) × IsQuoted inside label
HasLabel (all_form number clauses) = Unit {0}

-- no number is above 4294967295
abbrev pub AreSmall : NodeForm → Type 0
AreSmall form = (first_number form ≤ 4294967295) × HoldsOfOthers (λ number. number ≤ 4294967295) form

-- the first number is the place, and the others are below it
abbrev pub IsNextAt : ℕ → NodeForm → Type 0
IsNextAt place form = (first_number form ≡ place) × HoldsOfOthers (λ number. number < place) form

-- the clauses rise strictly, by number, and for one number `+` before `-`
abbrev pub Rises : NodeForm → Type 0
Rises (see_form number inside next) = Unit {0}
Rises (all_form number clauses) = ClausesRise clauses

-- the node that has the label and the numbers
abbrev pub IsNodeOf : NodeForm → SheetNode → Type 0
IsNodeOf (see_form number inside next) node = (label : List ℕ) × IsQuoted inside label × (node ≡ see_node label next)
IsNodeOf (all_form number clauses) node = node ≡ all_node clauses

-- the form is of this node, and it may stand at this place
pub record IsNodeAtPlace (form : NodeForm) (place : ℕ) (node : SheetNode) : Type 0 where
  pub small : AreSmall form
  pub next : IsNextAt place form
  pub rise : Rises form
  pub given : IsNodeOf form node

-- the line is of this node at this place
pub record IsNodeLine (line : List ℕ) (place : ℕ) (node : SheetNode) : Type 0 where
  pub form : NodeForm
  pub written : IsNodeForm line form
  pub placed : IsNodeAtPlace form place node

-- behind the others stands the node of the line, at its place
pub record IsAppended (line : List ℕ) (old new : List SheetNode) : Type 0 where
  pub node : SheetNode
  pub written : IsNodeLine line (length old) node
  pub list : new ≡ old ++ node ∷ []
