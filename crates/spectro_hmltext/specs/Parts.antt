-- What is answered for a part of a formula's text: the nodes of the part stand behind those before, and the rest of the text behind the part.
use Rattle.std.specs.Prelude.{ℕ, ◌≡◌, ◌≢◌, ◌++◌, ◌≤◌, Bool, true, false, List, length}
use Rattle.std.specs.Str.{IsUtf8}
use Rattle.spectro_spec.specs.Formula.{Formula, Clauses, no_clauses, plus, minus}
use Rattle.spectro_hml.specs.declared.node.Clause.{Clause}
use Rattle.spectro_hml.specs.Sheets.{SheetNode}
use Rattle.spectro_hmltext.specs.declared.error.TextKind.{TextKind}
use Rattle.spectro_hmltext.specs.declared.token.Token.{Token}
use Rattle.spectro_hmltext.specs.declared.token.Token.TheVariants.{Not}
use Rattle.spectro_hmltext.specs.Tokens.{Begins, token_of}
use Rattle.spectro_hmltext.specs.FormulaTexts.{StandsFormula, StandsClause, StandOthers}
use Rattle.spectro_hmltext.specs.Faults.{BeginsFormula, IsMisplaced, IsFormulaFault}
use Rattle.spectro_hmltext.specs.Numbering.{number_of, numbered, nodes_of, nodes_of_clauses}
use Rattle.spectro_hmltext.specs.declared.parser.TheConstants.{MAX_NESTING}

-- another token is the first of the text, and can't stand there
abbrev pub IsNotFirst : Token → List ℕ → List ℕ → TextKind → Type 0
IsNotFirst token text left kind = (token_of text ≢ token) × IsMisplaced text left kind

-- a formula begins with the token, not too deep, and goes on behind it
pub record IsBegun (nesting : ℕ) (text : List ℕ) (token : Token) (behind : List ℕ) : Type 0 where
  pub begins : Begins token text behind
  pub formula : BeginsFormula token
  pub shallow : nesting ≤ MAX_NESTING
  pub utf8 : IsUtf8 behind

-- the clause has the sign, and its formula begins so
abbrev pub BeginsClause : List ℕ → Bool → List ℕ → Type 0
BeginsClause text true begun = (token_of text ≢ Not) × (begun ≡ text)
BeginsClause text false begun = Begins Not text begun

-- a formula stands at the front of the text, and its node has the number
pub record IsRead (nesting : ℕ) (text : List ℕ) (before after : List SheetNode) (node : ℕ) (rest : List ℕ) : Type 0 where
  pub formula : Formula
  pub stands : StandsFormula nesting text formula rest
  pub nodes : after ≡ before ++ nodes_of (length before) formula
  pub number : node ≡ number_of (length before) formula
  pub utf8 : IsUtf8 rest

-- in whatever text begins with the token and goes on so, a formula stands at the front
abbrev pub IsReadBehind : Token → ℕ → List ℕ → List SheetNode → List SheetNode → ℕ → List ℕ → Type 0
IsReadBehind token nesting behind before after node rest = (text : List ℕ) → Begins token text behind → IsRead nesting text before after node rest

-- whatever text begins with the token and goes on so has the fault, where a formula is to stand
abbrev pub IsFaultBehind : Token → ℕ → List ℕ → List ℕ → TextKind → Type 0
IsFaultBehind token nesting behind left kind = (text : List ℕ) → Begins token text behind → IsFormulaFault left kind nesting text

-- a clause stands at the front of the text
pub record IsReadClause (nesting : ℕ) (text : List ℕ) (before after : List SheetNode) (clause : Clause) (rest : List ℕ) : Type 0 where
  pub formula : Formula
  pub stands : StandsClause nesting text clause.positive formula rest
  pub nodes : after ≡ before ++ nodes_of (length before) formula
  pub number : clause.node ≡ number_of (length before) formula
  pub utf8 : IsUtf8 rest

-- clauses stand at the front of the text, one or more, with commas between them, and a brace behind the last
abbrev pub StandClauses : ℕ → List ℕ → Clauses → List ℕ → Type 0
StandClauses nesting text no_clauses rest = ⊥
StandClauses nesting text (plus formula clauses) rest = (ended : List ℕ) × StandsFormula nesting text formula ended × StandOthers nesting ended clauses rest
StandClauses nesting text (minus formula clauses) rest = (negated : List ℕ) × Begins Not text negated × (ended : List ℕ)
    × StandsFormula nesting negated formula ended × StandOthers nesting ended clauses rest

-- the clauses that stand so, by number
pub record AreRead (nesting : ℕ) (text : List ℕ) (before after : List SheetNode) (list : List Clause) (rest : List ℕ) : Type 0 where
  pub clauses : Clauses
  pub stand : StandClauses nesting text clauses rest
  pub nodes : after ≡ before ++ nodes_of_clauses (length before) clauses
  pub numbers : list ≡ numbered (length before) clauses
  pub utf8 : IsUtf8 rest
