-- The first fault of a formula's text, from the left: so far the text is one of a formula, and then it goes on so.
-- What is left of the text from the fault on says where it is.
use Rattle.std.specs.Prelude.{ℕ, ◌≡◌, ◌≢◌, ◌+◌, ◌<◌, ◌≤◌, ◌⊎◌, ◌&&◌, not, nat_lt, Bool, false, List, [], ◌∷◌, ◌++◌, length}
use Rattle.std.specs.List.{before_first}
use Rattle.spectro_spec.specs.System.{Label, IsLabel}
use Rattle.spectro_spec.specs.Formula.{Formula}
use Rattle.spectro_io.specs.Blanks.{skip_blanks}
use Rattle.spectro_io.specs.QuotedLabels.{escaped}
use Rattle.spectro_hmltext.specs.declared.error.ParseError.{ParseError}
use Rattle.spectro_hmltext.specs.declared.error.ParseError.TheVariants.{Text, OutOfMemory}
use Rattle.spectro_hmltext.specs.declared.error.TextFault.{TextFault}
use Rattle.spectro_hmltext.specs.declared.error.TextKind.{TextKind}
use Rattle.spectro_hmltext.specs.declared.error.TextKind.TheVariants.{TooLong, TooDeep, BadLabel, Unexpected, UnexpectedEnd}
use Rattle.spectro_hmltext.specs.declared.token.Token.{Token}
use Rattle.spectro_hmltext.specs.declared.token.Token.TheVariants.{Truth, And, Not, Less, Greater, OpenBrace, CloseBrace, Comma, Quote, End}
use Rattle.spectro_hmltext.specs.Tokens.{Begins, token_of}
use Rattle.spectro_hmltext.specs.FormulaTexts.{StandsLabel, StandsFormula, StandsClause}
use Rattle.spectro_io.specs.declared.quoted.TheConstants.{MAX_LABEL_BYTES}
use Rattle.spectro_hmltext.specs.declared.parser.TheConstants.{MAX_NESTING, MAX_TEXT_BYTES}

-- the first token of the text can't stand there
pub data IsMisplaced (text left : List ℕ) (kind : TextKind) : Type 0 where
  no_token : token_of text ≡ End → left ≡ [] → kind ≡ UnexpectedEnd → IsMisplaced text left kind
  other_token : token_of text ≢ End → left ≡ skip_blanks text → kind ≡ Unexpected → IsMisplaced text left kind

-- the bytes behind the first of a character
abbrev pub continuation_of : List ℕ → List ℕ
continuation_of text = before_first (λ byte. not (nat_lt 127 byte && nat_lt byte 192)) text

-- these bytes of a label are without fault, and then the text goes on so
pub data IsCutLabel (label : Label) (after left : List ℕ) (kind : TextKind) : Type 0 where
  ends : after ≡ [] → left ≡ [] → kind ≡ UnexpectedEnd → IsCutLabel label after left kind
  ends_in_escape : after ≡ 92 ∷ [] → left ≡ [] → kind ≡ UnexpectedEnd → IsCutLabel label after left kind
  no_escape : (byte : ℕ) (more : List ℕ) → after ≡ 92 ∷ byte ∷ more → byte ≢ 34 → byte ≢ 92 → left ≡ after → kind ≡ BadLabel → IsCutLabel label after left kind
  line_feed : (more : List ℕ) → after ≡ 10 ∷ more → left ≡ after → kind ≡ BadLabel → IsCutLabel label after left kind
  -- a quote or a backslash, in its escape, is a byte too many
  escape_over : (byte : ℕ) (more : List ℕ) → after ≡ 92 ∷ byte ∷ more → (byte ≡ 34) ⊎ (byte ≡ 92) → MAX_LABEL_BYTES < length label + 1
      → left ≡ after → kind ≡ BadLabel
      → IsCutLabel label after left kind
  -- another character has too many bytes
  character_over : (byte : ℕ) (more : List ℕ) → after ≡ byte ∷ more → byte ≢ 34 → byte ≢ 92 → (nat_lt 127 byte && nat_lt byte 192) ≡ false
      → MAX_LABEL_BYTES < length label + 1 + length (continuation_of more)
      → left ≡ after → kind ≡ BadLabel → IsCutLabel label after left kind

-- at the front of the text no label stands in quotes
pub data IsLabelFault (text left : List ℕ) (kind : TextKind) : Type 0 where
  no_quote : token_of text ≢ Quote → IsMisplaced text left kind → IsLabelFault text left kind
  cut : (label : Label) (after : List ℕ) → skip_blanks text ≡ 34 ∷ escaped label ++ after → IsLabel label → IsCutLabel label after left kind
      → IsLabelFault text left kind

-- a formula can begin with the token
abbrev pub BeginsFormula : Token → Type 0
BeginsFormula token = (token ≡ Truth) ⊎ ((token ≡ Less) ⊎ (token ≡ And))

mutual
  -- where a formula is to stand, in as many others as its nesting is above 1
  pub data IsFormulaFault (left : List ℕ) (kind : TextKind) : ℕ → List ℕ → Type 0 where
    no_formula : (nesting : ℕ) (text : List ℕ) → ¬ BeginsFormula (token_of text) → IsMisplaced text left kind → IsFormulaFault left kind nesting text
    too_deep : (nesting : ℕ) (text : List ℕ) → BeginsFormula (token_of text) → MAX_NESTING < nesting → left ≡ skip_blanks text → kind ≡ TooDeep
        → IsFormulaFault left kind nesting text
    no_label : (nesting : ℕ) (text opened : List ℕ) → nesting ≤ MAX_NESTING → Begins Less text opened → IsLabelFault opened left kind
        → IsFormulaFault left kind nesting text
    no_end_of_label : (nesting : ℕ) (text opened : List ℕ) (label : Label) (labelled : List ℕ) → nesting ≤ MAX_NESTING → Begins Less text opened
        → StandsLabel opened label labelled → token_of labelled ≢ Greater
        → IsMisplaced labelled left kind → IsFormulaFault left kind nesting text
    in_observation : (nesting : ℕ) (text opened : List ℕ) (label : Label) (labelled closed : List ℕ) → nesting ≤ MAX_NESTING → Begins Less text opened
        → StandsLabel opened label labelled → Begins Greater labelled closed
        → IsFormulaFault left kind (nesting + 1) closed → IsFormulaFault left kind nesting text
    no_brace : (nesting : ℕ) (text word : List ℕ) → nesting ≤ MAX_NESTING → Begins And text word → token_of word ≢ OpenBrace → IsMisplaced word left kind
        → IsFormulaFault left kind nesting text
    in_conjunction : (nesting : ℕ) (text word opened : List ℕ) → nesting ≤ MAX_NESTING → Begins And text word → Begins OpenBrace word opened
        → AreFaultyClauses left kind (nesting + 1) opened → IsFormulaFault left kind nesting text

  -- where a clause is to stand
  pub data IsClauseFault (left : List ℕ) (kind : TextKind) : ℕ → List ℕ → Type 0 where
    in_formula : (nesting : ℕ) (text : List ℕ) → token_of text ≢ Not → IsFormulaFault left kind nesting text → IsClauseFault left kind nesting text
    in_negated : (nesting : ℕ) (text negated : List ℕ) → Begins Not text negated → IsFormulaFault left kind nesting negated
        → IsClauseFault left kind nesting text

  -- where clauses are to stand
  pub data AreFaultyClauses (left : List ℕ) (kind : TextKind) : ℕ → List ℕ → Type 0 where
    in_clause : (nesting : ℕ) (text : List ℕ) → IsClauseFault left kind nesting text → AreFaultyClauses left kind nesting text
    no_comma : (nesting : ℕ) (text : List ℕ) (positive : Bool) (formula : Formula) (ended : List ℕ) → StandsClause nesting text positive formula ended
        → token_of ended ≢ Comma → token_of ended ≢ CloseBrace
        → IsMisplaced ended left kind → AreFaultyClauses left kind nesting text
    in_others : (nesting : ℕ) (text : List ℕ) (positive : Bool) (formula : Formula) (ended next : List ℕ) → StandsClause nesting text positive formula ended
        → Begins Comma ended next
        → AreFaultyClauses left kind nesting next → AreFaultyClauses left kind nesting text

-- where the text is to be one of a formula
pub data IsTextFault (text left : List ℕ) (kind : TextKind) : Type 0 where
  in_formula : IsFormulaFault left kind 1 text → IsTextFault text left kind
  behind_formula : (formula : Formula) (rest : List ℕ) → StandsFormula 1 text formula rest → token_of rest ≢ End → IsMisplaced rest left kind
      → IsTextFault text left kind

-- the text is too long; or else, with so much of it left, it has the fault
pub data IsFirstFault (text : List ℕ) (fault : TextFault) : Type 0 where
  too_long : MAX_TEXT_BYTES < length text → fault.at ≡ MAX_TEXT_BYTES → fault.kind ≡ TooLong → IsFirstFault text fault
  other : length text ≤ MAX_TEXT_BYTES → (left : List ℕ) → IsTextFault text left fault.kind → fault.at + length left ≡ length text → IsFirstFault text fault

-- what an error says of the text; want of memory says nothing
abbrev pub IsRefused : List ℕ → ParseError → Type 0
IsRefused text (Text fault) = IsFirstFault text fault
IsRefused text OutOfMemory = Unit {0}
