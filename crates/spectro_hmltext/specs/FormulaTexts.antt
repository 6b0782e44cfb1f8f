-- Texts of formulas:
--   FORMULA is tt, or < "LABEL" > FORMULA, or and { CLAUSE , CLAUSE , .. } with one clause or more
--   CLAUSE is FORMULA, or not FORMULA
-- with blanks between tokens and at both ends. This shape of Hennessy-Milner logic is this project's own.
use Rattle.std.specs.Prelude.{ℕ, ◌≡◌, ◌+◌, ◌≤◌, Bool, true, false, List, ◌∷◌, ◌++◌, length}
use Rattle.spectro_spec.specs.System.{Label, IsLabel}
use Rattle.spectro_spec.specs.Formula.{Formula, Clauses, see, all, no_clauses, plus, minus}
use Rattle.spectro_io.specs.Blanks.{skip_blanks}
use Rattle.spectro_io.specs.QuotedLabels.{escaped}
use Rattle.spectro_hmltext.specs.declared.token.Token.TheVariants.{Truth, And, Not, Less, Greater, OpenBrace, CloseBrace, Comma, End}
use Rattle.spectro_hmltext.specs.Tokens.{Begins, token_of}
use Rattle.spectro_hmltext.specs.declared.parser.TheConstants.{MAX_NESTING, MAX_TEXT_BYTES}

-- the label stands in quotes at the front of the text, with its escapes, and the rest behind it
pub record StandsLabel (text : List ℕ) (label : Label) (rest : List ℕ) : Type 0 where
  pub whole : skip_blanks text ≡ 34 ∷ escaped label ++ 34 ∷ rest
  pub is_label : IsLabel label

abbrev mutual
  -- the formula stands at the front of the text, in as many others as its nesting is above 1, and the rest behind it
  pub StandsFormula : ℕ → List ℕ → Formula → List ℕ → Type 0
  StandsFormula nesting text (see label formula) rest =
      (nesting ≤ MAX_NESTING) × (opened : List ℕ) × Begins Less text opened × (labelled : List ℕ) × StandsLabel opened label labelled × (closed : List ℕ)
      × Begins Greater labelled closed
      × StandsFormula (nesting + 1) closed formula rest
  StandsFormula nesting text (all clauses) rest = (nesting ≤ MAX_NESTING) × StandsConjunction nesting text clauses rest

  -- `tt`, or `and` and the clauses in braces
  pub StandsConjunction : ℕ → List ℕ → Clauses → List ℕ → Type 0
  StandsConjunction nesting text no_clauses rest = Begins Truth text rest
  StandsConjunction nesting text (plus formula clauses) rest =
      (word : List ℕ) × Begins And text word × (opened : List ℕ) × Begins OpenBrace word opened × (ended : List ℕ)
      × StandsFormula (nesting + 1) opened formula ended × StandOthers (nesting + 1) ended clauses rest
  StandsConjunction nesting text (minus formula clauses) rest =
      (word : List ℕ) × Begins And text word × (opened : List ℕ) × Begins OpenBrace word opened × (negated : List ℕ) × Begins Not opened negated
      × (ended : List ℕ) × StandsFormula (nesting + 1) negated formula ended
      × StandOthers (nesting + 1) ended clauses rest

  -- the clauses behind the first, each behind a comma, and a brace behind the last
  pub StandOthers : ℕ → List ℕ → Clauses → List ℕ → Type 0
  StandOthers nesting text no_clauses rest = Begins CloseBrace text rest
  StandOthers nesting text (plus formula clauses) rest = (next : List ℕ) × Begins Comma text next × (ended : List ℕ)
      × StandsFormula nesting next formula ended × StandOthers nesting ended clauses rest
  StandOthers nesting text (minus formula clauses) rest =
      (next : List ℕ) × Begins Comma text next × (negated : List ℕ) × Begins Not next negated × (ended : List ℕ)
      × StandsFormula nesting negated formula ended × StandOthers nesting ended clauses rest

-- a formula stands so, behind `not` where the clause is negative
abbrev pub StandsClause : ℕ → List ℕ → Bool → Formula → List ℕ → Type 0
StandsClause nesting text true formula rest = StandsFormula nesting text formula rest
StandsClause nesting text false formula rest = (negated : List ℕ) × Begins Not text negated × StandsFormula nesting negated formula rest

-- the text is one of the formula
pub record IsFormulaText (text : List ℕ) (formula : Formula) : Type 0 where
  pub short : length text ≤ MAX_TEXT_BYTES
  pub rest : List ℕ
  pub whole : StandsFormula 1 text formula rest
  pub end : token_of rest ≡ End
