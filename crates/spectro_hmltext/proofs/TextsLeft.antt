-- How much of a formula's text is left, behind a part of it or from a fault on.
use Rattle.std.proofs.Common.{ℕ, ◌+◌, ◌<◌, ◌≤◌, Bool, true, false, List, ◌∷◌, length, ap, arith, length-append}
use Rattle.spectro_spec.specs.System.{Label}
use Rattle.spectro_spec.specs.Formula.{Formula, Clauses, see, all, no_clauses, plus, minus}
use Rattle.spectro_io.specs.QuotedLabels.{escaped}
use Rattle.spectro_io.proofs.Blanks.{length-skip_blanks}
use Rattle.spectro_hmltext.specs.declared.error.TextKind.{TextKind}
use Rattle.spectro_hmltext.specs.declared.stop.Stop.TheVariants.{Fault}
use Rattle.spectro_hmltext.specs.declared.token.Token.TheVariants.{Truth, And, Not, Less, Greater, OpenBrace, CloseBrace, Comma}
use Rattle.spectro_hmltext.specs.FormulaTexts.{StandsLabel, StandsFormula, StandsConjunction, StandOthers, StandsClause}
use Rattle.spectro_hmltext.specs.Faults.{IsMisplaced, IsCutLabel, IsLabelFault, IsFormulaFault, IsClauseFault, AreFaultyClauses, IsTextFault}
use Rattle.spectro_hmltext.specs.Numbering.{size, size_of_clauses}
use Rattle.spectro_hmltext.specs.Stops.{StopsAt}
use Rattle.spectro_hmltext.proofs.TokenLaws.{shorter_Begins}

-- ---- behind a part
pub shorter_label : (text : List ℕ) (label : Label) (rest : List ℕ) → StandsLabel text label rest → length rest < length text
shorter_label text label rest stands = omega (arith, ap length stands.whole, length-append (escaped label) (34 ∷ rest), length-skip_blanks text)

mutual
  -- each formula takes as many bytes as it has formulas, or more
  pub shorter_formula : (formula : Formula) (nesting : ℕ) (text rest : List ℕ) → StandsFormula nesting text formula rest
      → size formula + length rest ≤ length text
  shorter_formula (see label formula) nesting text rest stands =
      omega (
        arith,
        shorter_Begins Less text stands.1 stands.2
            (λ e. cc),
        shorter_label stands.1 label stands.3 stands.4,
        shorter_Begins Greater stands.3 stands.5 stands.6 (λ e. cc),
        shorter_formula formula
            (nesting + 1) stands.5 rest stands.7,
      )
  shorter_formula (all clauses) nesting text rest stands = omega (arith, shorter_conjunction clauses nesting text rest stands.1)

  shorter_conjunction : (clauses : Clauses) (nesting : ℕ) (text rest : List ℕ) → StandsConjunction nesting text clauses rest
      → size_of_clauses clauses + 1 + length rest ≤ length text
  shorter_conjunction no_clauses nesting text rest stands = omega (arith, shorter_Begins Truth text rest stands (λ e. cc))
  shorter_conjunction (plus formula clauses) nesting text rest stands =
      omega (
        arith,
        shorter_Begins And text stands.0 stands.1 (λ e. cc),
        shorter_Begins OpenBrace stands.0 stands.2 stands.3
            (λ e. cc),
        shorter_formula formula (nesting + 1) stands.2 stands.4 stands.5,
        shorter_others clauses (nesting + 1) stands.4 rest stands.6,
      )
  shorter_conjunction (minus formula clauses) nesting text rest stands =
      omega (
        arith,
        shorter_Begins And text stands.0 stands.1 (λ e. cc),
        shorter_Begins OpenBrace stands.0 stands.2 stands.3 (λ e. cc),
        shorter_Begins Not stands.2 stands.4 stands.5 (λ e. cc),
        shorter_formula formula (nesting + 1) stands.4 stands.6 stands.7,
        shorter_others clauses (nesting + 1) stands.6 rest stands.8,
      )

  shorter_others : (clauses : Clauses) (nesting : ℕ) (text rest : List ℕ) → StandOthers nesting text clauses rest
      → size_of_clauses clauses + length rest < length text
  shorter_others no_clauses nesting text rest stand = omega (arith, shorter_Begins CloseBrace text rest stand (λ e. cc))
  shorter_others (plus formula clauses) nesting text rest stand =
      omega (
        arith,
        shorter_Begins Comma text stand.0 stand.1
            (λ e. cc),
        shorter_formula formula nesting stand.0 stand.2 stand.3,
        shorter_others clauses nesting stand.2 rest stand.4,
      )
  shorter_others (minus formula clauses) nesting text rest stand =
      omega (
        arith,
        shorter_Begins Comma text stand.0 stand.1 (λ e. cc),
        shorter_Begins Not stand.0 stand.2 stand.3
            (λ e. cc),
        shorter_formula formula nesting stand.2 stand.4 stand.5,
        shorter_others clauses nesting stand.4 rest stand.6,
      )

pub shorter_clause : (nesting : ℕ) (text : List ℕ) (positive : Bool) (formula : Formula) (rest : List ℕ) → StandsClause nesting text positive formula rest
    → length rest ≤ length text
shorter_clause nesting text true formula rest stands = omega (arith, shorter_formula formula nesting text rest stands)
shorter_clause nesting text false formula rest stands = omega
    (arith, shorter_Begins Not text stands.0 stands.1 (λ e. cc), shorter_formula formula nesting stands.0 rest stands.2)

-- ---- a fault stands within the text
misplaced-left : (text left : List ℕ) (kind : TextKind) → IsMisplaced text left kind → length left ≤ length text
misplaced-left text left kind (IsMisplaced.no_token end none is) = omega (arith, ap length none)
misplaced-left text left kind (IsMisplaced.other_token some at is) = omega (arith, ap length at, length-skip_blanks text)

cut-left : (label : Label) (after left : List ℕ) (kind : TextKind) → IsCutLabel label after left kind → length left ≤ length after
cut-left label after left kind (IsCutLabel.ends end none is) = omega (arith, ap length none)
cut-left label after left kind (IsCutLabel.ends_in_escape end none is) = omega (arith, ap length none)
cut-left label after left kind (IsCutLabel.no_escape byte more cut no_quote no_backslash at is) = omega (arith, ap length at)
cut-left label after left kind (IsCutLabel.line_feed more cut at is) = omega (arith, ap length at)
cut-left label after left kind (IsCutLabel.escape_over byte more cut special long at is) = omega (arith, ap length at)
cut-left label after left kind (IsCutLabel.character_over byte more cut no_quote no_backslash begins long at is) = omega (arith, ap length at)

label-left : (text left : List ℕ) (kind : TextKind) → IsLabelFault text left kind → length left ≤ length text
label-left text left kind (IsLabelFault.no_quote none is) = misplaced-left text left kind is
label-left text left kind (IsLabelFault.cut label after whole is_label is) =
    omega (arith, cut-left label after left kind is, ap length whole, length-append (escaped label) after, length-skip_blanks text)

mutual
  pub formula-left : (left : List ℕ) (kind : TextKind) (nesting : ℕ) (text : List ℕ) → IsFormulaFault left kind nesting text → length left ≤ length text
  formula-left left kind _ _ (IsFormulaFault.no_formula nesting text none is) = misplaced-left text left kind is
  formula-left left kind _ _ (IsFormulaFault.too_deep nesting text begins deep at is) = omega (arith, ap length at, length-skip_blanks text)
  formula-left left kind _ _ (IsFormulaFault.no_label nesting text opened shallow less is) = omega
      (arith, shorter_Begins Less text opened less (λ e. cc), label-left opened left kind is)
  formula-left left kind _ _ (IsFormulaFault.no_end_of_label nesting text opened label labelled shallow less stands none is) =
      omega (arith, shorter_Begins Less text opened less (λ e. cc), shorter_label opened label labelled stands, misplaced-left labelled left kind is)
  formula-left left kind _ _ (IsFormulaFault.in_observation nesting text opened label labelled closed shallow less stands greater is) =
      omega (
        arith,
        shorter_Begins Less text opened less
            (λ e. cc),
        shorter_label opened label labelled stands,
        shorter_Begins Greater labelled closed greater (λ e. cc),
        formula-left left kind
            (nesting + 1) closed is,
      )
  formula-left left kind _ _ (IsFormulaFault.no_brace nesting text word shallow and none is) = omega
      (arith, shorter_Begins And text word and (λ e. cc), misplaced-left word left kind is)
  formula-left left kind _ _ (IsFormulaFault.in_conjunction nesting text word opened shallow and brace are) =
      omega (
        arith,
        shorter_Begins And text word and (λ e. cc),
        shorter_Begins OpenBrace word opened brace (λ e. cc),
        clauses-left left kind
            (nesting + 1) opened are,
      )

  clause-left : (left : List ℕ) (kind : TextKind) (nesting : ℕ) (text : List ℕ) → IsClauseFault left kind nesting text → length left ≤ length text
  clause-left left kind _ _ (IsClauseFault.in_formula nesting text plain is) = formula-left left kind nesting text is
  clause-left left kind _ _ (IsClauseFault.in_negated nesting text negated not is) = omega
      (arith, shorter_Begins Not text negated not (λ e. cc), formula-left left kind nesting negated is)

  clauses-left : (left : List ℕ) (kind : TextKind) (nesting : ℕ) (text : List ℕ) → AreFaultyClauses left kind nesting text → length left ≤ length text
  clauses-left left kind _ _ (AreFaultyClauses.in_clause nesting text is) = clause-left left kind nesting text is
  clauses-left left kind _ _ (AreFaultyClauses.no_comma nesting text positive formula ended stands no_comma no_brace is) = omega
      (arith, shorter_clause nesting text positive formula ended stands, misplaced-left ended left kind is)
  clauses-left left kind _ _ (AreFaultyClauses.in_others nesting text positive formula ended next stands comma are) =
      omega (
        arith,
        shorter_clause nesting text positive formula ended stands,
        shorter_Begins Comma ended next comma
            (λ e. cc),
        clauses-left left kind nesting next are,
      )

pub text-left : (text left : List ℕ) (kind : TextKind) → IsTextFault text left kind → length left ≤ length text
text-left text left kind (IsTextFault.in_formula is) = formula-left left kind 1 text is
text-left text left kind (IsTextFault.behind_formula formula rest stands some is) = omega
    (arith, shorter_formula formula 1 text rest stands, misplaced-left rest left kind is)

-- so much is left of the text
pub left-within : (text : List ℕ) (left : ℕ) (kind : TextKind) → StopsAt (IsTextFault text) (Fault left kind) → left ≤ length text
left-within text left kind stops = omega (arith, stops.1, text-left text stops.0 kind stops.2)
