-- What is true of all texts of formulas.
use Rattle.std.specs.Prelude.{ℕ, ◌≡◌, ◌≤◌, ◌⊎◌, List, length}
use Rattle.std.specs.Str.{IsUtf8}
use Rattle.spectro_spec.specs.Formula.{Formula}
use Rattle.spectro_hmltext.specs.declared.error.TextFault.{TextFault}
use Rattle.spectro_hmltext.specs.FormulaTexts.{IsFormulaText}
use Rattle.spectro_hmltext.specs.Faults.{IsFirstFault}
use Rattle.spectro_hmltext.specs.Printed.{formula_text, nesting_of, HasLabels}
use Rattle.spectro_hmltext.specs.declared.parser.TheConstants.{MAX_NESTING, MAX_TEXT_BYTES}

abbrev pub EachTextHasAtMostOneFormula : Type 0
EachTextHasAtMostOneFormula = (text : List ℕ) (one other : Formula) → IsFormulaText text one → IsFormulaText text other → one ≡ other

abbrev pub EachTextHasAtMostOneFirstFault : Type 0
EachTextHasAtMostOneFirstFault = (text : List ℕ) (one other : TextFault) → IsFirstFault text one → IsFirstFault text other → one ≡ other

abbrev pub TextsOfFormulasHaveNoFault : Type 0
TextsOfFormulasHaveNoFault = (text : List ℕ) (formula : Formula) (fault : TextFault) → IsFormulaText text formula → IsFirstFault text fault → ⊥

-- each text of UTF-8 is of a formula or has a first fault
abbrev pub EachTextHasAFormulaOrAFault : Type 0
EachTextHasAFormulaOrAFault = (text : List ℕ) → IsUtf8 text → ((formula : Formula) × IsFormulaText text formula) ⊎ ((fault : TextFault)
    × IsFirstFault text fault)

-- what is printed of a formula is a text of it, where it keeps the limits of a text
abbrev pub PrintedTextsAreRead : Type 0
PrintedTextsAreRead = (formula : Formula) → HasLabels formula → nesting_of formula ≤ MAX_NESTING → length (formula_text formula) ≤ MAX_TEXT_BYTES
    → IsFormulaText (formula_text formula) formula

-- what is printed of the formula of a text has at most twice as many bytes as a text may have
abbrev pub PrintedTextsAreShort : Type 0
PrintedTextsAreShort = (text : List ℕ) (formula : Formula) → IsFormulaText text formula → length (formula_text formula) ≤ 131072
