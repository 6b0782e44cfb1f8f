-- What is printed of the formula of a text has at most twice as many bytes as that text:
-- `not ` has one byte more than its token, and each other token as many as in the text.
use Rattle.std.proofs.Common.{◌≡◌, ◌∙◌, ℕ, ◌+◌, ◌*◌, ◌≤◌, List, [], ◌∷◌, ◌++◌, length, ap, arith, length-append}
use Rattle.std.specs.Prelude.{codes}
use Rattle.spectro_spec.specs.System.{Label}
use Rattle.spectro_spec.specs.Formula.{Formula, Clauses, see, all, no_clauses, plus, minus}
use Rattle.spectro_io.specs.Blanks.{skip_blanks}
use Rattle.spectro_io.specs.QuotedLabels.{escaped}
use Rattle.spectro_io.proofs.Blanks.{length-skip_blanks}
use Rattle.spectro_hmltext.specs.declared.token.Token.TheVariants.{Truth, And, Not, Less, Greater, OpenBrace, CloseBrace, Comma}
use Rattle.spectro_hmltext.specs.FormulaTexts.{StandsLabel, StandsFormula, StandsConjunction, StandOthers}
use Rattle.spectro_hmltext.specs.Printed.{label_text, formula_text, clauses_text}
use Rattle.spectro_hmltext.specs.Laws.{PrintedTextsAreShort}
use Rattle.spectro_hmltext.proofs.Tokens.{begins_bytes}

label_bytes : (text : List ℕ) (label : Label) (rest : List ℕ) → StandsLabel text label rest → length (label_text label) + length rest ≤ length text
label_bytes text label rest stands =
    let whole : length (skip_blanks text) ≡ length (escaped label ++ 34 ∷ rest) + 1 = ap length stands.whole ∙ omega arith in
    let inside : length (escaped label ++ 34 ∷ rest) ≡ length (escaped label) + (length rest + 1) = length-append (escaped label) (34 ∷ rest) ∙ omega arith in
    let ended : length (escaped label ++ 34 ∷ []) ≡ length (escaped label) + 1 = length-append (escaped label) (34 ∷ []) in
    let printed : length (label_text label) ≡ length (escaped label ++ 34 ∷ []) + 1 = omega arith in
    omega (arith, whole, inside, ended, printed, length-skip_blanks text)

see_bytes : (label : Label) (formula : Formula) → length (formula_text (see label formula)) ≡ 2 + length (label_text label) + length (formula_text formula)
see_bytes label formula =
    let whole : length (formula_text (see label formula)) ≡ length ((codes "<" ++ label_text label) ++ codes ">") + length
    (formula_text formula) = length-append ((codes "<" ++ label_text label) ++ codes ">") (formula_text formula) in
    let front : length ((codes "<" ++ label_text label) ++ codes ">") ≡ length (codes "<" ++ label_text label) + 1 = length-append
    (codes "<" ++ label_text label) (codes ">") in
    let opened : length (codes "<" ++ label_text label) ≡ 1 + length (label_text label) = length-append (codes "<") (label_text label) in
    omega arith

parts_bytes : (front : List ℕ) (formula : Formula) (others : Clauses)
    → length ((front ++ formula_text formula) ++ clauses_text others) ≡ length front + length (formula_text formula) + length (clauses_text others)
parts_bytes front formula others = length-append (front ++ formula_text formula) (clauses_text others)
    ∙ ap (λ bytes. bytes + length (clauses_text others)) (length-append front (formula_text formula))

mutual
  formula_bytes : (formula : Formula) (nesting : ℕ) (text rest : List ℕ) → StandsFormula nesting text formula rest
      → length (formula_text formula) + 2 * length rest ≤ 2 * length text
  formula_bytes (see label formula) nesting text rest stands =
      let less : length stands.1 + 1 ≤ length text = begins_bytes Less text stands.1 stands.2 in
      let quoted : length (label_text label) + length stands.3 ≤ length stands.1 = label_bytes stands.1 label stands.3 stands.4 in
      let greater : length stands.5 + 1 ≤ length stands.3 = begins_bytes Greater stands.3 stands.5 stands.6 in
      let inner : length (formula_text formula) + 2 * length rest ≤ 2 * length stands.5 = formula_bytes formula (nesting + 1) stands.5 rest stands.7 in
      let printed : length (formula_text (see label formula)) ≡ 2 + length (label_text label) + length (formula_text formula) = see_bytes label formula in
      omega (arith, less, quoted, greater, inner, printed)
  formula_bytes (all clauses) nesting text rest stands = conjunction_bytes clauses nesting text rest stands.1

  conjunction_bytes : (clauses : Clauses) (nesting : ℕ) (text rest : List ℕ) → StandsConjunction nesting text clauses rest
      → length (formula_text (all clauses)) + 2 * length rest ≤ 2 * length text
  conjunction_bytes no_clauses nesting text rest stands = let word : length rest + 2 ≤ length text = begins_bytes Truth text rest stands in omega (arith, word)
  conjunction_bytes (plus formula clauses) nesting text rest stands =
      let word : length stands.0 + 3 ≤ length text = begins_bytes And text stands.0 stands.1 in
      let brace : length stands.2 + 1 ≤ length stands.0 = begins_bytes OpenBrace stands.0 stands.2 stands.3 in
      let first : length (formula_text formula) + 2 * length stands.4 ≤ 2 * length stands.2 = formula_bytes formula (nesting + 1) stands.2 stands.4 stands.5 in
      let others : length (clauses_text clauses) + 2 * length rest ≤ 2 * length stands.4 = others_bytes clauses (nesting + 1) stands.4 rest stands.6 in
      let printed : length (formula_text (all (plus formula clauses))) ≡ 4 + length (formula_text formula) + length (clauses_text clauses) = parts_bytes
      (codes "and{") formula clauses in
      omega (arith, word, brace, first, others, printed)
  conjunction_bytes (minus formula clauses) nesting text rest stands =
      let word : length stands.0 + 3 ≤ length text = begins_bytes And text stands.0 stands.1 in
      let brace : length stands.2 + 1 ≤ length stands.0 = begins_bytes OpenBrace stands.0 stands.2 stands.3 in
      let negation : length stands.4 + 3 ≤ length stands.2 = begins_bytes Not stands.2 stands.4 stands.5 in
      let first : length (formula_text formula) + 2 * length stands.6 ≤ 2 * length stands.4 = formula_bytes formula (nesting + 1) stands.4 stands.6 stands.7 in
      let others : length (clauses_text clauses) + 2 * length rest ≤ 2 * length stands.6 = others_bytes clauses (nesting + 1) stands.6 rest stands.8 in
      let printed : length (formula_text (all (minus formula clauses))) ≡ 8 + length (formula_text formula) + length (clauses_text clauses) = parts_bytes
      (codes "and{not ") formula clauses in
      omega (arith, word, brace, negation, first, others, printed)

  others_bytes : (clauses : Clauses) (nesting : ℕ) (text rest : List ℕ) → StandOthers nesting text clauses rest
      → length (clauses_text clauses) + 2 * length rest ≤ 2 * length text
  others_bytes no_clauses nesting text rest stands = let brace : length rest + 1 ≤ length text = begins_bytes CloseBrace text rest stands in omega
      (arith, brace)
  others_bytes (plus formula clauses) nesting text rest stands =
      let comma : length stands.0 + 1 ≤ length text = begins_bytes Comma text stands.0 stands.1 in
      let first : length (formula_text formula) + 2 * length stands.2 ≤ 2 * length stands.0 = formula_bytes formula nesting stands.0 stands.2 stands.3 in
      let others : length (clauses_text clauses) + 2 * length rest ≤ 2 * length stands.2 = others_bytes clauses nesting stands.2 rest stands.4 in
      let printed : length (clauses_text (plus formula clauses)) ≡ 1 + length (formula_text formula) + length (clauses_text clauses) = parts_bytes
      (codes ",") formula clauses in
      omega (arith, comma, first, others, printed)
  others_bytes (minus formula clauses) nesting text rest stands =
      let comma : length stands.0 + 1 ≤ length text = begins_bytes Comma text stands.0 stands.1 in
      let negation : length stands.2 + 3 ≤ length stands.0 = begins_bytes Not stands.0 stands.2 stands.3 in
      let first : length (formula_text formula) + 2 * length stands.4 ≤ 2 * length stands.2 = formula_bytes formula nesting stands.2 stands.4 stands.5 in
      let others : length (clauses_text clauses) + 2 * length rest ≤ 2 * length stands.4 = others_bytes clauses nesting stands.4 rest stands.6 in
      let printed : length (clauses_text (minus formula clauses)) ≡ 5 + length (formula_text formula) + length (clauses_text clauses) = parts_bytes
      (codes ",not ") formula clauses in
      omega (arith, comma, negation, first, others, printed)

-- twice the bytes of the longest text
pub printed_is_short : PrintedTextsAreShort
printed_is_short text formula is =
    let short : length text ≤ 65536 = is.short in
    let bytes : length (formula_text formula) + 2 * length is.rest ≤ 2 * length text = formula_bytes formula 1 text is.rest is.whole in
    omega (arith, short, bytes)
