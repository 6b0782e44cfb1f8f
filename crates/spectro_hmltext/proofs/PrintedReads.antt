-- What is printed of a formula is read as that formula.
use Rattle.std.proofs.Common.{◌≡◌, ℕ, ◌+◌, ◌≤◌, List, [], ◌∷◌, ◌++◌, refl, sym, ap, subst, arith, append_assoc, append-nil}
use Rattle.std.specs.Prelude.{codes}
use Rattle.spectro_spec.specs.System.{Label, IsLabel}
use Rattle.spectro_spec.specs.Formula.{Formula, Clauses, see, all, no_clauses, plus, minus}
use Rattle.spectro_io.specs.QuotedLabels.{escaped}
use Rattle.spectro_hmltext.specs.declared.token.Token.TheVariants.{Truth, And, Less}
use Rattle.spectro_hmltext.specs.FormulaTexts.{StandsLabel, StandsFormula, StandsConjunction, StandOthers}
use Rattle.spectro_hmltext.specs.Printed.{label_text, formula_text, clauses_text, nesting_of, nesting_of_clauses, HasLabels, HaveLabels}
use Rattle.spectro_hmltext.specs.Laws.{PrintedTextsAreRead}
use Rattle.spectro_hmltext.proofs.Tokens.{BeginsApart, begins_truth, begins_and, begins_not, begins_less, begins_greater, begins_open, begins_close, begins_comma, begins_behind_space}

-- a comma or a brace stands behind a clause
clauses_apart : (clauses : Clauses) (rest : List ℕ) → BeginsApart (clauses_text clauses ++ rest)
clauses_apart no_clauses rest = BeginsApart.something 125 rest refl refl
clauses_apart (plus _ _) rest = BeginsApart.something 44 _ refl refl
clauses_apart (minus _ _) rest = BeginsApart.something 44 _ refl refl

stands_label : (label : Label) (rest : List ℕ) → IsLabel label → StandsLabel (label_text label ++ rest) label rest
stands_label label rest is = record { whole = ap (λ bytes. 34 ∷ bytes) (append_assoc (escaped label) (34 ∷ []) rest); is_label = is }

-- a space before a formula says nothing
stands_behind_space : (formula : Formula) (nesting : ℕ) (text rest : List ℕ) → StandsFormula nesting text formula rest
    → StandsFormula nesting (32 ∷ text) formula rest
stands_behind_space (see label formula) nesting text rest stands =
    (stands.0, stands.1, begins_behind_space Less text stands.1 stands.2, stands.3, stands.4, stands.5, stands.6, stands.7)
stands_behind_space (all no_clauses) nesting text rest stands = (stands.0, begins_behind_space Truth text rest stands.1)
stands_behind_space (all (plus formula _)) nesting text rest stands = let parts = stands.1 in
    (stands.0, (parts.0, begins_behind_space And text parts.0 parts.1, parts.2, parts.3, parts.4, parts.5, parts.6))
stands_behind_space (all (minus formula _)) nesting text rest stands = let parts = stands.1 in
    (stands.0, (parts.0, begins_behind_space And text parts.0 parts.1, parts.2, parts.3, parts.4, parts.5, parts.6, parts.7, parts.8))

-- the parts of what is printed, and the rest
see_parts : (label : Label) (formula : Formula) (rest : List ℕ)
    → formula_text (see label formula) ++ rest ≡ codes "<" ++ (label_text label ++ (codes ">" ++ (formula_text formula ++ rest)))
see_parts label formula rest = simp append_assoc

clause_parts : (front : List ℕ) (formula : Formula) (others : Clauses) (rest : List ℕ)
    → ((front ++ formula_text formula) ++ clauses_text others) ++ rest ≡ front ++ (formula_text formula ++ (clauses_text others ++ rest))
clause_parts front formula others rest = simp append_assoc

mutual
  formula_stands : (formula : Formula) (nesting : ℕ) (rest : List ℕ) → HasLabels formula → nesting_of formula + nesting ≤ 257 → BeginsApart rest
      → StandsFormula nesting (formula_text formula ++ rest) formula rest
  formula_stands (see label formula) nesting rest labels few apart =
      let behind : List ℕ = formula_text formula ++ rest in
      let closing : List ℕ = codes ">" ++ behind in
      let opened : List ℕ = label_text label ++ closing in
      let inner = formula_stands formula (nesting + 1) rest labels.1 (omega arith) apart in
      subst (λ text. StandsFormula nesting text (see label formula) rest) (sym (see_parts label formula rest))
      (omega arith, opened, begins_less opened, closing, stands_label label closing labels.0, behind, begins_greater behind, inner)
  formula_stands (all clauses) nesting rest labels few apart = (omega arith, conjunction_stands clauses nesting rest labels (omega arith) apart)

  conjunction_stands : (clauses : Clauses) (nesting : ℕ) (rest : List ℕ) → HaveLabels clauses → nesting_of_clauses clauses + (nesting + 1) ≤ 257
      → BeginsApart rest → StandsConjunction nesting (formula_text (all clauses) ++ rest) clauses rest
  conjunction_stands no_clauses nesting rest labels few apart = begins_truth rest apart
  conjunction_stands (plus formula clauses) nesting rest labels few apart =
      let ended : List ℕ = clauses_text clauses ++ rest in
      let inside : List ℕ = formula_text formula ++ ended in
      let first = formula_stands formula (nesting + 1) ended labels.0 (omega arith) (clauses_apart clauses rest) in
      let others = others_stand clauses (nesting + 1) rest labels.1 (omega arith) in
      subst (λ text. StandsConjunction nesting text (plus formula clauses) rest) (sym (clause_parts (codes "and{") formula clauses rest))
      (codes "{" ++ inside, begins_and inside, inside, begins_open inside, ended, first, others)
  conjunction_stands (minus formula clauses) nesting rest labels few apart =
      let ended : List ℕ = clauses_text clauses ++ rest in
      let inside : List ℕ = formula_text formula ++ ended in
      let negated : List ℕ = codes "not " ++ inside in
      let first = formula_stands formula (nesting + 1) ended labels.0 (omega arith) (clauses_apart clauses rest) in
      let others = others_stand clauses (nesting + 1) rest labels.1 (omega arith) in
      subst (λ text. StandsConjunction nesting text (minus formula clauses) rest) (sym (clause_parts (codes "and{not ") formula clauses rest)) (
        codes "{" ++ negated,
        begins_and negated,
        negated,
        begins_open negated,
        32 ∷ inside,
        begins_not inside,
        ended,
        stands_behind_space formula
            (nesting + 1) inside ended first,
        others,
      )

  others_stand : (clauses : Clauses) (nesting : ℕ) (rest : List ℕ) → HaveLabels clauses → nesting_of_clauses clauses + nesting ≤ 257
      → StandOthers nesting (clauses_text clauses ++ rest) clauses rest
  others_stand no_clauses nesting rest labels few = begins_close rest
  others_stand (plus formula clauses) nesting rest labels few =
      let ended : List ℕ = clauses_text clauses ++ rest in
      let inside : List ℕ = formula_text formula ++ ended in
      let first = formula_stands formula nesting ended labels.0 (omega arith) (clauses_apart clauses rest) in
      let others = others_stand clauses nesting rest labels.1 (omega arith) in
      subst (λ text. StandOthers nesting text (plus formula clauses) rest) (sym (clause_parts (codes ",") formula clauses rest))
      (inside, begins_comma inside, ended, first, others)
  others_stand (minus formula clauses) nesting rest labels few =
      let ended : List ℕ = clauses_text clauses ++ rest in
      let inside : List ℕ = formula_text formula ++ ended in
      let negated : List ℕ = codes "not " ++ inside in
      let first = formula_stands formula nesting ended labels.0 (omega arith) (clauses_apart clauses rest) in
      let others = others_stand clauses nesting rest labels.1 (omega arith) in
      subst (λ text. StandOthers nesting text (minus formula clauses) rest) (sym (clause_parts (codes ",not ") formula clauses rest))
      (negated, begins_comma negated, 32 ∷ inside, begins_not inside, ended, stands_behind_space formula nesting inside ended first, others)

-- the whole text, with nothing behind it
pub printed_is_read : PrintedTextsAreRead
printed_is_read formula labels few short = record {
  short = short;
  rest = [];
  whole = subst (λ text. StandsFormula 1 text formula []) (append-nil (formula_text formula))
      (formula_stands formula 1 [] labels (omega arith) (BeginsApart.nothing refl));
  end = refl;
}
