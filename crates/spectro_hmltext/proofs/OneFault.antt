-- A text is of one formula at most, or has one first fault: what is read of the whole text is one outcome.
use Rattle.std.proofs.Common.{◌≡◌, ◌∙◌, ℕ, ◌≤◌, List, length, refl, sym, ap, arith}
use Rattle.std.specs.Prelude.{◌≢◌}
use Rattle.spectro_spec.specs.Formula.{Formula}
use Rattle.spectro_hmltext.specs.declared.error.TextFault.{TextFault}
use Rattle.spectro_hmltext.specs.declared.error.TextKind.{TextKind}
use Rattle.spectro_hmltext.specs.declared.token.Token.{Token}
use Rattle.spectro_hmltext.specs.declared.token.Token.TheVariants.{End}
use Rattle.spectro_hmltext.specs.Tokens.{token_of}
use Rattle.spectro_hmltext.specs.FormulaTexts.{IsFormulaText}
use Rattle.spectro_hmltext.specs.Faults.{IsTextFault, IsFirstFault}
use Rattle.spectro_hmltext.specs.Laws.{EachTextHasAtMostOneFormula, EachTextHasAtMostOneFirstFault, TextsOfFormulasHaveNoFault}
use Rattle.spectro_hmltext.proofs.Outcomes.{Outcome, given, fault, misplaced, misplaced_fault, Settles, settles_changed, one_outcome}
use Rattle.spectro_hmltext.proofs.Readings.{read_formula}
use Rattle.spectro_hmltext.proofs.OneReading.{formula_settles, formula_fails}

-- behind the formula of a text there is no token
abbrev ended_at : Token → Formula → List ℕ → Outcome Formula
ended_at End formula rest = given formula rest
ended_at _ formula rest = misplaced rest

abbrev ended : Outcome Formula → Outcome Formula
ended (given formula rest) = ended_at (token_of rest) formula rest
ended (fault left kind) = fault left kind

ended_at-other : (token : Token) (formula : Formula) (rest : List ℕ) → token ≢ End → ended_at token formula rest ≡ misplaced rest
ended_at-other End formula rest other = absurd (other refl)
ended_at-other _ formula rest other = refl

abbrev read_text : List ℕ → ℕ → Outcome Formula
read_text text granted = ended (read_formula granted 1 text)

abbrev TextSettles : List ℕ → Outcome Formula → Type 0
TextSettles text outcome = Settles Formula (read_text text) outcome

-- what is read of a part settles what is read of the text
text_settles : (text : List ℕ) (part outcome : Outcome Formula) → Settles Formula (λ granted. read_formula granted 1 text) part → ended part ≡ outcome
    → TextSettles text outcome
text_settles text part outcome settles is =
    let changed = settles_changed (λ granted. read_formula granted 1 text) part ended settles in
    record { steps = changed.steps; settled = λ granted within. changed.settled granted within ∙ is }

formula_read : (text : List ℕ) (formula : Formula) (is : IsFormulaText text formula) → TextSettles text (given formula is.rest)
formula_read text formula is = text_settles text (given formula is.rest) (given formula is.rest) (formula_settles formula 1 text is.rest is.whole)
    (ap (λ token. ended_at token formula is.rest) is.end)

fault_found : (text left : List ℕ) (kind : TextKind) → IsTextFault text left kind → TextSettles text (fault left kind)
fault_found text left kind (IsTextFault.in_formula fails) = text_settles text (fault left kind) (fault left kind) (formula_fails left kind fails) refl
fault_found text left kind (IsTextFault.behind_formula formula rest stands other is) =
    text_settles text (given formula rest) (fault left kind) (formula_settles formula 1 text rest stands) (ended_at-other (token_of rest) formula rest other
    ∙ misplaced_fault rest left kind is)

-- two formulas of one text are one
pub one_formula : EachTextHasAtMostOneFormula
one_formula text one two is_one is_two =
    let same : given one is_one.rest ≡ given two is_two.rest = one_outcome (read_text text) (given one is_one.rest) (given two is_two.rest)
    (formula_read text one is_one) (formula_read text two is_two) in
    cc

-- a text of a formula has no first fault
pub no_fault_of_text : TextsOfFormulasHaveNoFault
no_fault_of_text text formula found is (IsFirstFault.too_long long _ _) = let short : length text ≤ 65536 = is.short in omega (arith, short, long)
no_fault_of_text text formula found is (IsFirstFault.other short left fails sum) =
    let same : given formula is.rest ≡ fault left found.kind = one_outcome (read_text text) (given formula is.rest) (fault left found.kind)
    (formula_read text formula is) (fault_found text left found.kind fails) in
    cc

same_fault : (one two : TextFault) → one.at ≡ two.at → one.kind ≡ two.kind → one ≡ two
same_fault one two places kinds = ap (λ place. record { at = place; kind = one.kind }) places ∙ ap (λ kind. record { at = two.at; kind = kind }) kinds

-- two first faults of one text are one
pub one_fault : EachTextHasAtMostOneFirstFault
one_fault text one two (IsFirstFault.too_long _ place kind) (IsFirstFault.too_long _ other_place other_kind) = same_fault one two (place
    ∙ sym other_place) (kind ∙ sym other_kind)
one_fault text one two (IsFirstFault.too_long long _ _) (IsFirstFault.other short _ _ _) = absurd (omega (arith, long, short))
one_fault text one two (IsFirstFault.other short _ _ _) (IsFirstFault.too_long long _ _) = absurd (omega (arith, long, short))
one_fault text one two (IsFirstFault.other _ left fails sum) (IsFirstFault.other _ other_left other_fails other_sum) =
    let same : fault left one.kind ≡ fault other_left two.kind =
    one_outcome (read_text text) (fault left one.kind) (fault other_left two.kind) (fault_found text left one.kind fails)
    (fault_found text other_left two.kind other_fails) in
    let lefts : left ≡ other_left = cc in
    let kinds : one.kind ≡ two.kind = cc in
    let bytes : length left ≡ length other_left = ap length lefts in
    same_fault one two (omega (arith, bytes, sum, other_sum)) kinds
