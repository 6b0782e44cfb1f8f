-- What is read of a formula's text: the formula that stands there, or its fault. As many steps as are granted may be too few.
use Rattle.std.proofs.Common.{◌≡◌, ◌∙◌, ℕ, ◌+◌, ◌≤◌, Bool, true, false, List, refl, sym, ap, inl, inr}
use Rattle.std.specs.Prelude.{◌≢◌, nat_lt}
use Rattle.std.proofs.lemmas.Bool.{lt-ltb, le-ltb}
use Rattle.spectro_io.specs.Blanks.{skip_blanks}
use Rattle.spectro_spec.specs.System.{Label}
use Rattle.spectro_spec.specs.Formula.{Formula, Clauses, see, all, no_clauses, plus, minus}
use Rattle.spectro_hmltext.specs.declared.error.TextKind.{TextKind}
use Rattle.spectro_hmltext.specs.declared.error.TextKind.TheVariants.{TooDeep}
use Rattle.spectro_hmltext.specs.declared.token.Token.{Token}
use Rattle.spectro_hmltext.specs.declared.token.Token.TheVariants.{Truth, And, Not, Less, Greater, OpenBrace}
use Rattle.spectro_hmltext.specs.Tokens.{Begins, token_of, behind_token}
use Rattle.spectro_hmltext.specs.FormulaTexts.{StandsLabel, StandsFormula, StandsConjunction, StandOthers, StandsClause}
use Rattle.spectro_hmltext.specs.Faults.{BeginsFormula, IsFormulaFault, IsClauseFault, AreFaultyClauses}
use Rattle.spectro_hmltext.proofs.Outcomes.{Outcome, given, fault, mapped, misplaced, misplaced_fault, same_fault}
use Rattle.spectro_hmltext.proofs.Readings.{at_once, observed, conjoined, greater_front, label_front, brace_front, front_at, front_of, with_clause, FormulaSettles, ClausesSettle, OthersSettle, at_once_settles, observed_settles, conjoined_settles, plain_sign, negated_sign, clause_fails, clauses_settle, closed_settle, more_settle, neither_settle}
use Rattle.spectro_hmltext.proofs.LabelOutcomes.{label_given, label_fault}

-- what the tokens at the front say
front_is : (token : Token) (nesting : ℕ) (text behind : List ℕ) → nesting ≤ 256 → Begins token text behind
    → front_of nesting text ≡ front_at token false text behind
front_is token nesting text behind few begins =
    ap (λ token. front_at token (nat_lt 256 nesting) text (behind_token text)) begins.first
    ∙ ap (λ deep. front_at token deep text (behind_token text)) (le-ltb 256 nesting few)
    ∙ ap (λ behind. front_at token false text behind) (sym begins.behind)

front-observed : (nesting : ℕ) (text opened : List ℕ) (label : Label) (labelled closed : List ℕ) → nesting ≤ 256 → Begins Less text opened
    → StandsLabel opened label labelled → Begins Greater labelled closed
    → front_of nesting text ≡ observed label closed
front-observed nesting text opened label labelled closed few less stands greater =
    front_is Less nesting text opened few less ∙ ap label_front (label_given opened label labelled stands)
    ∙ ap (λ token. greater_front token label labelled) greater.first ∙ ap (observed label) (sym greater.behind)

front-conjoined : (nesting : ℕ) (text word opened : List ℕ) → nesting ≤ 256 → Begins And text word → Begins OpenBrace word opened
    → front_of nesting text ≡ conjoined opened
front-conjoined nesting text word opened few begins opens = front_is And nesting text word few begins ∙ ap (λ token. brace_front token word) opens.first
    ∙ ap conjoined (sym opens.behind)

-- a formula begins with no `not`
stands_other : (formula : Formula) (nesting : ℕ) (text rest : List ℕ) → StandsFormula nesting text formula rest → token_of text ≢ Not
stands_other (see label formula) nesting text rest stands negation = let begins = stands.2 in let first = begins.first in cc
stands_other (all no_clauses) nesting text rest stands negation = let begins = stands.1 in let first = begins.first in cc
stands_other (all (plus formula _)) nesting text rest stands negation = let parts = stands.1 in let begins = parts.1 in let first = begins.first in cc
stands_other (all (minus formula _)) nesting text rest stands negation = let parts = stands.1 in let begins = parts.1 in let first = begins.first in cc

mutual
  -- a formula that stands there is read
  pub formula_settles : (formula : Formula) (nesting : ℕ) (text rest : List ℕ) → StandsFormula nesting text formula rest
      → FormulaSettles nesting text (given formula rest)
  formula_settles (see label formula) nesting text rest stands =
      let inner = formula_settles formula (nesting + 1) stands.5 rest stands.7 in
      observed_settles nesting text label stands.5 (given formula rest)
      (front-observed nesting text stands.1 label stands.3 stands.5 stands.0 stands.2 stands.4 stands.6) inner
  formula_settles (all clauses) nesting text rest stands = conjunction_settles clauses nesting text rest stands.0 stands.1

  conjunction_settles : (clauses : Clauses) (nesting : ℕ) (text rest : List ℕ) → nesting ≤ 256 → StandsConjunction nesting text clauses rest
      → FormulaSettles nesting text (given (all clauses) rest)
  conjunction_settles no_clauses nesting text rest few stands = at_once_settles nesting text (given (all no_clauses) rest)
      (front_is Truth nesting text rest few stands)
  conjunction_settles (plus formula clauses) nesting text rest few stands =
      let first = formula_settles formula (nesting + 1) stands.2 stands.4 stands.5 in
      let others = others_settle clauses (nesting + 1) stands.4 rest stands.6 in
      let signed = plain_sign stands.2 (stands_other formula (nesting + 1) stands.2 stands.4 stands.5) in
      conjoined_settles nesting text stands.2 (given (plus formula clauses) rest) (front-conjoined nesting text stands.0 stands.2 few stands.1 stands.3)
      (clauses_settle (nesting + 1) stands.2 stands.2 true formula stands.4 (given clauses rest) signed first others)
  conjunction_settles (minus formula clauses) nesting text rest few stands =
      let first = formula_settles formula (nesting + 1) stands.4 stands.6 stands.7 in
      let others = others_settle clauses (nesting + 1) stands.6 rest stands.8 in
      let signed = negated_sign stands.2 stands.4 stands.5 in
      conjoined_settles nesting text stands.2 (given (minus formula clauses) rest) (front-conjoined nesting text stands.0 stands.2 few stands.1 stands.3)
      (clauses_settle (nesting + 1) stands.2 stands.4 false formula stands.6 (given clauses rest) signed first others)

  others_settle : (clauses : Clauses) (nesting : ℕ) (text rest : List ℕ) → StandOthers nesting text clauses rest
      → OthersSettle nesting text (given clauses rest)
  others_settle no_clauses nesting text rest stands = closed_settle nesting text rest stands
  others_settle (plus formula clauses) nesting text rest stands =
      let first = formula_settles formula nesting stands.0 stands.2 stands.3 in
      let others = others_settle clauses nesting stands.2 rest stands.4 in
      let signed = plain_sign stands.0 (stands_other formula nesting stands.0 stands.2 stands.3) in
      more_settle nesting text stands.0 (given (plus formula clauses) rest) stands.1
      (clauses_settle nesting stands.0 stands.0 true formula stands.2 (given clauses rest) signed first others)
  others_settle (minus formula clauses) nesting text rest stands =
      let first = formula_settles formula nesting stands.2 stands.4 stands.5 in
      let others = others_settle clauses nesting stands.4 rest stands.6 in
      let signed = negated_sign stands.0 stands.2 stands.3 in
      more_settle nesting text stands.0 (given (minus formula clauses) rest) stands.1
      (clauses_settle nesting stands.0 stands.2 false formula stands.4 (given clauses rest) signed first others)

front-deep : (token : Token) (text behind : List ℕ) → BeginsFormula token → front_at token true text behind ≡ at_once (fault (skip_blanks text) TooDeep)
front-deep token text behind (inl truth) = ap (λ token. front_at token true text behind) truth
front-deep token text behind (inr (inl less)) = ap (λ token. front_at token true text behind) less
front-deep token text behind (inr (inr and)) = ap (λ token. front_at token true text behind) and

front-other : (token : Token) (deep : Bool) (text behind : List ℕ) → ¬ BeginsFormula token → front_at token deep text behind ≡ at_once (misplaced text)
front-other Truth deep text behind no_formula = absurd (no_formula (inl refl))
front-other Less deep text behind no_formula = absurd (no_formula (inr (inl refl)))
front-other And deep text behind no_formula = absurd (no_formula (inr (inr refl)))
front-other _ deep text behind no_formula = refl

greater_front-other : (token : Token) (label : Label) (labelled : List ℕ) → token ≢ Greater → greater_front token label labelled ≡ at_once (misplaced labelled)
greater_front-other Greater label labelled other = absurd (other refl)
greater_front-other _ label labelled other = refl

brace_front-other : (token : Token) (word : List ℕ) → token ≢ OpenBrace → brace_front token word ≡ at_once (misplaced word)
brace_front-other OpenBrace word other = absurd (other refl)
brace_front-other _ word other = refl

-- a clause that stands there is read
clause_stands : (positive : Bool) (nesting : ℕ) (text : List ℕ) (formula : Formula) (ended : List ℕ) (outcome : Outcome Clauses)
    → StandsClause nesting text positive formula ended → OthersSettle nesting ended outcome
    → ClausesSettle nesting text (mapped (with_clause positive formula) outcome)
clause_stands true nesting text formula ended outcome stands others = clauses_settle nesting text text true formula ended outcome
    (plain_sign text (stands_other formula nesting text ended stands)) (formula_settles formula nesting text ended stands) others
clause_stands false nesting text formula ended outcome stands others = clauses_settle nesting text stands.0 false formula ended outcome
    (negated_sign text stands.0 stands.1) (formula_settles formula nesting stands.0 ended stands.2) others

mutual
  -- a fault is found
  pub formula_fails : (left : List ℕ) (kind : TextKind) {nesting : ℕ} {text : List ℕ} → IsFormulaFault left kind nesting text
      → FormulaSettles nesting text (fault left kind)
  formula_fails left kind (IsFormulaFault.no_formula nesting text no_formula is) =
      at_once_settles nesting text (fault left kind) (front-other (token_of text) (nat_lt 256 nesting) text (behind_token text) no_formula
      ∙ ap at_once (misplaced_fault text left kind is))
  formula_fails left kind (IsFormulaFault.too_deep nesting text begins deep is_left is_kind) =
      at_once_settles nesting text (fault left kind)
      (ap (λ deep. front_at (token_of text) deep text (behind_token text)) (lt-ltb 256 nesting deep)
      ∙ front-deep (token_of text) text (behind_token text) begins ∙ ap at_once (same_fault left (skip_blanks text) kind TooDeep is_left is_kind))
  formula_fails left kind (IsFormulaFault.no_label nesting text opened few begins is) =
      at_once_settles nesting text (fault left kind) (front_is Less nesting text opened few begins ∙ ap label_front (label_fault opened left kind is))
  formula_fails left kind (IsFormulaFault.no_end_of_label nesting text opened label labelled few begins stands other is) =
      at_once_settles nesting text (fault left kind)
      (front_is Less nesting text opened few begins ∙ ap label_front (label_given opened label labelled stands)
      ∙ greater_front-other (token_of labelled) label labelled other ∙ ap at_once (misplaced_fault labelled left kind is))
  formula_fails left kind (IsFormulaFault.in_observation nesting text opened label labelled closed few begins stands greater fails) =
      observed_settles nesting text label closed (fault left kind) (front-observed nesting text opened label labelled closed few begins stands greater)
      (formula_fails left kind fails)
  formula_fails left kind (IsFormulaFault.no_brace nesting text word few begins other is) =
      at_once_settles nesting text (fault left kind) (front_is And nesting text word few begins ∙ brace_front-other (token_of word) word other
      ∙ ap at_once (misplaced_fault word left kind is))
  formula_fails left kind (IsFormulaFault.in_conjunction nesting text word opened few begins opens fails) =
      conjoined_settles nesting text opened (fault left kind) (front-conjoined nesting text word opened few begins opens) (clauses_fail left kind fails)

  clause_faulty : (left : List ℕ) (kind : TextKind) {nesting : ℕ} {text : List ℕ} → IsClauseFault left kind nesting text
      → ClausesSettle nesting text (fault left kind)
  clause_faulty left kind (IsClauseFault.in_formula nesting text other fails) = clause_fails nesting text text true left kind (plain_sign text other)
      (formula_fails left kind fails)
  clause_faulty left kind (IsClauseFault.in_negated nesting text negated begins fails) = clause_fails nesting text negated false left kind
      (negated_sign text negated begins) (formula_fails left kind fails)

  clauses_fail : (left : List ℕ) (kind : TextKind) {nesting : ℕ} {text : List ℕ} → AreFaultyClauses left kind nesting text
      → ClausesSettle nesting text (fault left kind)
  clauses_fail left kind (AreFaultyClauses.in_clause nesting text fails) = clause_faulty left kind fails
  clauses_fail left kind (AreFaultyClauses.no_comma nesting text positive formula ended stands comma brace is) =
      clause_stands positive nesting text formula ended (fault left kind) stands (neither_settle nesting ended left kind comma brace is)
  clauses_fail left kind (AreFaultyClauses.in_others nesting text positive formula ended next stands comma fails) =
      clause_stands positive nesting text formula ended (fault left kind) stands
      (more_settle nesting ended next (fault left kind) comma (clauses_fail left kind fails))
