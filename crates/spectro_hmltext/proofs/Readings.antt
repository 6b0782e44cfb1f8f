-- A formula's text is read from the front, for as many steps as are granted, and what is read of its parts settles what is read of it.
use Rattle.std.proofs.Common.{◌≡◌, ◌∙◌, ℕ, zero, suc, ◌+◌, ◌≤◌, Bool, true, false, List, refl, sym, ap, arith}
use Rattle.std.specs.Prelude.{◌≢◌, nat_lt}
use Rattle.spectro_io.specs.Blanks.{skip_blanks}
use Rattle.spectro_spec.specs.System.{Label}
use Rattle.spectro_spec.specs.Formula.{Formula, Clauses, see, all, no_clauses, plus, minus}
use Rattle.spectro_hmltext.specs.declared.error.TextKind.{TextKind}
use Rattle.spectro_hmltext.specs.declared.error.TextKind.TheVariants.{TooDeep}
use Rattle.spectro_hmltext.specs.declared.token.Token.{Token}
use Rattle.spectro_hmltext.specs.declared.token.Token.TheVariants.{Truth, And, Not, Less, Greater, OpenBrace, CloseBrace, Comma}
use Rattle.spectro_hmltext.specs.Tokens.{Begins, token_of, behind_token}
use Rattle.spectro_hmltext.specs.Faults.{IsMisplaced}
use Rattle.spectro_hmltext.proofs.Outcomes.{Outcome, given, fault, mapped, misplaced, misplaced_fault, Settles, settles_behind}
use Rattle.spectro_hmltext.proofs.LabelOutcomes.{label_outcome}

-- what the first tokens of a formula say: an outcome, or what is to be read behind them
pub data Front : Type 0 where
  at_once : Outcome Formula → Front
  observed : Label → List ℕ → Front
  conjoined : List ℕ → Front

-- behind the label of an observation
abbrev pub greater_front : Token → Label → List ℕ → Front
greater_front Greater label labelled = observed label (behind_token labelled)
greater_front _ label labelled = at_once (misplaced labelled)

-- behind the label that is read, or at its fault
abbrev pub label_front : Outcome Label → Front
label_front (given label labelled) = greater_front (token_of labelled) label labelled
label_front (fault left kind) = at_once (fault left kind)

-- behind the word of a conjunction
abbrev pub brace_front : Token → List ℕ → Front
brace_front OpenBrace word = conjoined (behind_token word)
brace_front _ word = at_once (misplaced word)

-- by the first token; it can stand too deep
abbrev pub front_at : Token → Bool → List ℕ → List ℕ → Front
front_at Truth true text behind = at_once (fault (skip_blanks text) TooDeep)
front_at Truth false text behind = at_once (given (all no_clauses) behind)
front_at Less true text behind = at_once (fault (skip_blanks text) TooDeep)
front_at Less false text behind = label_front (label_outcome behind)
front_at And true text behind = at_once (fault (skip_blanks text) TooDeep)
front_at And false text behind = brace_front (token_of behind) behind
front_at _ deep text behind = at_once (misplaced text)

-- at the front of the text
abbrev pub front_of : ℕ → List ℕ → Front
front_of nesting text = front_at (token_of text) (nat_lt 256 nesting) text (behind_token text)

-- with what is read behind the first tokens
abbrev pub read_behind : (List ℕ → Outcome Formula) → (List ℕ → Outcome Clauses) → Front → Outcome Formula
read_behind formula clauses (at_once outcome) = outcome
read_behind formula clauses (observed label closed) = mapped (see label) (formula closed)
read_behind formula clauses (conjoined opened) = mapped all (clauses opened)

-- a clause is negative where `not` stands before it
abbrev pub sign_of : Token → Bool
sign_of Not = false
sign_of _ = true

-- the formula of a clause stands behind its `not`
abbrev pub behind_sign : Token → List ℕ → List ℕ
behind_sign Not text = behind_token text
behind_sign _ text = text

-- a clause before others
abbrev pub with_clause : Bool → Formula → Clauses → Clauses
with_clause true formula clauses = plus formula clauses
with_clause false formula clauses = minus formula clauses

-- with what is read behind the first clause
abbrev pub behind_clause : (List ℕ → Outcome Clauses) → Bool → Outcome Formula → Outcome Clauses
behind_clause others positive (given formula ended) = mapped (with_clause positive formula) (others ended)
behind_clause others positive (fault left kind) = fault left kind

-- by the token behind a clause
abbrev pub others_at : (List ℕ → Outcome Clauses) → Token → List ℕ → Outcome Clauses
others_at clauses CloseBrace text = given no_clauses (behind_token text)
others_at clauses Comma text = clauses (behind_token text)
others_at clauses _ text = misplaced text

abbrev mutual
  -- the formula at the front of the text
  pub read_formula : ℕ → ℕ → List ℕ → Outcome Formula
  read_formula zero nesting text = misplaced text
  read_formula (suc granted) nesting text = read_behind (λ closed. read_formula granted (nesting + 1) closed)
      (λ opened. read_clauses granted (nesting + 1) opened) (front_of nesting text)

  -- the clauses, the first of which is at the front
  pub read_clauses : ℕ → ℕ → List ℕ → Outcome Clauses
  read_clauses zero nesting text = misplaced text
  read_clauses (suc granted) nesting text = behind_clause (λ ended. read_others granted nesting ended) (sign_of (token_of text))
      (read_formula granted nesting (behind_sign (token_of text) text))

  -- the clauses behind one that ended at the front
  pub read_others : ℕ → ℕ → List ℕ → Outcome Clauses
  read_others zero nesting text = misplaced text
  read_others (suc granted) nesting text = others_at (λ next. read_clauses granted nesting next) (token_of text) text

-- for enough steps that is read of a formula
abbrev pub FormulaSettles : ℕ → List ℕ → Outcome Formula → Type 0
FormulaSettles nesting text outcome = Settles Formula (λ granted. read_formula granted nesting text) outcome

-- for enough steps that is read of clauses
abbrev pub ClausesSettle : ℕ → List ℕ → Outcome Clauses → Type 0
ClausesSettle nesting text outcome = Settles Clauses (λ granted. read_clauses granted nesting text) outcome

-- for enough steps that is read behind a clause
abbrev pub OthersSettle : ℕ → List ℕ → Outcome Clauses → Type 0
OthersSettle nesting text outcome = Settles Clauses (λ granted. read_others granted nesting text) outcome

-- what the front says is settled, with what is read behind it
pub at_once_settles : (nesting : ℕ) (text : List ℕ) (outcome : Outcome Formula) → front_of nesting text ≡ at_once outcome → FormulaSettles nesting text outcome
at_once_settles nesting text outcome front =
    settles_behind (λ granted. read_formula granted nesting text) outcome 0
    (λ granted within. ap (read_behind (λ closed. read_formula granted (nesting + 1) closed) (λ opened. read_clauses granted (nesting + 1) opened)) front)

-- an observation, by the formula in it
pub observed_settles : (nesting : ℕ) (text : List ℕ) (label : Label) (closed : List ℕ) (outcome : Outcome Formula)
    → front_of nesting text ≡ observed label closed → FormulaSettles (nesting + 1) closed outcome
    → FormulaSettles nesting text (mapped (see label) outcome)
observed_settles nesting text label closed outcome front inner =
    settles_behind (λ granted. read_formula granted nesting text) (mapped (see label) outcome) inner.steps
    (λ granted within. ap (read_behind (λ closed. read_formula granted (nesting + 1) closed) (λ opened. read_clauses granted (nesting + 1) opened)) front
    ∙ ap (mapped (see label)) (inner.settled granted within))

-- a conjunction, by its clauses
pub conjoined_settles : (nesting : ℕ) (text opened : List ℕ) (outcome : Outcome Clauses) → front_of nesting text ≡ conjoined opened
    → ClausesSettle (nesting + 1) opened outcome → FormulaSettles nesting text (mapped all outcome)
conjoined_settles nesting text opened outcome front inner =
    settles_behind (λ granted. read_formula granted nesting text) (mapped all outcome) inner.steps
    (λ granted within. ap (read_behind (λ closed. read_formula granted (nesting + 1) closed) (λ opened. read_clauses granted (nesting + 1) opened)) front
    ∙ ap (mapped all) (inner.settled granted within))

-- the sign of the clause at the front of the text, and its formula's text
pub record SignedAs (text : List ℕ) (positive : Bool) (inner : List ℕ) : Type 0 where
  pub sign : sign_of (token_of text) ≡ positive
  pub behind : behind_sign (token_of text) text ≡ inner

sign_of-other : (token : Token) (text : List ℕ) → token ≢ Not → (sign_of token ≡ true) × (behind_sign token text ≡ text)
sign_of-other Not text other = absurd (other refl)
sign_of-other _ text other = (refl, refl)

-- a clause with no `not` before it is positive
pub plain_sign : (text : List ℕ) → token_of text ≢ Not → SignedAs text true text
plain_sign text other = let both = sign_of-other (token_of text) text other in record { sign = both.0; behind = both.1 }

-- a clause behind `not` is negative
pub negated_sign : (text negated : List ℕ) → Begins Not text negated → SignedAs text false negated
negated_sign text negated begins = record { sign = ap sign_of begins.first; behind = ap (λ token. behind_sign token text) begins.first ∙ sym begins.behind }

-- the clause, and the others behind it
clause_settles : (nesting : ℕ) (text inner : List ℕ) (positive : Bool) (outcome : Outcome Formula) (found : Outcome Clauses) (steps : ℕ)
    → SignedAs text positive inner → FormulaSettles nesting inner outcome
    → ((granted : ℕ) → steps ≤ granted → behind_clause (λ ended. read_others granted nesting ended) positive outcome ≡ found) → ClausesSettle nesting text found
clause_settles nesting text inner positive outcome found steps signed first others =
    settles_behind (λ granted. read_clauses granted nesting text) found (first.steps + steps)
    (λ granted within.
    ap (λ sign. behind_clause (λ ended. read_others granted nesting ended) sign (read_formula granted nesting (behind_sign (token_of text) text))) signed.sign
    ∙ ap (λ bytes. behind_clause (λ ended. read_others granted nesting ended) positive (read_formula granted nesting bytes)) signed.behind
    ∙ ap (behind_clause (λ ended. read_others granted nesting ended) positive) (first.settled granted (omega arith))
    ∙ others granted (omega arith))

-- the fault of the first clause is that of the clauses
pub clause_fails : (nesting : ℕ) (text inner : List ℕ) (positive : Bool) (left : List ℕ) (kind : TextKind) → SignedAs text positive inner
    → FormulaSettles nesting inner (fault left kind) → ClausesSettle nesting text (fault left kind)
clause_fails nesting text inner positive left kind signed first = clause_settles nesting text inner positive (fault left kind)
    (fault left kind) 0 signed first (λ granted within. refl)

-- the first clause goes before what is read of the others
pub clauses_settle : (nesting : ℕ) (text inner : List ℕ) (positive : Bool) (formula : Formula) (ended : List ℕ) (outcome : Outcome Clauses)
    → SignedAs text positive inner → FormulaSettles nesting inner (given formula ended)
    → OthersSettle nesting ended outcome → ClausesSettle nesting text (mapped (with_clause positive formula) outcome)
clauses_settle nesting text inner positive formula ended outcome signed first others =
    clause_settles nesting text inner positive (given formula ended) (mapped (with_clause positive formula) outcome) others.steps signed first
    (λ granted within. ap (mapped (with_clause positive formula)) (others.settled granted within))

-- no more clauses stand behind a brace
pub closed_settle : (nesting : ℕ) (text rest : List ℕ) → Begins CloseBrace text rest → OthersSettle nesting text (given no_clauses rest)
closed_settle nesting text rest begins =
    settles_behind (λ granted. read_others granted nesting text) (given no_clauses rest) 0
    (λ granted within. ap (λ token. others_at (λ next. read_clauses granted nesting next) token text) begins.first ∙ ap (given no_clauses) (sym begins.behind))

-- more clauses stand behind a comma
pub more_settle : (nesting : ℕ) (text next : List ℕ) (outcome : Outcome Clauses) → Begins Comma text next → ClausesSettle nesting next outcome
    → OthersSettle nesting text outcome
more_settle nesting text next outcome begins others =
    settles_behind (λ granted. read_others granted nesting text) outcome others.steps
    (λ granted within. ap (λ token. others_at (λ next. read_clauses granted nesting next) token text) begins.first
    ∙ ap (read_clauses granted nesting) (sym begins.behind) ∙ others.settled granted within)

others_at-other : (clauses : List ℕ → Outcome Clauses) (token : Token) (text : List ℕ) → token ≢ Comma → token ≢ CloseBrace
    → others_at clauses token text ≡ misplaced text
others_at-other clauses Comma text comma brace = absurd (comma refl)
others_at-other clauses CloseBrace text comma brace = absurd (brace refl)
others_at-other clauses _ text comma brace = refl

-- another token can't stand behind a clause
pub neither_settle : (nesting : ℕ) (text left : List ℕ) (kind : TextKind) → token_of text ≢ Comma → token_of text ≢ CloseBrace → IsMisplaced text left kind
    → OthersSettle nesting text (fault left kind)
neither_settle nesting text left kind comma brace is =
    settles_behind (λ granted. read_others granted nesting text) (fault left kind) 0
    (λ granted within. others_at-other (λ next. read_clauses granted nesting next) (token_of text) text comma brace ∙ misplaced_fault text left kind is)
