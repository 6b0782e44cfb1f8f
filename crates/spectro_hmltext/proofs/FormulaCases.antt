-- Each text of UTF-8 is of a formula or has a first fault: a formula, a clause and what follows a clause stand there, or have a fault.
use Rattle.std.proofs.Common.{◌≡◌, ◌≢◌, ◌∙◌, ◌⊎◌, inl, inr, ℕ, zero, suc, ◌+◌, ◌-◌, ◌<◌, ◌≤◌, Bool, true, false, List, length, refl, sym, arith}
use Rattle.std.specs.Str.{IsUtf8}
use Rattle.std.proofs.lemmas.Bool.{cases_lt}
use Rattle.spectro_io.specs.Blanks.{skip_blanks}
use Rattle.spectro_spec.specs.System.{Label}
use Rattle.spectro_spec.specs.Formula.{Formula, Clauses, see, all, no_clauses, plus, minus}
use Rattle.spectro_hmltext.specs.declared.error.TextFault.{TextFault}
use Rattle.spectro_hmltext.specs.declared.error.TextKind.{TextKind}
use Rattle.spectro_hmltext.specs.declared.error.TextKind.TheVariants.{TooLong, TooDeep}
use Rattle.spectro_hmltext.specs.declared.token.Token.{Token}
use Rattle.spectro_hmltext.specs.declared.token.Token.TheVariants.{Truth, And, Not, Less, Greater, OpenBrace, CloseBrace, Comma, End}
use Rattle.spectro_hmltext.specs.Tokens.{Begins, token_of, behind_token}
use Rattle.spectro_hmltext.specs.FormulaTexts.{StandsLabel, StandsFormula, StandOthers, StandsClause, IsFormulaText}
use Rattle.spectro_hmltext.specs.Faults.{BeginsFormula, IsMisplaced, IsFormulaFault, IsClauseFault, AreFaultyClauses, IsTextFault, IsFirstFault}
use Rattle.spectro_hmltext.specs.Laws.{EachTextHasAFormulaOrAFault}
use Rattle.spectro_hmltext.proofs.LabelCases.{HasFault, label-cases, misplaced-fault}
use Rattle.spectro_hmltext.proofs.Parsings.{utf8_label}
use Rattle.spectro_hmltext.proofs.TextsLeft.{shorter_clause, shorter_label, text-left}
use Rattle.spectro_hmltext.proofs.TokenLaws.{shorter_Begins, utf8_Begins}

-- ---- what stands at the front of a text
record HasFormula (nesting : ℕ) (text : List ℕ) : Type 0 where
  pub formula : Formula
  pub rest : List ℕ
  pub stands : StandsFormula nesting text formula rest
  pub utf8 : IsUtf8 rest

-- a clause, and the others after it
record HasClauses (nesting : ℕ) (text : List ℕ) : Type 0 where
  pub positive : Bool
  pub formula : Formula
  pub ended : List ℕ
  pub stands : StandsClause nesting text positive formula ended
  pub clauses : Clauses
  pub rest : List ℕ
  pub others : StandOthers nesting ended clauses rest
  pub utf8 : IsUtf8 rest

-- what follows a clause
record HasOthers (nesting : ℕ) (text : List ℕ) : Type 0 where
  pub clauses : Clauses
  pub rest : List ℕ
  pub others : StandOthers nesting text clauses rest
  pub utf8 : IsUtf8 rest

data IsOthersFault (nesting : ℕ) (text left : List ℕ) (kind : TextKind) : Type 0 where
  in_others : (next : List ℕ) → Begins Comma text next → AreFaultyClauses left kind nesting next → IsOthersFault nesting text left kind
  no_comma : token_of text ≢ Comma → token_of text ≢ CloseBrace → IsMisplaced text left kind → IsOthersFault nesting text left kind

abbrev FormulaOrFault : ℕ → List ℕ → Type 0
FormulaOrFault nesting text = HasFormula nesting text ⊎ HasFault (λ left kind. IsFormulaFault left kind nesting text)

abbrev ClausesOrFault : ℕ → List ℕ → Type 0
ClausesOrFault nesting text = HasClauses nesting text ⊎ HasFault (λ left kind. AreFaultyClauses left kind nesting text)

abbrev OthersOrFault : ℕ → List ℕ → Type 0
OthersOrFault nesting text = HasOthers nesting text ⊎ HasFault (IsOthersFault nesting text)

-- the token begins the text, with what follows it
front : (token : Token) (text : List ℕ) → token_of text ≡ token → Begins token text (behind_token text)
front token text is = record { first = is; behind = refl }

-- ---- a formula
module _ (nesting : ℕ) (text : List ℕ) (utf8 : IsUtf8 text) where
  -- behind the label of an observation
  module _ (few : nesting ≤ 256) (opened : List ℕ) (less : Begins Less text opened) (label : Label) (labelled : List ℕ)
      (stands : StandsLabel opened label labelled)
      (formula : (closed : List ℕ) → length closed < length text → IsUtf8 closed → FormulaOrFault (nesting + 1) closed) where
    closed-cases : token_of labelled ≡ Greater → FormulaOrFault nesting text
    closed-cases is =
        let closed = behind_token labelled in
        let greater : Begins Greater labelled closed = front Greater labelled is in
        let utf8_labelled : IsUtf8 labelled = utf8_label opened label labelled stands (utf8_Begins Less text opened less (λ e. cc) utf8) in
        let shorter : length closed < length text =
        omega (
          arith,
          shorter_Begins Less text opened less
              (λ e. cc),
          shorter_label opened label labelled stands,
          shorter_Begins Greater labelled closed greater (λ e. cc),
        ) in
        elim (formula closed shorter (utf8_Begins Greater labelled closed greater (λ e. cc) utf8_labelled)) [
          | inl has ↦ inl (record {
            formula = see label has.formula;
            rest = has.rest;
            stands =
                (few, opened, less, labelled, stands, closed, greater, has.stands);
            utf8 = has.utf8;
          })
          | inr fails ↦ inr (fails.0, fails.1, IsFormulaFault.in_observation nesting text opened label labelled closed few less stands greater fails.2)
        ]

    labelled-cases : (token : Token) → token_of labelled ≡ token → FormulaOrFault nesting text
    labelled-cases Greater is = closed-cases is
    labelled-cases token is =
        let fails = misplaced-fault labelled in
        inr (
          fails.0,
          fails.1,
          IsFormulaFault.no_end_of_label nesting text opened label labelled few less stands
              (λ greater. let same : token ≡ Greater = sym is ∙ greater in cc) fails.2,
        )

  observation-cases : nesting ≤ 256 → token_of text ≡ Less
      → ((closed : List ℕ) → length closed < length text → IsUtf8 closed → FormulaOrFault (nesting + 1) closed) → FormulaOrFault nesting text
  observation-cases few is formula =
      let opened = behind_token text in
      let less : Begins Less text opened = front Less text is in
      elim (label-cases opened (utf8_Begins Less text opened less (λ e. cc) utf8)) [
        | inl found ↦ labelled-cases few opened less found.0 found.1 found.2 formula (token_of found.1) refl
        | inr fails ↦ inr (fails.0, fails.1, IsFormulaFault.no_label nesting text opened few less fails.2)
      ]

  -- behind the word of a conjunction
  module _ (few : nesting ≤ 256) (word : List ℕ) (begins : Begins And text word) (clauses : (opened : List ℕ) → length opened < length text → IsUtf8 opened
      → ClausesOrFault (nesting + 1) opened) where
    conjunction : (opened : List ℕ) → Begins OpenBrace word opened → (positive : Bool) (formula : Formula) (ended : List ℕ)
        → StandsClause (nesting + 1) opened positive formula ended → (others : Clauses) (rest : List ℕ)
        → StandOthers (nesting + 1) ended others rest → IsUtf8 rest → HasFormula nesting text
    conjunction opened brace true formula ended stands others rest stand utf8 =
        record { formula = all (plus formula others); rest = rest; stands = (few, (word, begins, opened, brace, ended, stands, stand)); utf8 = utf8 }
    conjunction opened brace false formula ended stands others rest stand utf8 =
        record {
          formula = all (minus formula others);
          rest = rest;
          stands =
              (few, (word, begins, opened, brace, stands.0, stands.1, ended, stands.2, stand));
          utf8 = utf8;
        }

    opened-cases : token_of word ≡ OpenBrace → FormulaOrFault nesting text
    opened-cases is =
        let opened = behind_token word in
        let brace : Begins OpenBrace word opened = front OpenBrace word is in
        let utf8_word : IsUtf8 word = utf8_Begins And text word begins (λ e. cc) utf8 in
        let shorter : length opened < length text = omega
        (arith, shorter_Begins And text word begins (λ e. cc), shorter_Begins OpenBrace word opened brace (λ e. cc)) in
        elim (clauses opened shorter (utf8_Begins OpenBrace word opened brace (λ e. cc) utf8_word)) [
          | inl has ↦ inl (conjunction opened brace has.positive has.formula has.ended has.stands has.clauses has.rest has.others has.utf8)
          | inr fails ↦ inr (fails.0, fails.1, IsFormulaFault.in_conjunction nesting text word opened few begins brace fails.2)
        ]

    word-cases : (token : Token) → token_of word ≡ token → FormulaOrFault nesting text
    word-cases OpenBrace is = opened-cases is
    word-cases token is =
        let fails = misplaced-fault word in
        inr (fails.0, fails.1, IsFormulaFault.no_brace nesting text word few begins (λ brace. let same : token ≡ OpenBrace = sym is ∙ brace in cc) fails.2)

  truth : nesting ≤ 256 → token_of text ≡ Truth → FormulaOrFault nesting text
  truth few is =
      let begins : Begins Truth text (behind_token text) = front Truth text is in
      inl (record {
        formula = all no_clauses;
        rest = behind_token text;
        stands = (few, begins);
        utf8 = utf8_Begins Truth text (behind_token text) begins
            (λ e. cc) utf8;
      })

  too_deep : BeginsFormula (token_of text) → 256 < nesting → FormulaOrFault nesting text
  too_deep begins deep = inr (skip_blanks text, TooDeep, IsFormulaFault.too_deep nesting text begins deep refl refl)

  no_formula : ¬ BeginsFormula (token_of text) → FormulaOrFault nesting text
  no_formula none = let fails = misplaced-fault text in inr (fails.0, fails.1, IsFormulaFault.no_formula nesting text none fails.2)

  formula-step : ((closed : List ℕ) → length closed < length text → IsUtf8 closed → FormulaOrFault (nesting + 1) closed)
      → ((opened : List ℕ) → length opened < length text → IsUtf8 opened → ClausesOrFault (nesting + 1) opened)
      → FormulaOrFault nesting text
  formula-step formula clauses = by (token_of text) refl (cases_lt 256 nesting)
    where
      neither : (token : Token) → token_of text ≡ token → token ≢ Truth → token ≢ Less → token ≢ And → FormulaOrFault nesting text
      neither token is truth less and = no_formula
          (λ begins. elim begins [ inl e ↦ truth (sym is ∙ e) | inr others ↦ elim others [ inl e ↦ less (sym is ∙ e) | inr e ↦ and (sym is ∙ e) ] ])

      by : (token : Token) → token_of text ≡ token → (256 < nesting) ⊎ (nesting ≤ 256) → FormulaOrFault nesting text
      by Truth is (inl deep) = too_deep (inl is) deep
      by Truth is (inr few) = truth few is
      by Less is (inl deep) = too_deep (inr (inl is)) deep
      by Less is (inr few) = observation-cases few is formula
      by And is (inl deep) = too_deep (inr (inr is)) deep
      by And is (inr few) = word-cases few (behind_token text) (front And text is) clauses (token_of (behind_token text)) refl
      by token is _ = neither token is (λ e. cc) (λ e. cc) (λ e. cc)

-- ---- clauses
module _ (nesting : ℕ) (text : List ℕ) (others : (ended : List ℕ) → length ended ≤ length text → IsUtf8 ended → OthersOrFault nesting ended) where
  behind_clause : (positive : Bool) (formula : Formula) (ended : List ℕ) → StandsClause nesting text positive formula ended → IsUtf8 ended
      → ClausesOrFault nesting text
  behind_clause positive formula ended stands utf8 = by (others ended (shorter_clause nesting text positive formula ended stands) utf8)
    where
      faulty : (left : List ℕ) (kind : TextKind) → IsOthersFault nesting ended left kind → AreFaultyClauses left kind nesting text
      faulty left kind (in_others next comma fails) = AreFaultyClauses.in_others nesting text positive formula ended next stands comma fails
      faulty left kind (no_comma comma brace is) = AreFaultyClauses.no_comma nesting text positive formula ended stands comma brace is

      by : OthersOrFault nesting ended → ClausesOrFault nesting text
      by (inl has) = inl (record {
        positive = positive;
        formula = formula;
        ended = ended;
        stands = stands;
        clauses = has.clauses;
        rest = has.rest;
        others = has.others;
        utf8 =
            has.utf8;
      })
      by (inr fails) = inr (fails.0, fails.1, faulty fails.0 fails.1 fails.2)

  clauses-step : IsUtf8 text → ((inner : List ℕ) → length inner ≤ length text → IsUtf8 inner → FormulaOrFault nesting inner) → ClausesOrFault nesting text
  clauses-step utf8 formula = by (token_of text) refl
    where
      negated : token_of text ≡ Not → ClausesOrFault nesting text
      negated is =
          let inner = behind_token text in
          let begins : Begins Not text inner = front Not text is in
          let shorter : length inner ≤ length text = omega (arith, shorter_Begins Not text inner begins (λ e. cc)) in
          elim (formula inner shorter (utf8_Begins Not text inner begins (λ e. cc) utf8)) [
            | inl has ↦ behind_clause false has.formula has.rest (inner, begins, has.stands) has.utf8
            | inr fails ↦ inr (fails.0, fails.1, AreFaultyClauses.in_clause nesting text (IsClauseFault.in_negated nesting text inner begins fails.2))
          ]

      plain : token_of text ≢ Not → ClausesOrFault nesting text
      plain other =
          elim (formula text (omega arith) utf8) [
            | inl has ↦ behind_clause true has.formula has.rest has.stands has.utf8
            | inr fails ↦ inr (fails.0, fails.1, AreFaultyClauses.in_clause nesting text (IsClauseFault.in_formula nesting text other fails.2))
          ]

      by : (token : Token) → token_of text ≡ token → ClausesOrFault nesting text
      by Not is = negated is
      by token is = plain (λ negation. let same : token ≡ Not = sym is ∙ negation in cc)

-- ---- what follows a clause
module _ (nesting : ℕ) (text : List ℕ) (utf8 : IsUtf8 text) where
  more_clauses : (next : List ℕ) → Begins Comma text next → (positive : Bool) (formula : Formula) (ended : List ℕ)
      → StandsClause nesting next positive formula ended → (others : Clauses) (rest : List ℕ)
      → StandOthers nesting ended others rest → IsUtf8 rest → HasOthers nesting text
  more_clauses next comma true formula ended stands others rest stand utf8 = record {
    clauses = plus formula others;
    rest = rest;
    others =
        (next, comma, ended, stands, stand);
    utf8 = utf8;
  }
  more_clauses next comma false formula ended stands others rest stand utf8 =
      record { clauses = minus formula others; rest = rest; others = (next, comma, stands.0, stands.1, ended, stands.2, stand); utf8 = utf8 }

  others-step : ((next : List ℕ) → length next < length text → IsUtf8 next → ClausesOrFault nesting next) → OthersOrFault nesting text
  others-step clauses = by (token_of text) refl
    where
      closed : token_of text ≡ CloseBrace → OthersOrFault nesting text
      closed is =
          let brace : Begins CloseBrace text (behind_token text) = front CloseBrace text is in
          inl (record {
            clauses = no_clauses;
            rest = behind_token text;
            others = brace;
            utf8 = utf8_Begins CloseBrace text (behind_token text) brace
                (λ e. cc) utf8;
          })

      more : token_of text ≡ Comma → OthersOrFault nesting text
      more is =
          let next = behind_token text in
          let comma : Begins Comma text next = front Comma text is in
          elim (clauses next (shorter_Begins Comma text next comma (λ e. cc)) (utf8_Begins Comma text next comma (λ e. cc) utf8)) [
            | inl has ↦ inl (more_clauses next comma has.positive has.formula has.ended has.stands has.clauses has.rest has.others has.utf8)
            | inr fails ↦ inr (fails.0, fails.1, in_others next comma fails.2)
          ]

      neither : token_of text ≢ Comma → token_of text ≢ CloseBrace → OthersOrFault nesting text
      neither comma brace = let fails = misplaced-fault text in inr (fails.0, fails.1, no_comma comma brace fails.2)

      by : (token : Token) → token_of text ≡ token → OthersOrFault nesting text
      by CloseBrace is = closed is
      by Comma is = more is
      by token is = neither (λ comma. let same : token ≡ Comma = sym is ∙ comma in cc) (λ brace. let same : token ≡ CloseBrace = sym is ∙ brace in cc)

-- ---- each part is shorter than the text, or read before it
mutual
  formula-cases : (granted nesting : ℕ) (text : List ℕ) → length text + length text < granted → IsUtf8 text → FormulaOrFault nesting text
  formula-cases zero nesting text within utf8 = absurd (omega arith)
  formula-cases (suc granted) nesting text within utf8 =
      formula-step nesting text utf8
      (λ closed shorter utf8. formula-cases granted (nesting + 1) closed (omega arith) utf8)
      (λ opened shorter utf8. clauses-cases granted (nesting + 1) opened (omega arith) utf8)

  clauses-cases : (granted nesting : ℕ) (text : List ℕ) → length text + length text + 1 < granted → IsUtf8 text → ClausesOrFault nesting text
  clauses-cases zero nesting text within utf8 = absurd (omega arith)
  clauses-cases (suc granted) nesting text within utf8 =
      clauses-step nesting text (λ ended shorter utf8. others-cases granted nesting ended (omega arith) utf8) utf8
      (λ inner shorter utf8. formula-cases granted nesting inner (omega arith) utf8)

  others-cases : (granted nesting : ℕ) (text : List ℕ) → length text + length text < granted → IsUtf8 text → OthersOrFault nesting text
  others-cases zero nesting text within utf8 = absurd (omega arith)
  others-cases (suc granted) nesting text within utf8 = others-step nesting text utf8
      (λ next shorter utf8. clauses-cases granted nesting next (omega arith) utf8)

-- ---- the whole text
pub formula_or_fault : EachTextHasAFormulaOrAFault
formula_or_fault text utf8 = by (cases_lt 65536 (length text))
  where
    fails_at : length text ≤ 65536 → (left : List ℕ) (kind : TextKind) → IsTextFault text left kind → (fault : TextFault) × IsFirstFault text fault
    fails_at short left kind fails =
        (record { at = length text - length left; kind = kind }, IsFirstFault.other short left fails (omega (arith, text-left text left kind fails)))

    ended : length text ≤ 65536 → (has : HasFormula 1 text) (token : Token) → token_of has.rest ≡ token
        → ((formula : Formula) × IsFormulaText text formula) ⊎ ((fault : TextFault) × IsFirstFault text fault)
    ended short has End is = inl (has.formula, record { short = short; rest = has.rest; whole = has.stands; end = is })
    ended short has token is =
        let fails = misplaced-fault has.rest in
        inr (fails_at short fails.0 fails.1
        (IsTextFault.behind_formula has.formula has.rest has.stands (λ end. let same : token ≡ End = sym is ∙ end in cc) fails.2))

    by : (65536 < length text) ⊎ (length text ≤ 65536) → ((formula : Formula) × IsFormulaText text formula) ⊎ ((fault : TextFault) × IsFirstFault text fault)
    by (inl long) = inr (record { at = 65536; kind = TooLong }, IsFirstFault.too_long long refl refl)
    by (inr short) =
        elim (formula-cases (suc (length text + length text)) 1 text (omega arith) utf8) [
          | inl has ↦ ended short has (token_of has.rest) refl
          | inr fails ↦ inr (fails_at short fails.0 fails.1 (IsTextFault.in_formula fails.2))
        ]
