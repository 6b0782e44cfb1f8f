-- Each text has one value or one first fault, and never both, where so has each line after each state.
use Rattle.std.proofs.Common.{◌≡◌, ◌∙◌, ℕ, ◌+◌, List, [], ◌∷◌, length, refl, sym, ap, subst, inl, inr, arith}
use Rattle.std.specs.Prelude.{Result, Ok, Err, MatchResult, ◌⊎◌}
use Rattle.std.specs.List.{list_all}
use Rattle.std.specs.Str.{IsUtf8, is_utf8}
use Rattle.std.proofs.lemmas.Bool.{both_ways, cases_Bool, cases_lt}
use Rattle.std.proofs.lemmas.Str.{IsUtf8-from_is_utf8, is_utf8-from_IsUtf8}
use Rattle.spectro_io.specs.Blanks.{is_blank, AreBlanks}
use Rattle.spectro_io.specs.Lines.{first_line, lines_of}
use Rattle.spectro_lines.specs.Form.{Form}
use Rattle.spectro_lines.specs.Texts.{Before, nothing_before, behind, IsTooLong, LeadsTo, skipped, given, IsRead, IsFaulty, too_long, not_text, other, HasValue, HasFault, at_end, IsText, IsFirstFault}
use Rattle.spectro_lines.proofs.Faults.{too_long-only, HasFault-nil, HasFault-cons, HasFault-here, HasFault-later, HasValue-later}
use Rattle.spectro_lines.proofs.Settled.{IsSettled, one_value, one_fault, not_both}
use Rattle.spectro_io.specs.declared.lines.TheConstants.{LINE_LIMIT}

-- what is so of each state that lines lead to, and why a line, and the end of the text, are settled after such a state
pub record AreLaws {State Value Kind : Type 0} (form : Form State Value Kind) : Type 1 where
  pub Kept : State → Type 0
  pub start_kept : Kept form.start
  pub next_kept : (state : State) (number : ℕ) (line : List ℕ) (next : State) → Kept state → form.Gives state number line next → Kept next
  pub line : (state : State) (number : ℕ) (line : List ℕ) → Kept state → IsUtf8 line → ¬ AreBlanks line
      → IsSettled (form.Gives state number line) (form.IsFault state line)
  pub end : (state : State) (lines : ℕ) → Kept state → IsSettled (form.Ends state) (λ (fault : ℕ × Kind). form.EndsEarly state lines fault.0 fault.1)

utf8-cases : (bytes : List ℕ) → IsUtf8 bytes ⊎ (¬ IsUtf8 bytes)
utf8-cases bytes =
    elim (cases_Bool (is_utf8 bytes)) [
      | inl is ↦ inl (IsUtf8-from_is_utf8 bytes is)
      | inr not_so ↦ inr (λ utf8. both_ways (is_utf8 bytes) not_so (is_utf8-from_IsUtf8 bytes utf8))
    ]

fit-cases : {State Value Kind : Type 0} (form : Form State Value Kind) (bytes : ℕ) (line : List ℕ) → (¬ IsTooLong form bytes line) ⊎ IsTooLong form bytes line
fit-cases form bytes line =
    elim (cases_lt LINE_LIMIT (length (first_line line))) [
      | inl long ↦ inr (inl long)
      | inr short ↦ elim (cases_lt form.limit (bytes + length line)) [
        | inl over ↦ inr (inr over)
        | inr within ↦ inl (λ long. elim long [ inl more ↦ omega arith | inr over ↦ omega arith ])
      ]
    ]

module _ {State Value Kind : Type 0} (form : Form State Value Kind) (laws : AreLaws form) where
  -- ---- one line
  module _ (before : Before State) (line : List ℕ) where
    abbrev Judges : Result State Kind → Type 0
    Judges answer = MatchResult answer (IsRead form before line) (IsFaulty form before line)

    long_once : IsTooLong form before.bytes line → (answer : Result State Kind) → Judges answer → answer ≡ Err form.too_long
    long_once long (Ok next) read = absurd (read.fit long)
    long_once long (Err kind) faulty = ap Err (too_long-only form before line kind long faulty)

    no_text_once : ¬ IsTooLong form before.bytes line → ¬ IsUtf8 (first_line line) → (answer : Result State Kind) → Judges answer → answer ≡ Err form.not_text
    no_text_once fit none (Ok next) read = absurd (none read.text)
    no_text_once fit none (Err kind) (too_long long is) = absurd (fit long)
    no_text_once fit none (Err kind) (not_text fit_too none_too is) = ap Err is
    no_text_once fit none (Err kind) (other fit_too utf8 some fault) = absurd (none utf8)

    blank_once : ¬ IsTooLong form before.bytes line → IsUtf8 (first_line line) → AreBlanks (first_line line) → (answer : Result State Kind) → Judges answer
        → answer ≡ Ok before.state
    blank_once fit utf8 blank (Ok next) read = skips read.leads
      where
        skips : LeadsTo form before.state (before.lines + 1) (first_line line) next → ◌≡◌ {A = Result State Kind} (Ok next) (Ok before.state)
        skips (skipped blank_too is) = ap Ok is
        skips (given some gives) = absurd (some blank)
    blank_once fit utf8 blank (Err kind) (too_long long is) = absurd (fit long)
    blank_once fit utf8 blank (Err kind) (not_text fit_too none is) = absurd (none utf8)
    blank_once fit utf8 blank (Err kind) (other fit_too utf8_too some fault) = absurd (some blank)

    module _ (fit : ¬ IsTooLong form before.bytes line) (utf8 : IsUtf8 (first_line line)) (some : ¬ AreBlanks (first_line line)) where
      abbrev Decides : Result State Kind → Type 0
      Decides answer = MatchResult answer (form.Gives before.state (before.lines + 1) (first_line line)) (form.IsFault before.state (first_line line))

      judged : (answer : Result State Kind) → Decides answer → Judges answer
      judged (Ok next) gives = record { fit = fit; text = utf8; leads = given some gives }
      judged (Err kind) fault = other fit utf8 some fault

      decided : (answer : Result State Kind) → Judges answer → Decides answer
      decided (Ok next) read = led read.leads
        where
          led : LeadsTo form before.state (before.lines + 1) (first_line line) next → form.Gives before.state (before.lines + 1) (first_line line) next
          led (skipped blank is) = absurd (some blank)
          led (given some_too gives) = gives
      decided (Err kind) (too_long long is) = absurd (fit long)
      decided (Err kind) (not_text fit_too none is) = absurd (none utf8)
      decided (Err kind) (other fit_too utf8_too some_too fault) = fault

    pub line_settled : laws.Kept before.state → IsSettled (IsRead form before line) (IsFaulty form before line)
    line_settled kept =
        elim (fit-cases form before.bytes line) [
          | inl fit ↦ elim (utf8-cases (first_line line)) [
            | inl utf8 ↦ elim (cases_Bool (list_all is_blank (first_line line))) [
              | inl blank ↦
                  let read : IsRead form before line before.state = record { fit = fit; text = utf8; leads = skipped blank refl } in
                  record { answer = Ok before.state; is_so = read; once = blank_once fit utf8 blank }
              | inr full ↦
                  let some : ¬ AreBlanks (first_line line) = both_ways (list_all is_blank (first_line line)) full in
                  let found = laws.line before.state (before.lines + 1) (first_line line) kept utf8 some in
                  record {
                    answer = found.answer;
                    is_so = judged fit utf8 some found.answer found.is_so;
                    once = λ answer is. found.once answer (decided fit utf8 some answer is);
                  }
            ]
            | inr none ↦ record { answer = Err form.not_text; is_so = not_text fit none refl; once = no_text_once fit none }
          ]
          | inr long ↦ record { answer = Err form.too_long; is_so = too_long long refl; once = long_once long }
        ]

    pub read_kept : (next : State) → laws.Kept before.state → IsRead form before line next → laws.Kept next
    read_kept next kept read = leads_kept read.leads
      where
        leads_kept : LeadsTo form before.state (before.lines + 1) (first_line line) next → laws.Kept next
        leads_kept (skipped blank is) = subst laws.Kept (sym is) kept
        leads_kept (given some gives) = laws.next_kept before.state (before.lines + 1) (first_line line) next kept gives

  -- ---- lines
  abbrev Faults : Before State → List (List ℕ) → ℕ × Kind → Type 0
  Faults before lines fault = HasFault form before lines fault.0 fault.1

  abbrev pub AreSettled : Before State → List (List ℕ) → Type 0
  AreSettled before lines = IsSettled (HasValue form before lines) (Faults before lines)

  abbrev EndsAs : Before State → Result Value (ℕ × Kind) → Type 0
  EndsAs before answer = MatchResult answer (form.Ends before.state) (λ (fault : ℕ × Kind). form.EndsEarly before.state before.lines fault.0 fault.1)

  none_settled : (before : Before State) → laws.Kept before.state → AreSettled before []
  none_settled before kept =
      let end = laws.end before.state before.lines kept in
      record { answer = end.answer; is_so = is_so end.answer end.is_so; once = λ found is. end.once found (once found is) }
    where
      is_so : (answer : Result Value (ℕ × Kind)) → EndsAs before answer → MatchResult answer (HasValue form before []) (Faults before [])
      is_so (Ok value) ends = record { after = before; follow = refl; ends = ends }
      is_so (Err fault) early = at_end before refl early

      once : (answer : Result Value (ℕ × Kind)) → MatchResult answer (HasValue form before []) (Faults before []) → EndsAs before answer
      once (Ok value) has = subst (λ after. form.Ends after.state value) has.follow has.ends
      once (Err fault) has = HasFault-nil form before fault.0 fault.1 has

  module _ (before : Before State) (line : List ℕ) (lines : List (List ℕ)) (first : IsSettled (IsRead form before line) (IsFaulty form before line)) where
    faulty_settled : (kind : Kind) → IsFaulty form before line kind → AreSettled before (line ∷ lines)
    faulty_settled kind faulty = record { answer = Err (before.lines + 1, kind); is_so = HasFault-here form before line lines kind faulty; once = once }
      where
        once : (found : Result Value (ℕ × Kind)) → MatchResult found (HasValue form before (line ∷ lines)) (Faults before (line ∷ lines))
            → found ≡ Err (before.lines + 1, kind)
        once (Ok value) has = absurd (not_both _ _ first has.follow.0 kind has.follow.1 faulty)
        once (Err fault) has =
            elim (HasFault-cons form before line lines fault.0 fault.1 has) [
              | inl here ↦
                  ap (λ number. Err (number, fault.1)) here.1 ∙ ap (λ kind. Err (before.lines + 1, kind)) (one_fault _ _ first fault.1 kind here.0 faulty)
              | inr later ↦ absurd (not_both _ _ first later.0 kind later.1 faulty)
            ]

    read_settled : (next : State) → IsRead form before line next → AreSettled (behind before line next) lines → AreSettled before (line ∷ lines)
    read_settled next read others = record { answer = others.answer; is_so = is_so others.answer others.is_so; once = once }
      where
        is_so : (found : Result Value (ℕ × Kind)) → MatchResult found (HasValue form (behind before line next) lines) (Faults (behind before line next) lines)
            → MatchResult found (HasValue form before (line ∷ lines)) (Faults before (line ∷ lines))
        is_so (Ok value) has = HasValue-later form before line lines next value read has
        is_so (Err fault) has = HasFault-later form before line lines next fault.0 fault.1 read has

        same : (found : State) → IsRead form before line found → found ≡ next
        same found read_too = one_value _ _ first found next read_too read

        once : (found : Result Value (ℕ × Kind)) → MatchResult found (HasValue form before (line ∷ lines)) (Faults before (line ∷ lines))
            → found ≡ others.answer
        once (Ok value) has =
            let rest : HasValue form (behind before line has.follow.0) lines value = record { after = has.after; follow = has.follow.2; ends = has.ends } in
            others.once (Ok value) (subst (λ next. HasValue form (behind before line next) lines value) (same has.follow.0 has.follow.1) rest)
        once (Err fault) has =
            elim (HasFault-cons form before line lines fault.0 fault.1 has) [
              | inl here ↦ absurd (not_both _ _ first next fault.1 read here.0)
              | inr later ↦
                  others.once (Err fault) (subst (λ next. HasFault form (behind before line next) lines fault.0 fault.1) (same later.0 later.1) later.2)
            ]

  lines_settled : (lines : List (List ℕ)) (before : Before State) → laws.Kept before.state → AreSettled before lines
  lines_settled [] before kept = none_settled before kept
  lines_settled (line ∷ lines) before kept =
      let first = line_settled before line kept in
      by first.answer first.is_so first (λ next read. lines_settled lines (behind before line next) (read_kept before line next kept read))
    where
      by : (answer : Result State Kind) → Judges before line answer → IsSettled (IsRead form before line) (IsFaulty form before line)
          → ((next : State) → IsRead form before line next → AreSettled (behind before line next) lines) → AreSettled before (line ∷ lines)
      by (Ok next) read first others = read_settled before line lines first next read (others next read)
      by (Err kind) faulty first others = faulty_settled before line lines first kind faulty

  -- the law
  pub text_settled : (text : List ℕ) → IsSettled (IsText form text) (λ (fault : ℕ × Kind). IsFirstFault form text fault.0 fault.1)
  text_settled text = lines_settled (lines_of text) (nothing_before form) laws.start_kept
