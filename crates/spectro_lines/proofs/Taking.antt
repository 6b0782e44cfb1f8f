-- What bytes that are taken make of a feed.
use Rattle.std.proofs.Common.{◌≡◌, ◌∙◌, ℕ, ◌+◌, ◌<◌, ◌≤◌, List, [], ◌∷◌, ◌++◌, length, refl, sym, ap, subst, inl, inr, arith, append_assoc, append-nil, length-append}
use Rattle.std.specs.Prelude.{◌⊎◌}
use Rattle.spectro_io.specs.Lines.{first_line, lines_of, without_cr}
use Rattle.spectro_lines.specs.Form.{Form}
use Rattle.spectro_lines.specs.LineReading.{IsTaken, IsRefused}
use Rattle.spectro_lines.specs.Texts.{Before, behind, IsTooLong, IsRead, IsFaulty, Follow, nothing_before, IsFirstFault, at_line}
use Rattle.spectro_lines.specs.Feeding.{Fed, LeadTo, Says, HasTaken, Takes, stopped, line_taken, EndsLine, Found, HasRead}
use Rattle.spectro_lines.specs.declared.feed.Progress.{Progress}
use Rattle.spectro_lines.specs.declared.feed.Progress.TheVariants.{Open, Faulty, Broken}
use Rattle.spectro_lines.proofs.HeldLines.{IsUnbroken, lines_of-begun, lines_of-ended, lines_of-held, first_line-ended, first_line-held, length-first_line}
use Rattle.spectro_lines.proofs.LineJudgements.{taken-IsRead, refused-IsFaulty, Follow-push}
use Rattle.spectro_lines.specs.declared.feed.TheConstants.{MAX_HELD}

-- what a feed that is open says
pub opened : {State Value Kind : Type 0} (form : Form State Value Kind) (fed : Fed State Kind) (state : State) (taken : List ℕ) → fed.progress ≡ Open state
    → HasTaken form fed taken → LeadTo form fed taken state
opened form fed state taken at has = subst (Says form fed taken) at has

module _ {State Value Kind : Type 0} (form : Form State Value Kind) where
  pub Takes-none : (fed : Fed State Kind) → Takes form fed fed []
  Takes-none fed taken has = subst (HasTaken form fed) (sym (append-nil taken)) has

  pub Takes-append : (old middle new : Fed State Kind) (one other : List ℕ) → Takes form old middle one → Takes form middle new other
      → Takes form old new (one ++ other)
  Takes-append old middle new one other first second taken has =
      subst (HasTaken form new) (append_assoc taken one other) (second (taken ++ one) (first taken has))

  -- where a line had a fault, or memory ran out, no byte changes anything
  pub Takes-settled : (fed : Fed State Kind) (bytes : List ℕ) → ((state : State) → fed.progress ≡ Open state → ⊥) → Takes form fed fed bytes
  Takes-settled fed bytes settled taken has = by fed.progress refl has
    where
      by : (progress : Progress State Kind) → fed.progress ≡ progress → Says form fed taken progress → Says form fed (taken ++ bytes) fed.progress
      by (Open state) at says = absurd (settled state at)
      by (Faulty fault) at says =
          rw at (λ rest. subst (λ text. IsFirstFault form text fault.line fault.kind) (sym (append_assoc taken bytes rest)) (says (bytes ++ rest)))
      by Broken at says = absurd says

  module _ (state : State) (fed : Fed State Kind) (at : fed.progress ≡ Open state) where
    -- bytes that are held
    pub Takes-held : (part : List ℕ)
        → Takes form fed (record { progress = Open state; bytes = fed.bytes + length part; lines = fed.lines; held = fed.held ++ part }) part
    Takes-held part taken has =
        let led = opened form fed state taken at has in
        record {
          front = led.front;
          begun = led.begun;
          whole =
              λ rest. ap lines_of (append_assoc taken part rest) ∙ led.whole (part ++ rest)
              ∙ ap (λ text. led.front ++ lines_of text) (sym (append_assoc fed.held part rest));
          follow = led.follow;
          counted = let counted = led.counted in omega (arith, length-append fed.held part);
        }

    -- what stands before the line that is held
    abbrev before : ℕ → Before State
    before begun = record { bytes = begun; lines = fed.lines; state = state }

    -- the line that begins with what is held, and with these bytes, has the fault, whatever follows
    stops : (part : List ℕ) (kind : Kind)
        → ((begun : ℕ) → fed.bytes ≡ begun + length fed.held → (rest : List ℕ)
        → (line : List ℕ) × (others : List (List ℕ)) × (lines_of (fed.held ++ part ++ rest) ≡ line ∷ others) × IsFaulty form (before begun) line kind)
        → Takes form fed (stopped fed kind) part
    stops part kind faulty taken has rest =
        let led = opened form fed state taken at has in
        let found = faulty led.begun led.counted rest in
        let whole : lines_of ((taken ++ part) ++ rest) ≡ led.front ++ found.0 ∷ found.1 =
        ap lines_of (append_assoc taken part rest) ∙ led.whole (part ++ rest)
        ∙ ap (λ lines. led.front ++ lines) (ap lines_of (sym (append_assoc fed.held part rest)) ∙ found.2) in
        at_line led.front found.0 found.1 (before led.begun) whole led.follow found.3 refl

    too_long : (begun : ℕ) (text more : List ℕ) → fed.bytes ≡ begun + length fed.held → IsUnbroken text
        → (form.limit < begun + length text) ⊎ (MAX_HELD < length text) → IsTooLong form begun (text ++ more)
    too_long begun text more counted unbroken (inl over) = inr (omega (arith, over, length-append text more))
    too_long begun text more counted unbroken (inr long) =
        let first : length text ≤ length (first_line (text ++ more)) + 1 = length-first_line text more unbroken in
        inl (omega arith)

    -- bytes for which there is no room
    pub Takes-over : (part : List ℕ) → IsUnbroken (fed.held ++ part) → 0 < length part
        → (form.limit < fed.bytes + length part) ⊎ (MAX_HELD < length fed.held + length part) → Takes form fed (stopped fed form.too_long) part
    Takes-over part unbroken some over = stops part form.too_long (λ begun counted rest.
        let text = fed.held ++ part in
        let first = lines_of-begun text rest unbroken (omega (arith, length-append fed.held part)) in
        let long : (form.limit < begun + length text) ⊎ (MAX_HELD < length text) =
        elim over [ inl bytes ↦ inl (omega (arith, length-append fed.held part)) | inr held ↦ inr (omega (arith, length-append fed.held part)) ] in
        (text ++ first.0, first.1, first.2, IsFaulty.too_long (too_long begun text first.0 counted unbroken long) refl))

    -- an LF for which there is no room
    pub Takes-full : IsUnbroken fed.held → form.limit ≤ fed.bytes → Takes form fed (stopped fed form.too_long) (10 ∷ [])
    Takes-full unbroken full = stops (10 ∷ []) form.too_long (λ begun counted rest.
        let line = fed.held ++ 10 ∷ [] in
        let over : form.limit < begun + length line = omega (arith, length-append fed.held (10 ∷ [])) in
        let whole : lines_of (fed.held ++ (10 ∷ []) ++ rest) ≡ line ∷ lines_of rest =
        ap lines_of (append_assoc fed.held (10 ∷ []) rest) ∙ lines_of-ended fed.held rest unbroken in
        (line, lines_of rest, whole, IsFaulty.too_long (inr over) refl))

    -- the LF that ends the line
    module _ (unbroken : IsUnbroken fed.held) (within : fed.bytes + 1 ≤ form.limit) where
      abbrev ended : List ℕ
      ended = fed.held ++ 10 ∷ []

      whole_ended : (rest : List ℕ) → lines_of (fed.held ++ (10 ∷ []) ++ rest) ≡ ended ∷ lines_of rest
      whole_ended rest = ap lines_of (append_assoc fed.held (10 ∷ []) rest) ∙ lines_of-ended fed.held rest unbroken

      ended_taken : (next : State) → IsTaken form state (fed.lines + 1) (without_cr fed.held) next
          → Takes form fed (line_taken (record fed { bytes = fed.bytes + 1 }) next) (10 ∷ [])
      ended_taken next is taken has =
          let led = opened form fed state taken at has in
          let counted : led.begun + length ended ≡ fed.bytes + 1 = let counted = led.counted in omega (arith, length-append fed.held (10 ∷ [])) in
          let read : IsRead form (before led.begun) ended next =
          taken-IsRead form (before led.begun) ended (without_cr fed.held) (first_line-ended fed.held unbroken) (omega (arith, counted)) next is in
          let After : ℕ → Type 0 =
          λ bytes. Follow form (nothing_before form) (led.front ++ ended ∷ []) (record { bytes = bytes; lines = fed.lines + 1; state = next }) in
          record {
            front = led.front ++ ended ∷ [];
            begun = fed.bytes + 1;
            whole = λ rest.
                ap lines_of (append_assoc taken (10 ∷ []) rest) ∙ led.whole (10 ∷ rest)
                ∙ ap (λ lines. led.front ++ lines) (lines_of-ended fed.held rest unbroken) ∙ sym (append_assoc led.front (ended ∷ []) (lines_of rest));
            follow = subst After counted (Follow-push form led.front ended (nothing_before form) (before led.begun) next led.follow read);
            counted = omega arith;
          }

      ended_refused : (kind : Kind) → IsRefused form state (without_cr fed.held) kind → Takes form fed (stopped fed kind) (10 ∷ [])
      ended_refused kind is = stops (10 ∷ []) kind (λ begun counted rest.
          let fits : begun + length ended ≤ form.limit = omega (arith, length-append fed.held (10 ∷ [])) in
          let faulty = refused-IsFaulty form (before begun) ended (without_cr fed.held) (first_line-ended fed.held unbroken) fits kind is in
          (ended, lines_of rest, whole_ended rest, faulty))

    -- the last line, which no LF ends
    module _ (unbroken : IsUnbroken fed.held) (some : 0 < length fed.held) (within : fed.bytes ≤ form.limit) where
      module _ (taken : List ℕ) (led : LeadTo form fed taken state) where
        whole_last : lines_of taken ≡ led.front ++ fed.held ∷ []
        whole_last =
            ap lines_of (sym (append-nil taken)) ∙ led.whole [] ∙ ap (λ held. led.front ++ lines_of held) (append-nil fed.held)
            ∙ ap (λ lines. led.front ++ lines) (lines_of-held fed.held unbroken some)

        fits : led.begun + length fed.held ≤ form.limit
        fits = let counted = led.counted in omega arith

        last_taken : (next : State) → IsTaken form state (fed.lines + 1) (without_cr fed.held) next → HasRead form (line_taken fed next) taken
        last_taken next is =
            let read : IsRead form (before led.begun) fed.held next =
            taken-IsRead form (before led.begun) fed.held (without_cr fed.held) (first_line-held fed.held unbroken) fits next is in
            let follow = Follow-push form led.front fed.held (nothing_before form) (before led.begun) next led.follow read in
            let Leads : List (List ℕ) → Type 0 = λ lines. Follow form (nothing_before form) lines (behind (before led.begun) fed.held next) in
            (led.begun + length fed.held, subst Leads (sym whole_last) follow)

        last_refused : (kind : Kind) → IsRefused form state (without_cr fed.held) kind → HasRead form (stopped fed kind) taken
        last_refused kind is =
            let faulty : IsFaulty form (before led.begun) fed.held kind =
            refused-IsFaulty form (before led.begun) fed.held (without_cr fed.held) (first_line-held fed.held unbroken) fits kind is in
            at_line led.front fed.held [] (before led.begun) whole_last led.follow faulty refl

  pub Takes-ended : (fed new : Fed State Kind) (state : State) → fed.progress ≡ Open state → IsUnbroken fed.held → fed.bytes + 1 ≤ form.limit
      → EndsLine form (record fed { bytes = fed.bytes + 1 }) new → Takes form fed new (10 ∷ [])
  Takes-ended fed new state at unbroken within (EndsLine.settled other is) = absurd (other state at)
  Takes-ended fed new state at unbroken within (EndsLine.taken from next is taken_is is_new) =
      subst (λ new. Takes form fed new (10 ∷ [])) (sym is_new) (ended_taken from fed is unbroken within next taken_is)
  Takes-ended fed new state at unbroken within (EndsLine.refused from kind is refused_is is_new) =
      subst (λ new. Takes form fed new (10 ∷ [])) (sym is_new) (ended_refused from fed is unbroken within kind refused_is)

  -- where no line is held, or an earlier one had a fault, all was read
  HasRead-taken : (fed : Fed State Kind) → ((state : State) → fed.progress ≡ Open state → fed.held ≡ []) → (taken : List ℕ) → HasTaken form fed taken
      → HasRead form fed taken
  HasRead-taken fed none taken has = by fed.progress refl has
    where
      by : (progress : Progress State Kind) → fed.progress ≡ progress → Says form fed taken progress → Found form fed.lines taken fed.progress
      by (Open state) at led =
          let whole : lines_of taken ≡ led.front =
          ap lines_of (sym (append-nil taken)) ∙ led.whole [] ∙ ap (λ held. led.front ++ lines_of (held ++ [])) (none state at) ∙ append-nil led.front in
          let middle : Before State = record { bytes = led.begun; lines = fed.lines; state = state } in
          rw at (led.begun, subst (λ lines. Follow form (nothing_before form) lines middle) (sym whole) led.follow)
      by (Faulty fault) at says = rw at (subst (λ text. IsFirstFault form text fault.line fault.kind) (append-nil taken) (says []))
      by Broken at says = absurd says

  pub HasRead-none : (fed : Fed State Kind) → fed.held ≡ [] → (taken : List ℕ) → HasTaken form fed taken → HasRead form fed taken
  HasRead-none fed none taken has = HasRead-taken fed (λ state at. none) taken has

  pub HasRead-ended : (fed new : Fed State Kind) → IsUnbroken fed.held → 0 < length fed.held → fed.bytes ≤ form.limit → EndsLine form fed new → (taken : List ℕ)
      → HasTaken form fed taken → HasRead form new taken
  HasRead-ended fed new unbroken some within (EndsLine.settled other is) taken has =
      subst (λ fed. HasRead form fed taken) (sym is) (HasRead-taken fed (λ state at. absurd (other state at)) taken has)
  HasRead-ended fed new unbroken some within (EndsLine.taken from next is taken_is is_new) taken has =
      subst (λ fed. HasRead form fed taken) (sym is_new) (last_taken from fed is unbroken some within taken (opened form fed from taken is has) next taken_is)
  HasRead-ended fed new unbroken some within (EndsLine.refused from kind is refused_is is_new) taken has =
      subst (λ fed. HasRead form fed taken) (sym is_new)
      (last_refused from fed is unbroken some within taken (opened form fed from taken is has) kind refused_is)
