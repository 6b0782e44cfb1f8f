-- What is read as a header is one, each header is read, and each fault of a header is told.
use Rattle.std.proofs.Common.{◌≡◌, ◌∙◌, ℕ, ◌<◌, true, false, List, [], ◌∷◌, ◌++◌, arith, refl, sym, ap, subst, inl, inr, append_assoc}
use Rattle.std.specs.Prelude.{Option, None, Some, Ok, Err, nat_lt, nat_le, nat_eq, codes}
use Rattle.std.specs.List.{list_all}
use Rattle.std.proofs.lemmas.Bool.{cases_lt, ltb-true, ltb-false, leb-true, leb-false, eqb-true, eqb-false, lt-ltb, le-ltb, le-leb, lt-leb, ne_eqb}
use Rattle.std.proofs.lemmas.List.{append_cancel_left}
use Rattle.std.proofs.lemmas.Option.{same_Some}
use Rattle.spectro_io.specs.Blanks.{is_blank, skip_blanks}
use Rattle.spectro_io.specs.Fronts.{after}
use Rattle.spectro_io.specs.Numbers.{capped}
use Rattle.spectro_io.proofs.Blanks.{blanks_before, skip_blanks-blanks}
use Rattle.spectro_io.proofs.Fronts.{after_sound, after_complete}
use Rattle.spectro_aut.specs.Grammar.{IsHeader, IsWithinLimits}
use Rattle.spectro_aut.specs.Faults.{IsHeaderFault}
use Rattle.spectro_aut.specs.Reading.{before_last, first_split, field_number, header_of, header_within, header_read, header_begun, header_in}
use Rattle.spectro_aut.specs.declared.error.AutKind.{AutKind}
use Rattle.spectro_aut.specs.declared.error.AutKind.TheVariants.{NoHeader, BadHeader, TooManyStates, TooManyTransitions, NoState, BadInitial}
use Rattle.spectro_aut.specs.declared.header.Header.{Header}
use Rattle.spectro_aut.proofs.Choices.{bind_then, choice_ok, choice_err}
use Rattle.spectro_aut.proofs.FieldLaws.{before_last_sound, before_last_complete, first_split_sound, first_split_complete, field_number_sound, field_number_complete, number_lacks_comma}

-- the header has the numbers of the text, as far as 64 bits go
pub record IsHeaderOf (text : List ℕ) (header : Header) : Type 0 where
  pub initial : ℕ
  pub transitions : ℕ
  pub states : ℕ
  pub is_header : IsHeader text initial transitions states
  pub is_initial : header.initial ≡ capped initial
  pub is_transitions : header.transitions ≡ capped transitions
  pub is_states : header.states ≡ capped states

-- the parts of a header, from `des` on
header_parts : (gap first second third : List ℕ)
    → codes "des" ++ gap ++ 40 ∷ first ++ 44 ∷ second ++ 44 ∷ third ++ 41 ∷ [] ≡ codes "des" ++
    (gap ++ 40 ∷ ((first ++ 44 ∷ (second ++ 44 ∷ third)) ++ 41 ∷ []))
header_parts gap first second third = simp append_assoc

header_whole : (text rest opened fields first others second third gap : List ℕ) → text ≡ codes "des" ++ rest → rest ≡ gap ++ skip_blanks rest
    → skip_blanks rest ≡ 40 ∷ opened → opened ≡ fields ++ 41 ∷ [] → fields ≡ first ++ 44 ∷ others → others ≡ second ++ 44 ∷ third
    → text ≡ codes "des" ++ gap ++ 40 ∷ first ++ 44 ∷ second ++ 44 ∷ third ++ 41 ∷ []
header_whole text rest opened fields first others second third gap begins skipped o z f s =
    let inner : opened ≡ (first ++ 44 ∷ (second ++ 44 ∷ third)) ++ 41 ∷ [] = z ∙ ap (λ l. l ++ 41 ∷ []) (f ∙ ap (λ l. first ++ 44 ∷ l) s) in
    begins ∙ ap (λ l. codes "des" ++ l) (skipped ∙ ap (λ l. gap ++ l) (o ∙ ap (λ l. 40 ∷ l) inner)) ∙ sym (header_parts gap first second third)

header_made : (text first second third gap : List ℕ) (initial transitions states : ℕ) (header : Header)
    → text ≡ codes "des" ++ gap ++ 40 ∷ first ++ 44 ∷ second ++ 44 ∷ third ++ 41 ∷ [] → list_all is_blank gap ≡ true
    → field_number first ≡ Some initial → field_number second ≡ Some transitions → field_number third ≡ Some states
    → ◌≡◌ {A = Option Header} (Some (record { initial = initial; transitions = transitions; states = states })) (Some header) → IsHeaderOf text header
header_made text first second third gap initial transitions states header whole blanks i t n e =
    let is_first = field_number_sound first initial i in
    let is_second = field_number_sound second transitions t in
    let is_third = field_number_sound third states n in
    subst (IsHeaderOf text) (same_Some (record { initial = initial; transitions = transitions; states = states }) header e) (record {
      initial = is_first.0;
      transitions = is_second.0;
      states = is_third.0;
      is_header = record {
        gap = gap;
        first = first;
        second = second;
        third = third;
        whole = whole;
        blanks = blanks;
        is_initial = is_first.1;
        is_transitions
            = is_second.1;
        is_states = is_third.1;
      };
      is_initial = is_first.2;
      is_transitions = is_second.2;
      is_states = is_third.2;
    })

pub header_of_sound : (text rest : List ℕ) (header : Header) → text ≡ codes "des" ++ rest → header_of rest ≡ Some header → IsHeaderOf text header
unfolding header_of
header_of_sound text rest header begins e =
    bind_then (after (40 ∷ []) (skip_blanks rest)) _ header e (λ opened o e.
    bind_then (before_last 41 opened) _ header e (λ fields z e.
    bind_then (first_split 44 fields) _ header e (λ first f e.
    bind_then (first_split 44 first.1) _ header e (λ second s e.
    bind_then (field_number first.0) _ header e (λ initial i e.
    bind_then (field_number second.0) _ header e (λ transitions t e.
    bind_then (field_number second.1) _ header e (λ states n e.
    let gap = blanks_before rest in
    let whole = header_whole text rest opened fields first.0 first.1 second.0 second.1 gap.0 begins gap.1
    (after_sound (40 ∷ []) (skip_blanks rest) opened o) (before_last_sound 41 opened fields z)
    (first_split_sound 44 fields first.0 first.1 f).0 (first_split_sound 44 first.1 second.0 second.1 s).0 in
    header_made text first.0 second.0 second.1 gap.0 initial transitions states header whole gap.2 i t n e)))))))

pub header_of_complete : (text rest : List ℕ) (initial transitions states : ℕ) → text ≡ codes "des" ++ rest → IsHeader text initial transitions states
    → header_of rest ≡ Some (record { initial = capped initial; transitions = capped transitions; states = capped states })
unfolding header_of
header_of_complete text rest initial transitions states begins h =
    let first = h.first in
    let second = h.second in
    let third = h.third in
    let others : List ℕ = second ++ 44 ∷ third in
    let fields : List ℕ = first ++ 44 ∷ others in
    let behind : rest ≡ h.gap ++ 40 ∷ (fields ++ 41 ∷ []) = append_cancel_left (codes "des") _ _ (sym begins ∙ h.whole
    ∙ header_parts h.gap first second third) in
    let skipped : skip_blanks rest ≡ 40 ∷ (fields ++ 41 ∷ []) = ap skip_blanks behind ∙ skip_blanks-blanks h.gap (40 ∷ (fields ++ 41 ∷ [])) h.blanks in
    rw (
      skipped,
      before_last_complete 41 fields,
      first_split_complete 44 first others (number_lacks_comma first initial h.is_initial),
      first_split_complete 44 second third (number_lacks_comma second transitions h.is_transitions),
      field_number_complete first initial h.is_initial,
      field_number_complete second transitions h.is_transitions,
      field_number_complete third states h.is_states,
    ) refl

-- which numbers keep the limits, and which fault the others have
pub header_within_ok : (header next : Header) → header_within header ≡ Ok next
    → IsWithinLimits header.initial header.transitions header.states × (next ≡ header)
header_within_ok header next e =
    let few_states = choice_ok (nat_lt 65536 header.states) _ _ next e in
    let few_transitions = choice_ok (nat_lt 1000000 header.transitions) _ _ next few_states.1 in
    let some = choice_ok (nat_eq header.states 0) _ _ next few_transitions.1 in
    let in_range = choice_ok (nat_le header.states header.initial) _ (Ok header) next some.1 in
    (record { few_states = ltb-false _ _ few_states.0; few_transitions = ltb-false _ _ few_transitions.0; in_range = leb-false _ _ in_range.0 }, cc)

pub header_within-complete : (header : Header) → IsWithinLimits header.initial header.transitions header.states → header_within header ≡ Ok header
header_within-complete header within =
    let few_states : nat_lt 65536 header.states ≡ false = le-ltb _ _ within.few_states in
    let few_transitions : nat_lt 1000000 header.transitions ≡ false = le-ltb _ _ within.few_transitions in
    let some : nat_eq header.states 0 ≡ false = ne_eqb _ _ (λ none. omega (arith, within.in_range)) in
    let in_range : nat_le header.states header.initial ≡ false = lt-leb _ _ within.in_range in
    rw (few_states, few_transitions, some, in_range) refl

header_fault : (text : List ℕ) (header : Header) (kind : AutKind) → IsHeaderOf text header → header_within header ≡ Err kind → IsHeaderFault text kind
header_fault text header kind h e = elim (choice_err (nat_lt 65536 header.states) TooManyStates _ kind e) [
  | inl found ↦ let more = ltb-true _ _ found.0 in IsHeaderFault.too_many_states h.initial h.transitions h.states h.is_header
      (omega (arith, h.is_states, more)) found.1
  | inr few_states ↦ elim (choice_err (nat_lt 1000000 header.transitions) TooManyTransitions _ kind few_states.1) [
    | inl found ↦
        let few = ltb-false _ _ few_states.0 in
        let more = ltb-true _ _ found.0 in
        IsHeaderFault.too_many_transitions h.initial h.transitions h.states h.is_header (omega (arith, h.is_states, few))
        (omega (arith, h.is_transitions, more)) found.1
    | inr few_transitions ↦ elim (choice_err (nat_eq header.states 0) NoState _ kind few_transitions.1) [
      | inl found ↦
          let none : h.states ≡ 0 = let zero = eqb-true _ _ found.0 in omega (arith, h.is_states, zero) in
          let few = ltb-false _ _ few_transitions.0 in
          IsHeaderFault.no_state h.initial h.transitions (subst (λ states. IsHeader text h.initial h.transitions states) none h.is_header)
          (omega (arith, h.is_transitions, few)) found.1
      | inr some ↦ elim (choice_err (nat_le header.states header.initial) BadInitial (Ok header) kind some.1) [
        | inl found ↦
            let states = ltb-false _ _ few_states.0 in
            let transitions = ltb-false _ _ few_transitions.0 in
            let same : h.states ≡ header.states = omega (arith, h.is_states, states) in
            let positive : 0 < h.states = elim (cases_lt 0 h.states) [ inl p ↦ p | inr p ↦ absurd (eqb-false _ _ some.0 (omega (arith, p, same))) ] in
            let out = leb-true _ _ found.0 in
            IsHeaderFault.bad_initial h.initial h.transitions h.states h.is_header positive (omega (arith, same, states))
            (omega (arith, h.is_transitions, transitions)) (omega (arith, same, states, out, h.is_initial)) found.1
        | inr in_range ↦ let other = in_range.1 in cc
      ]
    ]
  ]
]

-- what stands behind `des`, if the text begins with it
header_begins : (text : List ℕ) (initial transitions states : ℕ) → IsHeader text initial transitions states → (rest : List ℕ) × (text ≡ codes "des" ++ rest)
header_begins text initial transitions states h = (_, h.whole ∙ header_parts h.gap h.first h.second h.third)

pub header_in_ok : (text : List ℕ) (header : Header) → header_in text ≡ Ok header
    → IsHeader text header.initial header.transitions header.states × IsWithinLimits header.initial header.transitions header.states
unfolding header_in
header_in_ok text header e = begun (after (codes "des") text) refl e
  where
    numbers : (found : Header) → IsHeaderOf text found → IsWithinLimits found.initial found.transitions found.states
        → IsHeader text found.initial found.transitions found.states
    numbers found h within =
        let initial : h.initial ≡ found.initial = omega (arith, h.is_initial, within.in_range, within.few_states) in
        let transitions : h.transitions ≡ found.transitions = omega (arith, h.is_transitions, within.few_transitions) in
        let states : h.states ≡ found.states = omega (arith, h.is_states, within.few_states) in
        subst (λ n. IsHeader text n found.transitions found.states) initial
        (subst (λ n. IsHeader text h.initial n found.states) transitions (subst (λ n. IsHeader text h.initial h.transitions n) states h.is_header))

    read : (rest : List ℕ) (found : Option Header) → text ≡ codes "des" ++ rest → header_of rest ≡ found → header_read found ≡ Ok header
        → IsHeader text header.initial header.transitions header.states × IsWithinLimits header.initial header.transitions header.states
    read rest None begins is e = cc
    read rest (Some found) begins is e =
        let within = header_within_ok found header e in
        subst (λ header. IsHeader text header.initial header.transitions header.states
        × IsWithinLimits header.initial header.transitions header.states) (sym within.1)
        (numbers found (header_of_sound text rest found begins is) within.0, within.0)

    begun : (rest : Option (List ℕ)) → after (codes "des") text ≡ rest → header_begun rest ≡ Ok header
        → IsHeader text header.initial header.transitions header.states × IsWithinLimits header.initial header.transitions header.states
    begun None is e = cc
    begun (Some rest) is e = read rest (header_of rest) (after_sound (codes "des") text rest is) refl e

pub header_in_err : (text : List ℕ) (kind : AutKind) → header_in text ≡ Err kind → IsHeaderFault text kind
unfolding header_in
header_in_err text kind e = begun (after (codes "des") text) refl e
  where
    read : (rest : List ℕ) (found : Option Header) → text ≡ codes "des" ++ rest → header_of rest ≡ found → header_read found ≡ Err kind
        → IsHeaderFault text kind
    read rest None begins is e = IsHeaderFault.bad_header rest begins
        (λ initial transitions states h. let other = header_of_complete text rest initial transitions states begins h in cc) cc
    read rest (Some found) begins is e = header_fault text found kind (header_of_sound text rest found begins is) e

    begun : (rest : Option (List ℕ)) → after (codes "des") text ≡ rest → header_begun rest ≡ Err kind → IsHeaderFault text kind
    begun None is e = IsHeaderFault.no_header (λ rest begins. let other : after (codes "des") text ≡ Some rest = ap (after (codes "des")) begins
        ∙ after_complete (codes "des") rest in cc) cc
    begun (Some rest) is e = read rest (header_of rest) (after_sound (codes "des") text rest is) refl e

-- a header's numbers decide what it gives
header_in_is : (text : List ℕ) (initial transitions states : ℕ) → IsHeader text initial transitions states
    → header_in text ≡ header_within (record { initial = capped initial; transitions = capped transitions; states = capped states })
unfolding header_in
header_in_is text initial transitions states h =
    let begins = header_begins text initial transitions states h in
    let opened : after (codes "des") text ≡ Some begins.0 = ap (after (codes "des")) begins.1 ∙ after_complete (codes "des") begins.0 in
    rw (opened, header_of_complete text begins.0 initial transitions states begins.1 h) refl

pub header_in_ok-complete : (text : List ℕ) (initial transitions states : ℕ) → IsHeader text initial transitions states
    → IsWithinLimits initial transitions states
    → header_in text ≡ Ok (record { initial = initial; transitions = transitions; states = states })
header_in_ok-complete text initial transitions states h within =
    let i : capped initial ≡ initial = omega (arith, within.in_range, within.few_states) in
    let t : capped transitions ≡ transitions = omega (arith, within.few_transitions) in
    let n : capped states ≡ states = omega (arith, within.few_states) in
    header_in_is text initial transitions states h
    ∙ rw (i, t, n) (header_within-complete (record { initial = initial; transitions = transitions; states = states }) within)

header_in_absent : (text : List ℕ) (rest : Option (List ℕ)) → after (codes "des") text ≡ rest → ((rest : List ℕ) → text ≡ codes "des" ++ rest → ⊥)
    → header_in text ≡ Err NoHeader
unfolding header_in
header_in_absent text None none absent = rw none refl
header_in_absent text (Some rest) some absent = absurd (absent rest (after_sound (codes "des") text rest some))

header_in_bad : (text rest : List ℕ) (found : Option Header) → text ≡ codes "des" ++ rest → header_of rest ≡ found
    → ((initial transitions states : ℕ) → IsHeader text initial transitions states → ⊥) → header_in text ≡ Err BadHeader
unfolding header_in
header_in_bad text rest None begins none absent =
    let opened : after (codes "des") text ≡ Some rest = ap (after (codes "des")) begins ∙ after_complete (codes "des") rest in
    rw (opened, none) refl
header_in_bad text rest (Some found) begins some absent = let h = header_of_sound text rest found begins some in absurd
    (absent h.initial h.transitions h.states h.is_header)

pub header_in_err-complete : (text : List ℕ) (kind : AutKind) → IsHeaderFault text kind → header_in text ≡ Err kind
header_in_err-complete text kind (IsHeaderFault.no_header absent is) = rw is (header_in_absent text (after (codes "des") text) refl absent)
header_in_err-complete text kind (IsHeaderFault.bad_header rest begins absent is) = rw is (header_in_bad text rest (header_of rest) begins refl absent)
header_in_err-complete text kind (IsHeaderFault.too_many_states initial transitions states h many is) =
    let test : nat_lt 65536 (capped states) ≡ true = lt-ltb _ _ (omega arith) in
    header_in_is text initial transitions states h ∙ rw (test, is) refl
header_in_err-complete text kind (IsHeaderFault.too_many_transitions initial transitions states h few many is) =
    let few_states : nat_lt 65536 (capped states) ≡ false = le-ltb _ _ (omega arith) in
    let test : nat_lt 1000000 (capped transitions) ≡ true = lt-ltb _ _ (omega arith) in
    header_in_is text initial transitions states h ∙ rw (few_states, test, is) refl
header_in_err-complete text kind (IsHeaderFault.no_state initial transitions h few is) =
    let few_transitions : nat_lt 1000000 (capped transitions) ≡ false = le-ltb _ _ (omega arith) in
    header_in_is text initial transitions 0 h ∙ rw (few_transitions, is) refl
header_in_err-complete text kind (IsHeaderFault.bad_initial initial transitions states h some few_states few_transitions out is) =
    let one : nat_lt 65536 (capped states) ≡ false = le-ltb _ _ (omega arith) in
    let two : nat_lt 1000000 (capped transitions) ≡ false = le-ltb _ _ (omega arith) in
    let three : nat_eq (capped states) 0 ≡ false = ne_eqb _ _ (λ none. omega arith) in
    let four : nat_le (capped states) (capped initial) ≡ true = le-leb _ _ (omega arith) in
    header_in_is text initial transitions states h ∙ rw (one, two, three, four, is) refl
