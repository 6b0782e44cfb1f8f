-- What is read as a transition is one, and each transition is read; and so its label, where the line is UTF-8.
use Rattle.std.proofs.Common.{◌≡◌, ◌∙◌, ℕ, ◌<◌, Bool, true, false, cond, List, [], ◌∷◌, ◌++◌, length, arith, inl, inr, refl, sym, ap, subst, append_assoc}
use Rattle.std.specs.Prelude.{Option, Some, nat_lt, nat_eq, not}
use Rattle.std.specs.List.{list_any}
use Rattle.std.specs.Str.{IsUtf8, is_utf8}
use Rattle.std.proofs.lemmas.Bool.{and_from, and_parts, ltb-true, lt-ltb, not-true, not_from_false, and_right, cases_lt}
use Rattle.std.proofs.lemmas.List.{nil_from_length}
use Rattle.std.proofs.lemmas.Option.{cond_some, same_Some}
use Rattle.std.proofs.lemmas.Str.{is_utf8-from_IsUtf8}
use Rattle.spectro_io.specs.Blanks.{trimmed}
use Rattle.spectro_io.specs.Fronts.{after, ◌>>=◌}
use Rattle.spectro_io.specs.Numbers.{capped}
use Rattle.spectro_io.proofs.Blanks.{trims}
use Rattle.spectro_io.proofs.Fronts.{bind_some, after_sound}
use Rattle.spectro_io.proofs.Utf8Cuts.{utf8_before, utf8_behind, utf8_behind_blanks, utf8_before_blanks}
use Rattle.spectro_aut.specs.Fields.{IsLabelField}
use Rattle.spectro_aut.specs.Grammar.{IsTransition}
use Rattle.spectro_aut.specs.Reading.{Transition, before_last, first_split, last_split, field_number, transition_of, utf8_of, unquoted, is_bare, label_of}
use Rattle.spectro_aut.proofs.Choices.{bind_then}
use Rattle.spectro_aut.proofs.FieldLaws.{Lacks-Contains, Lacks-from_no_Contains, before_last_sound, before_last_complete, first_split_sound, first_split_complete, last_split_sound, last_split_complete, field_number_sound, field_number_complete, number_lacks_comma}

-- the transition has the field of the text, and its numbers, as far as 64 bits go
pub record IsTransitionOf (text : List ℕ) (transition : Transition) : Type 0 where
  pub source : ℕ
  pub target : ℕ
  pub is_transition : IsTransition text source transition.field target
  pub is_source : transition.source ≡ capped source
  pub is_target : transition.target ≡ capped target

-- the parts of a transition
transition_parts : (first middle last : List ℕ) → 40 ∷ first ++ 44 ∷ middle ++ 44 ∷ last ++ 41 ∷ [] ≡ 40 ∷ ((first ++ 44 ∷ (middle ++ 44 ∷ last)) ++ 41 ∷ [])
transition_parts first middle last = simp append_assoc

transition_whole : (text opened fields first others middle last : List ℕ) → text ≡ 40 ∷ opened → opened ≡ fields ++ 41 ∷ [] → fields ≡ first ++ 44 ∷ others
    → others ≡ middle ++ 44 ∷ last → text ≡ 40 ∷ first ++ 44 ∷ middle ++ 44 ∷ last ++ 41 ∷ []
transition_whole text opened fields first others middle last o z f l =
    o ∙ ap (λ l. 40 ∷ l) (z ∙ ap (λ l. l ++ 41 ∷ []) (f ∙ ap (λ l. first ++ 44 ∷ l) l)) ∙ sym (transition_parts first middle last)

transition_made : (text first middle last : List ℕ) (source target : ℕ) (transition : Transition) → text ≡ 40 ∷ first ++ 44 ∷ middle ++ 44 ∷ last ++ 41 ∷ []
    → field_number first ≡ Some source → field_number last ≡ Some target
    → ◌≡◌ {A = Option Transition} (Some (record { source = source; field = trimmed middle; target = target })) (Some transition)
    → IsTransitionOf text transition
transition_made text first middle last source target transition whole s t e =
    let is_first = field_number_sound first source s in
    let is_last = field_number_sound last target t in
    subst (IsTransitionOf text) (same_Some (record { source = source; field = trimmed middle; target = target }) transition e) (record {
      source = is_first.0;
      target = is_last.0;
      is_transition = record { first = first; middle = middle; last = last; whole = whole; is_source = is_first.1; is_field = refl; is_target = is_last.1 };
      is_source = is_first.2;
      is_target = is_last.2;
    })

pub transition_of_sound : (text : List ℕ) (transition : Transition) → transition_of text ≡ Some transition → IsTransitionOf text transition
unfolding transition_of
transition_of_sound text transition e =
    bind_then (after (40 ∷ []) text) _ transition e (λ opened o e.
    bind_then (before_last 41 opened) _ transition e (λ fields z e.
    bind_then (first_split 44 fields) _ transition e (λ first f e.
    bind_then (last_split 44 first.1) _ transition e (λ last l e.
    bind_then (field_number first.0) _ transition e (λ source s e.
    bind_then (field_number last.1) _ transition e (λ target t e.
    let whole = transition_whole text opened fields first.0 first.1 last.0 last.1 (after_sound (40 ∷ []) text opened o)
    (before_last_sound 41 opened fields z) (first_split_sound 44 fields first.0 first.1 f).0
    (last_split_sound 44 first.1 last.0 last.1 l).0 in
    transition_made text first.0 last.0 last.1 source target transition whole s t e))))))

pub transition_of_complete : (text : List ℕ) (source : ℕ) (field : List ℕ) (target : ℕ) → IsTransition text source field target
    → transition_of text ≡ Some (record { source = capped source; field = field; target = capped target })
unfolding transition_of
transition_of_complete text source field target h =
    let first = h.first in
    let middle = h.middle in
    let last = h.last in
    let others : List ℕ = middle ++ 44 ∷ last in
    let fields : List ℕ = first ++ 44 ∷ others in
    let whole : text ≡ 40 ∷ (fields ++ 41 ∷ []) = h.whole ∙ transition_parts first middle last in
    let is_field : trimmed middle ≡ field = sym h.is_field in
    rw (
      whole,
      before_last_complete 41 fields,
      first_split_complete 44 first others (number_lacks_comma first source h.is_source),
      last_split_complete 44 middle last (number_lacks_comma last target h.is_target),
      field_number_complete first source h.is_source,
      field_number_complete last target h.is_target,
      is_field,
    ) refl

-- where the field of a transition stands in its line
field_place : (front first before field behind last back : List ℕ)
    → front ++ ((40 ∷ first ++ 44 ∷ (before ++ (field ++ behind)) ++ 44 ∷ last ++ 41 ∷ []) ++ back) ≡ (front ++ 40 ∷ first) ++ 44 ∷
    (before ++ (field ++ (behind ++ 44 ∷ (last ++ 41 ∷ back))))
field_place front first before field behind last back = simp append_assoc

pub field_utf8 : (line : List ℕ) (source : ℕ) (field : List ℕ) (target : ℕ) → IsUtf8 line → IsTransition (trimmed line) source field target → IsUtf8 field
field_utf8 line source field target utf8 h =
    let outer = trims line in
    let inner = trims h.middle in
    let behind : List ℕ = h.last ++ 41 ∷ outer.back in
    let middle : h.middle ≡ inner.front ++ (field ++ inner.back) = inner.whole ∙ ap (λ l. inner.front ++ (l ++ inner.back)) (sym h.is_field) in
    let whole : line ≡ (outer.front ++ 40 ∷ h.first) ++ 44 ∷ (inner.front ++ (field ++ (inner.back ++ 44 ∷ behind))) =
    outer.whole ∙ ap (λ l. outer.front ++ (l ++ outer.back)) (h.whole ∙ ap (λ l. 40 ∷ h.first ++ 44 ∷ l ++ 44 ∷ h.last ++ 41 ∷ []) middle)
    ∙ field_place outer.front h.first inner.front field inner.back h.last outer.back in
    let opened = utf8_behind (outer.front ++ 40 ∷ h.first) 44 (inner.front ++ (field ++ (inner.back ++ 44 ∷ behind))) (omega arith) (subst IsUtf8 whole utf8) in
    utf8_before_blanks field inner.back 44 behind inner.behind (omega arith)
    (utf8_behind_blanks inner.front (field ++ (inner.back ++ 44 ∷ behind)) inner.before opened)

-- the label of a field
label_of_bare : (field label : List ℕ) → is_bare field ≡ true → utf8_of field ≡ Some label → IsLabelField field label
label_of_bare field label bare e =
    let parts = and_parts (nat_lt 0 (length field)) (not (list_any (λ byte. nat_eq byte 34) field)) bare in
    let some : 0 < length field = ltb-true _ _ parts.0 in
    let same = cond_some (is_utf8 field) field label e in
    IsLabelField.bare (sym same.1) (λ none. let empty : length field ≡ 0 = ap length none in omega arith) (Lacks-Contains field 34 (not-true _ parts.1))

label_of_quoted : (field label : List ℕ) → (unquoted field >>= utf8_of) ≡ Some label → IsLabelField field label
label_of_quoted field label e =
    let inner = bind_some (unquoted field) utf8_of label e in
    let rest = bind_some (after (34 ∷ []) field) (before_last 34) inner.0 inner.1 in
    let same = cond_some (is_utf8 inner.0) inner.0 label inner.2 in
    IsLabelField.quoted (after_sound (34 ∷ []) field rest.0 rest.1 ∙ ap (λ l. 34 ∷ l) (before_last_sound 34 rest.0 inner.0 rest.2)
    ∙ ap (λ l. 34 ∷ l ++ 34 ∷ []) same.1)

label_of_either : (field label : List ℕ) (bare : Bool) → is_bare field ≡ bare → cond bare (utf8_of field) (unquoted field >>= utf8_of) ≡ Some label
    → IsLabelField field label
label_of_either field label true is e = label_of_bare field label is e
label_of_either field label false is e = label_of_quoted field label e

pub label_of_sound : (field label : List ℕ) → label_of field ≡ Some label → IsLabelField field label
unfolding label_of
label_of_sound field label e = label_of_either field label (is_bare field) refl e

-- the label of a field of text is text
pub label_utf8 : (field label : List ℕ) → IsLabelField field label → IsUtf8 field → IsUtf8 label
label_utf8 field label (IsLabelField.quoted whole) utf8 = utf8_before label 34 [] (omega arith)
    (utf8_behind [] 34 (label ++ 34 ∷ []) (omega arith) (subst IsUtf8 whole utf8))
label_utf8 field label (IsLabelField.bare same some none) utf8 = subst IsUtf8 (sym same) utf8

pub label_of_complete : (field label : List ℕ) → IsLabelField field label → IsUtf8 field → label_of field ≡ Some label
unfolding label_of
label_of_complete field label (IsLabelField.quoted whole) utf8 =
    let rest : after (34 ∷ []) field ≡ Some (label ++ 34 ∷ []) = ap (after (34 ∷ [])) whole in
    let bare : is_bare field ≡ false = ap is_bare whole ∙ and_right (nat_lt 0 (length (34 ∷ label ++ 34 ∷ []))) false refl in
    let is : is_utf8 label ≡ true = is_utf8-from_IsUtf8 label (label_utf8 field label (IsLabelField.quoted whole) utf8) in
    rw (bare, rest, before_last_complete 34 label, is) refl
label_of_complete field label (IsLabelField.bare same some none) utf8 =
    let long : 0 < length field = elim (cases_lt 0 (length field)) [ inl p ↦ p | inr p ↦ absurd (some (nil_from_length field (omega arith))) ] in
    let bare : is_bare field ≡ true = and_from _ _ (lt-ltb 0 (length field) long) (not_from_false _ (Lacks-from_no_Contains field 34 none)) in
    let is : is_utf8 field ≡ true = is_utf8-from_IsUtf8 field utf8 in
    rw (bare, is) (ap Some (sym same))
