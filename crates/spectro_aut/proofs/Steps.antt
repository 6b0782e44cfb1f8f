-- A step that is read may be added to the draft.
use Rattle.std.proofs.Common.{◌≡◌, ◌∙◌, inl, inr, ℕ, ◌≤◌, Bool, true, false, List, [], ◌∷◌, ◌++◌, length, Contains, length-append, refl, sym, subst, arith}
use Rattle.std.specs.Prelude.{Ok, Option, None, Some}
use Rattle.std.specs.List.{list_any}
use Rattle.std.specs.Str.{bytes_eq}
use Rattle.std.proofs.lemmas.Bool.{cases_lt}
use Rattle.std.proofs.lemmas.List.Elements.{Contains-append_left, Contains-append_right}
use Rattle.spectro_spec.specs.System.{System, Step}
use Rattle.spectro_spec.proofs.Members.{Contains-later}
use Rattle.spectro_io.specs.Blanks.{trimmed}
use Rattle.spectro_io.proofs.Blanks.{trims}
use Rattle.spectro_lts.specs.Labels.{labels_of}
use Rattle.spectro_lts.proofs.LabelLaws.{labels_of-push, length-labels_of_push, list_any-labels_of}
use Rattle.spectro_aut.specs.Fields.{IsLabelField, quoted, bare}
use Rattle.spectro_aut.specs.Grammar.{IsTransition, IsStepLine, IsLabelTooMany}
use Rattle.spectro_aut.specs.Reading.{step_in}
use Rattle.spectro_aut.specs.Readings.{IsDraftOf, IsWithin, MayFollow, reading_of}
use Rattle.spectro_aut.specs.declared.header.Header.{Header}
use Rattle.spectro_aut.specs.declared.reading.Steps.{Steps}
use Rattle.spectro_aut.proofs.LineLaws.{HasFewStates}
use Rattle.spectro_aut.proofs.StepLaws.{step_in_ok}

-- ---- a part of a line has no byte that the line has not
within_trimmed : (text : List ℕ) (byte : ℕ) → Contains (trimmed text) byte → Contains text byte
within_trimmed text byte within =
    let split = trims text in
    subst (λ text. Contains text byte) (sym split.whole)
    (Contains-append_right split.front (trimmed text ++ split.back) byte (Contains-append_left (trimmed text) split.back byte within))

pub trimmed-one_line : (line : List ℕ) → (Contains line 10 → ⊥) → Contains (trimmed line) 10 → ⊥
trimmed-one_line line one_line within = one_line (within_trimmed line 10 within)

within_field : (field label : List ℕ) (byte : ℕ) → IsLabelField field label → Contains label byte → Contains field byte
within_field field label byte (quoted whole) within =
    subst (λ field. Contains field byte) (sym whole) (Contains-later 34 (label ++ 34 ∷ []) byte (Contains-append_left label (34 ∷ []) byte within))
within_field field label byte (bare whole some plain) within = subst (λ field. Contains field byte) whole within

within_transition : (text : List ℕ) (source : ℕ) (field : List ℕ) (target byte : ℕ) → IsTransition text source field target → Contains field byte
    → Contains text byte
within_transition text source field target byte is within =
    let middle : Contains is.middle byte = within_trimmed is.middle byte (subst (λ field. Contains field byte) is.is_field within) in
    let ended = Contains-append_right (40 ∷ is.first) (44 ∷ is.middle) byte (Contains-later 44 is.middle byte middle) in
    subst (λ text. Contains text byte) (sym is.whole)
    (Contains-append_left (((40 ∷ is.first) ++ (44 ∷ is.middle)) ++ (44 ∷ is.last)) (41 ∷ []) byte
    (Contains-append_left ((40 ∷ is.first) ++ (44 ∷ is.middle)) (44 ∷ is.last) byte ended))

pub label-one_line : (text : List ℕ) (step : Step) → IsStepLine text step → (Contains text 10 → ⊥) → Contains step.label 10 → ⊥
label-one_line text step is one_line within =
    one_line (within_transition text step.source is.0 step.target 10 is.1 (within_field is.0 step.label 10 is.2 within))

-- ---- a label that is not new, or has a place left, keeps the labels few
pub few_labels : (system : System) (step : Step) → length (labels_of system.steps) ≤ 65536 → (IsLabelTooMany system step → ⊥)
    → length (labels_of (system.steps ++ step ∷ [])) ≤ 65536
few_labels system step few none = by (list_any (λ other. bytes_eq step.label other.label) system.steps) refl
  where
    by : (known : Bool) → list_any (λ other. bytes_eq step.label other.label) system.steps ≡ known → length (labels_of (system.steps ++ step ∷ [])) ≤ 65536
    by true e =
        let known : list_any (bytes_eq step.label) (labels_of system.steps) ≡ true = list_any-labels_of system.steps step.label ∙ e in
        rw (labels_of-push system.steps step, known) few
    by false e = elim (cases_lt (length (labels_of system.steps)) 65536) [
      | inl room ↦ omega (arith, length-labels_of_push system.steps step)
      | inr full ↦ absurd (none (full, e))
    ]

pub may_follow : (header : Header) (draft : System) (text : List ℕ) (step : Step) → IsDraftOf header draft → (Contains text 10 → ⊥)
    → step_in header.transitions draft text ≡ Ok step → MayFollow header draft step
may_follow header draft text step is_draft one_line read =
    let found = step_in_ok header.transitions draft text step (rw is_draft.states is_draft.few_states) read in
    record {
      source = found.1.in_range.0;
      target = found.1.in_range.1;
      room = found.1.few_steps;
      few_labels = few_labels draft step is_draft.few_labels found.1.few_labels;
      label = record { short = found.1.short; one_line = label-one_line text step found.0 one_line };
    }

-- the draft with the step has the header's states, and no more steps and labels than it may have
pub followed : (header : Header) (draft : System) (step : Step) → IsDraftOf header draft → MayFollow header draft step
    → IsDraftOf header (record draft { steps = draft.steps ++ step ∷ [] })
followed header draft step is_draft next = record {
  states = is_draft.states;
  few_states = is_draft.few_states;
  promised = is_draft.promised;
  few_steps = subst (λ n. n ≤ header.transitions) (sym (length-append draft.steps (step ∷ []))) (omega (arith, next.room));
  few_labels = next.few_labels;
}

-- what lines have given has few states
pub HasFewStates-within : (found : Option Steps) → IsWithin found → HasFewStates (reading_of found)
HasFewStates-within None within = tt
HasFewStates-within (Some found) within = rw within.states within.few_states
