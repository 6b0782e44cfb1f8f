-- What is read as the line of a step is one, each such line is read, and each fault of one is told.
use Rattle.std.proofs.Common.{◌≡◌, ◌∙◌, ℕ, ◌<◌, ◌≤◌, Bool, true, false, List, length, arith, inl, inr, refl, sym, ap, subst}
use Rattle.std.specs.Prelude.{Option, None, Some, Ok, Err, nat_lt, nat_le, not, ◌||◌, ◌&&◌}
use Rattle.std.specs.List.{list_any}
use Rattle.std.specs.Str.{bytes_eq, IsUtf8}
use Rattle.std.proofs.lemmas.Bool.{both_ways, true_from_ne_false, ltb-true, ltb-false, leb-true, leb-false, lt-ltb, le-ltb, le-leb, lt-leb, or_parts, or_from, and_parts, and_from, not-true, not_from_false, false_from_ne_true}
use Rattle.spectro_io.specs.Numbers.{capped}
use Rattle.spectro_spec.specs.System.{System, Step}
use Rattle.spectro_lts.specs.Labels.{labels_of}
use Rattle.spectro_aut.specs.Fields.{IsLabelField}
use Rattle.spectro_aut.specs.Grammar.{IsTransition, IsStepLine, IsInRange, IsLabelTooMany}
use Rattle.spectro_aut.specs.Faults.{IsStepFault}
use Rattle.spectro_aut.specs.Reading.{Transition, transition_of, label_of, step_within, label_read, transition_read, step_in}
use Rattle.spectro_aut.specs.declared.error.AutKind.{AutKind}
use Rattle.spectro_aut.specs.declared.error.AutKind.TheVariants.{BadLine, BadLabel, LabelTooLong, StateRange, TooManyLabels, ExtraLine}
use Rattle.spectro_aut.proofs.Choices.{choice_ok, choice_err}
use Rattle.spectro_aut.proofs.TransitionLaws.{IsTransitionOf, transition_of_sound, transition_of_complete, label_of_sound, label_of_complete}

-- the field of each transition that the text may be is UTF-8
abbrev pub HasTextField : List ℕ → Type 0
HasTextField text = (source : ℕ) (field : List ℕ) (target : ℕ) → IsTransition text source field target → IsUtf8 field

-- what the tests of a step say
abbrev pub is_out : System → Step → Bool
is_out system step = nat_le system.states step.source || nat_le system.states step.target

abbrev pub is_label_too_many : System → Step → Bool
is_label_too_many system step = nat_le 65536 (length (labels_of system.steps)) && not (list_any (λ other. bytes_eq step.label other.label) system.steps)

-- the step as 64 bits have it
abbrev pub capped_step : Step → Step
capped_step step = record { source = capped step.source; label = step.label; target = capped step.target }

-- of few states, a number beyond 64 bits is none of them either way
in_range_from_test : (system : System) (step : Step) → system.states ≤ 65536 → is_out system (capped_step step) ≡ false → IsInRange system step
in_range_from_test system step few e =
    let parts = or_parts (nat_le system.states (capped step.source)) (nat_le system.states (capped step.target)) e in
    let source = leb-false _ _ parts.0 in
    let target = leb-false _ _ parts.1 in
    (omega arith, omega arith)

in_range_test : (system : System) (step : Step) → system.states ≤ 65536 → IsInRange system step → is_out system (capped_step step) ≡ false
in_range_test system step few inside =
    let source = inside.0 in
    let target = inside.1 in
    or_from _ _ (lt-leb system.states (capped step.source) (omega arith)) (lt-leb system.states (capped step.target) (omega arith))

capped_step_in_range : (system : System) (step : Step) → system.states ≤ 65536 → IsInRange system step → capped_step step ≡ step
capped_step_in_range system step few inside =
    let source : capped step.source ≡ step.source = let below = inside.0 in omega arith in
    let target : capped step.target ≡ step.target = let below = inside.1 in omega arith in
    rw (source, target) refl

too_many_from_test : (system : System) (step : Step) → is_label_too_many system step ≡ true → IsLabelTooMany system step
too_many_from_test system step e = let parts = and_parts (nat_le 65536 (length (labels_of system.steps)))
    (not (list_any (λ other. bytes_eq step.label other.label) system.steps)) e in (leb-true _ _ parts.0, not-true _ parts.1)

too_many_test : (system : System) (step : Step) → IsLabelTooMany system step → is_label_too_many system step ≡ true
too_many_test system step many = and_from _ _ (le-leb _ _ many.0) (not_from_false _ many.1)

-- a step that may follow those of the system
pub record IsFollowing (transitions : ℕ) (system : System) (step : Step) : Type 0 where
  pub short : length step.label ≤ 8192
  pub in_range : IsInRange system step
  pub few_labels : IsLabelTooMany system step → ⊥
  pub few_steps : length system.steps < transitions

step_within_ok : (transitions : ℕ) (system : System) (step next : Step) → system.states ≤ 65536
    → step_within transitions system (capped_step step) ≡ Ok next → IsFollowing transitions system step × (next ≡ step)
step_within_ok transitions system step next few e =
    let short = choice_ok (nat_lt 8192 (length step.label)) LabelTooLong _ next e in
    let inside = choice_ok (is_out system (capped_step step)) StateRange _ next short.1 in
    let labels = choice_ok (is_label_too_many system step) TooManyLabels _ next inside.1 in
    let steps = choice_ok (nat_le transitions (length system.steps)) ExtraLine (Ok (capped_step step)) next labels.1 in
    let in_range = in_range_from_test system step few inside.0 in (
      record {
        short = ltb-false _ _ short.0;
        in_range = in_range;
        few_labels = λ many. both_ways _ labels.0 (too_many_test system step many);
        few_steps = leb-false _ _ steps.0;
      },
      let same = steps.1 in let read : next ≡ capped_step step = cc in read ∙ capped_step_in_range system step few in_range,
    )

step_within-complete : (transitions : ℕ) (system : System) (step : Step) → system.states ≤ 65536 → IsFollowing transitions system step
    → step_within transitions system (capped_step step) ≡ Ok step
step_within-complete transitions system step few h =
    let short : nat_lt 8192 (length step.label) ≡ false = le-ltb _ _ h.short in
    let inside : is_out system (capped_step step) ≡ false = in_range_test system step few h.in_range in
    let labels : is_label_too_many system step ≡ false = false_from_ne_true _ (λ many. h.few_labels (too_many_from_test system step many)) in
    let steps : nat_le transitions (length system.steps) ≡ false = lt-leb _ _ h.few_steps in
    rw (short, inside, labels, steps) (ap Ok (capped_step_in_range system step few h.in_range))

step_within_err : (transitions : ℕ) (system : System) (text : List ℕ) (step : Step) (kind : AutKind) → system.states ≤ 65536 → IsStepLine text step
    → step_within transitions system (capped_step step) ≡ Err kind → IsStepFault transitions system text kind
step_within_err transitions system text step kind few line e =
    elim (choice_err (nat_lt 8192 (length step.label)) LabelTooLong _ kind e) [
      | inl found ↦ IsStepFault.label_too_long step line (ltb-true _ _ found.0) found.1
      | inr short ↦ elim (choice_err (is_out system (capped_step step)) StateRange _ kind short.1) [
        | inl found ↦ IsStepFault.state_range step line (ltb-false _ _ short.0) (λ inside. both_ways _ (in_range_test system step few inside) found.0) found.1
        | inr inside ↦ elim (choice_err (is_label_too_many system step) TooManyLabels _ kind inside.1) [
          | inl found ↦ IsStepFault.too_many_labels step line (ltb-false _ _ short.0) (in_range_from_test system step few inside.0)
              (too_many_from_test system step found.0) found.1
          | inr labels ↦ elim (choice_err (nat_le transitions (length system.steps)) ExtraLine (Ok (capped_step step)) kind labels.1) [
            | inl found ↦
                let in_range = in_range_from_test system step few inside.0 in
                IsStepFault.extra_line step line (ltb-false _ _ short.0) in_range (λ many. both_ways _ labels.0 (too_many_test system step many))
                (leb-true _ _ found.0) found.1
            | inr steps ↦ let other = steps.1 in cc
          ]
        ]
      ]
    ]

-- the step of a transition with the label, and the same as 64 bits have it
abbrev pub step_with : Transition → List ℕ → Step
step_with transition label = record { source = transition.source; label = label; target = transition.target }

abbrev pub line_step : {text : List ℕ} {transition : Transition} → IsTransitionOf text transition → List ℕ → Step
line_step h label = record { source = h.source; label = label; target = h.target }

line_step-capped : (text : List ℕ) (transition : Transition) (h : IsTransitionOf text transition) (label : List ℕ)
    → step_with transition label ≡ capped_step (line_step h label)
line_step-capped text transition h label =
    let source = h.is_source in
    let target = h.is_target in
    rw (source, target) refl

line_step-is : (text : List ℕ) (transition : Transition) (h : IsTransitionOf text transition) (label : List ℕ) → label_of transition.field ≡ Some label
    → IsStepLine text (line_step h label)
line_step-is text transition h label is = (transition.field, h.is_transition, label_of_sound transition.field label is)

-- what was read of the line of a step
pub step_in_ok : (transitions : ℕ) (system : System) (text : List ℕ) (step : Step) → system.states ≤ 65536 → step_in transitions system text ≡ Ok step
    → IsStepLine text step × IsFollowing transitions system step
unfolding step_in
step_in_ok transitions system text step few e = read (transition_of text) refl e
  where
    labelled : (transition : Transition) (label : Option (List ℕ)) → IsTransitionOf text transition → label_of transition.field ≡ label
        → label_read transitions system transition label ≡ Ok step → IsStepLine text step × IsFollowing transitions system step
    labelled transition None h is e = cc
    labelled transition (Some label) h is e =
        let within = step_within_ok transitions system (line_step h label) step few
        (ap (step_within transitions system) (sym (line_step-capped text transition h label)) ∙ e) in
        subst (λ step. IsStepLine text step × IsFollowing transitions system step) (sym within.1) (line_step-is text transition h label is, within.0)

    read : (transition : Option Transition) → transition_of text ≡ transition → transition_read transitions system transition ≡ Ok step
        → IsStepLine text step × IsFollowing transitions system step
    read None is e = cc
    read (Some transition) is e = labelled transition (label_of transition.field) (transition_of_sound text transition is) refl e

pub step_in_err : (transitions : ℕ) (system : System) (text : List ℕ) (kind : AutKind) → system.states ≤ 65536 → HasTextField text
    → step_in transitions system text ≡ Err kind → IsStepFault transitions system text kind
unfolding step_in
step_in_err transitions system text kind few fields e = read (transition_of text) refl e
  where
    labelled : (transition : Transition) (label : Option (List ℕ)) → IsTransitionOf text transition → label_of transition.field ≡ label
        → label_read transitions system transition label ≡ Err kind → IsStepFault transitions system text kind
    labelled transition None h is e =
        IsStepFault.bad_label h.source transition.field h.target h.is_transition
        (λ label field. let other = label_of_complete transition.field label field (fields h.source transition.field h.target h.is_transition) in cc) cc
    labelled transition (Some label) h is e =
        step_within_err transitions system text (line_step h label) kind few (line_step-is text transition h label is)
        (ap (step_within transitions system) (sym (line_step-capped text transition h label)) ∙ e)

    read : (transition : Option Transition) → transition_of text ≡ transition → transition_read transitions system transition ≡ Err kind
        → IsStepFault transitions system text kind
    read None is e = IsStepFault.bad_line (λ source field target h. let other = transition_of_complete text source field target h in cc) cc
    read (Some transition) is e = labelled transition (label_of transition.field) (transition_of_sound text transition is) refl e

-- a step's line decides which step is tested
step_in_is : (transitions : ℕ) (system : System) (text : List ℕ) (step : Step) → HasTextField text → IsStepLine text step
    → step_in transitions system text ≡ step_within transitions system (capped_step step)
unfolding step_in
step_in_is transitions system text step fields line =
    let field = line.0 in
    let read : transition_of text ≡ Some
    (record { source = capped step.source; field = field; target = capped step.target }) = transition_of_complete text step.source field step.target
    line.1 in
    let label : label_of field ≡ Some step.label = label_of_complete field step.label line.2 (fields step.source field step.target line.1) in
    rw (read, label) refl

pub step_in_ok-complete : (transitions : ℕ) (system : System) (text : List ℕ) (step : Step) → system.states ≤ 65536 → HasTextField text
    → IsStepLine text step → IsFollowing transitions system step → step_in transitions system text ≡ Ok step
step_in_ok-complete transitions system text step few fields line follows = step_in_is transitions system text step fields line
    ∙ step_within-complete transitions system step few follows

step_in_bad_line : (transitions : ℕ) (system : System) (text : List ℕ) (found : Option Transition) → transition_of text ≡ found
    → ((source : ℕ) (field : List ℕ) (target : ℕ) → IsTransition text source field target → ⊥) → step_in transitions system text ≡ Err BadLine
unfolding step_in
step_in_bad_line transitions system text None none absent = rw none refl
step_in_bad_line transitions system text (Some found) some absent = let h = transition_of_sound text found some in absurd
    (absent h.source found.field h.target h.is_transition)

step_in_bad_label : (transitions : ℕ) (system : System) (text : List ℕ) (source : ℕ) (field : List ℕ) (target : ℕ) (found : Option (List ℕ))
    → IsTransition text source field target → label_of field ≡ found → ((label : List ℕ) → IsLabelField field label → ⊥)
    → step_in transitions system text ≡ Err BadLabel
unfolding step_in
step_in_bad_label transitions system text source field target None h none absent =
    let read : transition_of text ≡ Some
    (record { source = capped source; field = field; target = capped target }) = transition_of_complete text source field target h in
    rw (read, none) refl
step_in_bad_label transitions system text source field target (Some found) h some absent = absurd (absent found (label_of_sound field found some))

pub step_in_err-complete : (transitions : ℕ) (system : System) (text : List ℕ) (kind : AutKind) → system.states ≤ 65536 → HasTextField text
    → IsStepFault transitions system text kind → step_in transitions system text ≡ Err kind
step_in_err-complete transitions system text kind few fields (IsStepFault.bad_line absent is) = step_in_bad_line transitions system text
    (transition_of text) refl absent ∙ ap Err (sym is)
step_in_err-complete transitions system text kind few fields
    (IsStepFault.bad_label source field target h absent is) = step_in_bad_label transitions system text source field target (label_of field) h refl absent
    ∙ ap Err (sym is)
step_in_err-complete transitions system text kind few fields (IsStepFault.label_too_long step line long is) =
    let one : nat_lt 8192 (length step.label) ≡ true = lt-ltb _ _ long in
    step_in_is transitions system text step fields line ∙ rw (one, is) refl
step_in_err-complete transitions system text kind few fields (IsStepFault.state_range step line short out is) =
    let one : nat_lt 8192 (length step.label) ≡ false = le-ltb _ _ short in
    let two : is_out system (capped_step step) ≡ true = true_from_ne_false _ (λ test. out (in_range_from_test system step few test)) in
    step_in_is transitions system text step fields line ∙ rw (one, two, is) refl
step_in_err-complete transitions system text kind few fields (IsStepFault.too_many_labels step line short inside many is) =
    let one : nat_lt 8192 (length step.label) ≡ false = le-ltb _ _ short in
    let two : is_out system (capped_step step) ≡ false = in_range_test system step few inside in
    let three : is_label_too_many system step ≡ true = too_many_test system step many in
    step_in_is transitions system text step fields line ∙ rw (one, two, three, is) refl
step_in_err-complete transitions system text kind few fields (IsStepFault.extra_line step line short inside labels full is) =
    let one : nat_lt 8192 (length step.label) ≡ false = le-ltb _ _ short in
    let two : is_out system (capped_step step) ≡ false = in_range_test system step few inside in
    let three : is_label_too_many system step ≡ false = false_from_ne_true _ (λ many. labels (too_many_from_test system step many)) in
    let four : nat_le transitions (length system.steps) ≡ true = le-leb _ _ full in
    step_in_is transitions system text step fields line ∙ rw (one, two, three, four, is) refl
