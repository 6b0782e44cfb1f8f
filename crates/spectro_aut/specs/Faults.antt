-- The faults of a line, and of the end of a text. Within a line each kind yields to those that are tested before it.
use Rattle.std.specs.Prelude.{ℕ, ◌≡◌, ◌<◌, ◌≤◌, List, ◌++◌, length, codes}
use Rattle.spectro_io.specs.Blanks.{trimmed}
use Rattle.spectro_spec.specs.System.{System, Step}
use Rattle.spectro_aut.specs.Fields.{IsLabelField}
use Rattle.spectro_aut.specs.Grammar.{IsHeader, IsTransition, IsStepLine, IsInRange, IsLabelTooMany, Reading, start, steps}
use Rattle.spectro_aut.specs.declared.error.AutKind.{AutKind}
use Rattle.spectro_aut.specs.declared.error.AutKind.TheVariants.{NoHeader, BadHeader, TooManyStates, TooManyTransitions, NoState, BadInitial, BadLine, BadLabel, LabelTooLong, StateRange, TooManyLabels, ExtraLine, MissingLines}
use Rattle.spectro_io.specs.declared.quoted.TheConstants.{MAX_LABEL_BYTES}
use Rattle.spectro_aut.specs.declared.header.TheConstants.{MAX_STATES, MAX_TRANSITIONS}

-- the line, trimmed, is to be the header
pub data IsHeaderFault (text : List ℕ) (kind : AutKind) : Type 0 where
  no_header : ((rest : List ℕ) → text ≡ codes "des" ++ rest → ⊥) → kind ≡ NoHeader → IsHeaderFault text kind
  bad_header : (rest : List ℕ) → text ≡ codes "des" ++ rest → ((initial transitions states : ℕ) → IsHeader text initial transitions states → ⊥)
      → kind ≡ BadHeader → IsHeaderFault text kind
  too_many_states : (initial transitions states : ℕ) → IsHeader text initial transitions states → MAX_STATES < states → kind ≡ TooManyStates
      → IsHeaderFault text kind
  too_many_transitions : (initial transitions states : ℕ) → IsHeader text initial transitions states → states ≤ MAX_STATES → MAX_TRANSITIONS < transitions
      → kind ≡ TooManyTransitions → IsHeaderFault text kind
  no_state : (initial transitions : ℕ) → IsHeader text initial transitions 0 → transitions ≤ MAX_TRANSITIONS → kind ≡ NoState → IsHeaderFault text kind
  bad_initial : (initial transitions states : ℕ) → IsHeader text initial transitions states → 0 < states → states ≤ MAX_STATES → transitions ≤ MAX_TRANSITIONS
      → states ≤ initial → kind ≡ BadInitial → IsHeaderFault text kind

-- the line, trimmed, is to be a transition behind those of the system, of which there may be so many
pub data IsStepFault (transitions : ℕ) (system : System) (text : List ℕ) (kind : AutKind) : Type 0 where
  bad_line : ((source : ℕ) (field : List ℕ) (target : ℕ) → IsTransition text source field target → ⊥) → kind ≡ BadLine
      → IsStepFault transitions system text kind
  bad_label : (source : ℕ) (field : List ℕ) (target : ℕ) → IsTransition text source field target → ((label : List ℕ) → IsLabelField field label → ⊥)
      → kind ≡ BadLabel → IsStepFault transitions system text kind
  label_too_long : (step : Step) → IsStepLine text step → MAX_LABEL_BYTES < length step.label → kind ≡ LabelTooLong → IsStepFault transitions system text kind
  state_range : (step : Step) → IsStepLine text step → length step.label ≤ MAX_LABEL_BYTES → (IsInRange system step → ⊥) → kind ≡ StateRange
      → IsStepFault transitions system text kind
  too_many_labels : (step : Step) → IsStepLine text step → length step.label ≤ MAX_LABEL_BYTES → IsInRange system step → IsLabelTooMany system step
      → kind ≡ TooManyLabels → IsStepFault transitions system text kind
  extra_line : (step : Step) → IsStepLine text step → length step.label ≤ MAX_LABEL_BYTES → IsInRange system step → (IsLabelTooMany system step → ⊥)
      → transitions ≤ length system.steps → kind ≡ ExtraLine
      → IsStepFault transitions system text kind

-- the line behind what was read so far
pub data IsLineFault (reading : Reading) (line : List ℕ) (kind : AutKind) : Type 0 where
  header : reading ≡ start → IsHeaderFault (trimmed line) kind → IsLineFault reading line kind
  step : (transitions : ℕ) (system : System) → reading ≡ steps transitions system → IsStepFault transitions system (trimmed line) kind
      → IsLineFault reading line kind

-- the text ends too early
pub data EndsEarly (reading : Reading) (kind : AutKind) : Type 0 where
  no_header : reading ≡ start → kind ≡ NoHeader → EndsEarly reading kind
  missing_lines : (transitions : ℕ) (system : System) → reading ≡ steps transitions system → length system.steps < transitions
      → kind ≡ MissingLines transitions (length system.steps) → EndsEarly reading kind
