-- The lines of Aldebaran texts: a header, and a line for each step.
use Rattle.std.specs.Prelude.{ℕ, ◌≡◌, ◌<◌, ◌≤◌, true, false, List, [], ◌∷◌, ◌++◌, length, codes}
use Rattle.std.specs.List.{list_all, list_any}
use Rattle.std.specs.Str.{bytes_eq}
use Rattle.spectro_io.specs.Blanks.{is_blank, trimmed}
use Rattle.spectro_spec.specs.System.{System, Step}
use Rattle.spectro_lts.specs.Labels.{labels_of}
use Rattle.spectro_aut.specs.Fields.{IsNumberField, IsLabelField}
use Rattle.spectro_io.specs.declared.quoted.TheConstants.{MAX_LABEL_BYTES}
use Rattle.spectro_aut.specs.declared.header.TheConstants.{MAX_STATES, MAX_TRANSITIONS}
use Rattle.spectro_aut.specs.declared.reading.TheConstants.{MAX_LABELS}

-- des (INITIAL, TRANSITIONS, STATES), without blanks at its ends
pub record IsHeader (text : List ℕ) (initial transitions states : ℕ) : Type 0 where
  pub gap : List ℕ
  pub first : List ℕ
  pub second : List ℕ
  pub third : List ℕ
  pub whole : text ≡ codes "des" ++ gap ++ 40 ∷ first ++ 44 ∷ second ++ 44 ∷ third ++ 41 ∷ []
  pub blanks : list_all is_blank gap ≡ true
  pub is_initial : IsNumberField first initial
  pub is_transitions : IsNumberField second transitions
  pub is_states : IsNumberField third states

-- (SOURCE, FIELD, TARGET), without blanks at its ends; the field may have commas of its own
pub record IsTransition (text : List ℕ) (source : ℕ) (field : List ℕ) (target : ℕ) : Type 0 where
  pub first : List ℕ
  pub middle : List ℕ
  pub last : List ℕ
  pub whole : text ≡ 40 ∷ first ++ 44 ∷ middle ++ 44 ∷ last ++ 41 ∷ []
  pub is_source : IsNumberField first source
  pub is_field : field ≡ trimmed middle
  pub is_target : IsNumberField last target

-- a transition whose field is of the step's label
abbrev pub IsStepLine : List ℕ → Step → Type 0
IsStepLine text step = (field : List ℕ) × IsTransition text step.source field step.target × IsLabelField field step.label

-- the header keeps the limits
pub record IsWithinLimits (initial transitions states : ℕ) : Type 0 where
  pub few_states : states ≤ MAX_STATES
  pub few_transitions : transitions ≤ MAX_TRANSITIONS
  pub in_range : initial < states

-- both states of the step are among those of the system
abbrev pub IsInRange : System → Step → Type 0
IsInRange system step = (step.source < system.states) × (step.target < system.states)

-- the step's label is new behind as many labels as there may be
abbrev pub IsLabelTooMany : System → Step → Type 0
IsLabelTooMany system step = (MAX_LABELS ≤ length (labels_of system.steps)) × (list_any (λ other. bytes_eq step.label other.label) system.steps ≡ false)

-- the system with the step behind the others
abbrev pub with_step : System → Step → System
with_step system step = record system { steps = system.steps ++ step ∷ [] }

-- a system that has no steps so far
abbrev pub without_steps : ℕ → ℕ → System
without_steps initial states = record { states = states; initial = initial; steps = [] }

-- what lines give: no header yet, or a header that promises so many transitions, and the system so far
pub data Reading : Type 0 where
  start : Reading
  steps : ℕ → System → Reading

-- what the lines so far have given, and the line after them, which is not blank, are this together
pub data Gives (reading : Reading) (line : List ℕ) (next : Reading) : Type 0 where
  header : (initial transitions states : ℕ) → reading ≡ start → IsHeader (trimmed line) initial transitions states → IsWithinLimits initial transitions states
      → next ≡ steps transitions (without_steps initial states) → Gives reading line next
  step : (transitions : ℕ) (system : System) (step : Step) → reading ≡ steps transitions system → IsStepLine (trimmed line) step
      → length step.label ≤ MAX_LABEL_BYTES → IsInRange system step → (IsLabelTooMany system step → ⊥) → length system.steps < transitions
      → next ≡ steps transitions (with_step system step) → Gives reading line next
