-- What the lines so far have given, as the code has it.
use Rattle.std.specs.Prelude.{◌≡◌, ◌≤◌, ◌<◌, [], ◌∷◌, ◌++◌, length, Option, None, Some, Result, Ok, Err}
use Rattle.spectro_spec.specs.System.{System, Step, IsLabel}
use Rattle.spectro_lts.specs.Labels.{labels_of}
use Rattle.spectro_aut.specs.Grammar.{Reading, start, steps}
use Rattle.spectro_aut.specs.declared.error.AutKind.{AutKind}
use Rattle.spectro_aut.specs.declared.header.Header.{Header}
use Rattle.spectro_aut.specs.declared.reading.NewStep.{NewStep}
use Rattle.spectro_aut.specs.declared.reading.Steps.{Steps}
use Rattle.spectro_aut.specs.declared.header.TheConstants.{MAX_STATES, MAX_TRANSITIONS}
use Rattle.spectro_aut.specs.declared.reading.TheConstants.{MAX_LABELS}

abbrev pub reading_of : Option Steps → Reading
reading_of None = start
reading_of (Some started) = steps started.header.transitions started.draft

-- the draft has the header's states, which are few, and no more steps and labels than it may have
pub record IsDraftOf (header : Header) (draft : System) : Type 0 where
  pub states : draft.states ≡ header.states
  pub few_states : header.states ≤ MAX_STATES
  pub promised : header.transitions ≤ MAX_TRANSITIONS
  pub few_steps : length draft.steps ≤ header.transitions
  pub few_labels : length (labels_of draft.steps) ≤ MAX_LABELS

abbrev pub IsWithin : Option Steps → Type 0
IsWithin None = Unit {0}
IsWithin (Some started) = IsDraftOf started.header started.draft

-- the reading behind the line, or the fault of the line
abbrev pub given : Option AutKind → Reading → Result Reading AutKind
given None reading = Ok reading
given (Some kind) reading = Err kind

-- the step of the code as a step of a system
abbrev pub step_of : Result NewStep AutKind → Result Step AutKind
step_of (Ok step) = Ok (record { source = step.source; label = step.label.now; target = step.target })
step_of (Err kind) = Err kind

-- there is room for the step behind those of the draft
pub record MayFollow (header : Header) (draft : System) (step : Step) : Type 0 where
  pub source : step.source < draft.states
  pub target : step.target < draft.states
  pub room : length draft.steps < header.transitions
  pub few_labels : length (labels_of (draft.steps ++ step ∷ [])) ≤ MAX_LABELS
  pub label : IsLabel step.label
