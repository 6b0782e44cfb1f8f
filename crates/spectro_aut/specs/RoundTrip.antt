-- A system that is written is read back.
use Rattle.std.specs.Prelude.{ℕ, ◌≤◌, List, length, All}
use Rattle.std.specs.Str.{IsUtf8}
use Rattle.spectro_spec.specs.System.{System, IsWhole, IsLabel}
use Rattle.spectro_lts.specs.Labels.{labels_of}
use Rattle.spectro_aut.specs.Texts.{IsText}
use Rattle.spectro_aut.specs.Written.{text_of}
use Rattle.spectro_io.specs.declared.read.TheConstants.{TEXT_LIMIT}
use Rattle.spectro_aut.specs.declared.header.TheConstants.{MAX_STATES, MAX_TRANSITIONS}
use Rattle.spectro_aut.specs.declared.reading.TheConstants.{MAX_LABELS}

-- the system is whole, its states, steps and labels are few enough for a text, and each label is UTF-8, short, and without an LF
pub record KeepsLimits (system : System) : Type 0 where
  pub whole : IsWhole system
  pub few_states : system.states ≤ MAX_STATES
  pub few_steps : length system.steps ≤ MAX_TRANSITIONS
  pub few_labels : length (labels_of system.steps) ≤ MAX_LABELS
  pub are_labels : All (λ step. IsLabel step.label) system.steps
  pub are_utf8 : All (λ step. IsUtf8 step.label) system.steps

-- what is written of a system that keeps the limits is a text of it, unless it is too long
abbrev pub WrittenTextsAreRead : Type 0
WrittenTextsAreRead = (system : System) → KeepsLimits system → length (text_of system) ≤ TEXT_LIMIT → IsText (text_of system) system

-- the system of a text keeps the limits
abbrev pub TextsKeepTheLimits : Type 0
TextsKeepTheLimits = (text : List ℕ) (system : System) → IsText text system → KeepsLimits system
