-- Steps as the code keeps them, with the numbers of their labels.
use Rattle.std.specs.Prelude.{◌≡◌, ℕ, ◌<◌, ◌≤◌, List, [], ◌++◌, length, Some, map, slice_get, All, String, string_bytes}
use Rattle.std.specs.declared.alloc.Global.{Global}
use Rattle.std.specs.Option.{option_map_or}
use Rattle.std.specs.Str.{bytes_eq}
use Rattle.indexmap.specs.IndexSet.{insert_key}
use Rattle.spectro_spec.specs.System as spec
use Rattle.spectro_spec.specs.System.{IsLabel}
use Rattle.spectro_lts.specs.Labels.{labels_of}
use Rattle.spectro_lts.specs.declared.step.Step.{Step}
use Rattle.spectro_lts.specs.declared.draft.TheConstants.{MAX_LABELS, MAX_STATES, MAX_STEPS}

-- the label of this number
abbrev pub label_at : List (String Global) → ℕ → spec.Label
label_at labels label_no = option_map_or string_bytes (slice_get labels label_no) []

-- the step with the text of its label
abbrev pub labelled : List (String Global) → Step → spec.Step
labelled labels step = record { source = step.from; label = label_at labels step.label; target = step.to }

abbrev pub steps_of : List (String Global) → List Step → List spec.Step
steps_of labels steps = map (labelled labels) steps

-- the states are in range, each step has a label, and the labels are those of the steps, none of them too long
pub record IsNumbered (states first : ℕ) (labels : List (String Global)) (steps : List Step) : Type 0 where
  pub few_states : states ≤ MAX_STATES
  pub initial : first < states
  pub few_steps : length steps ≤ MAX_STEPS
  pub few_labels : length labels ≤ MAX_LABELS
  pub sources : All (λ step. step.from < states) steps
  pub targets : All (λ step. step.to < states) steps
  pub numbers : All (λ step. step.label < length labels) steps
  pub short_labels : All (λ label. IsLabel (string_bytes label)) labels
  pub in_order : map string_bytes labels ≡ labels_of (steps_of labels steps)

-- the labels are the old ones, and behind them the label unless it stood there; this is its number
pub record GivesNumber (old : List (String Global)) (label : spec.Label) (new : List (String Global)) (label_no : ℕ) : Type 0 where
  pub more : List (String Global)
  pub front : new ≡ old ++ more
  pub few : length more ≤ 1
  pub alike : All (λ key. string_bytes key ≡ label) more
  pub labels : map string_bytes new ≡ insert_key bytes_eq (map string_bytes old) label
  pub found : slice_get (map string_bytes new) label_no ≡ Some label
