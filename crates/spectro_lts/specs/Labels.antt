-- The labels of steps by number.
use Rattle.std.specs.Prelude.{◌≡◌, ℕ, List, [], map, slice_get, slice_index_or, Some}
use Rattle.std.specs.Str.{bytes_eq}
use Rattle.indexmap.specs.IndexSet.{insert_all}
use Rattle.spectro_spec.specs.System.{Label, Step}

-- the labels of the steps, each once, in the order in which they first stand
abbrev pub labels_of : List Step → List Label
labels_of steps = insert_all bytes_eq [] (map (λ step. step.label) steps)

-- the label of the number; empty where there is none
abbrev pub label_of : List Step → ℕ → Label
label_of steps label_no = slice_index_or (labels_of steps) label_no []

-- the step at this place has these states, and the label of this number
pub record IsStepAt (steps : List Step) (place source label_no target : ℕ) : Type 0 where
  pub label : Label
  pub found : slice_get steps place ≡ Some (record { source = source; label = label; target = target })
  pub numbered : slice_get (labels_of steps) label_no ≡ Some label
