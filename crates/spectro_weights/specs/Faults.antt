-- The faults of a line of a weight text. Each kind yields to those that are tested before it.
use Rattle.std.specs.Prelude.{ℕ, ◌≡◌, ◌<◌, ◌≤◌, true, false, List, length}
use Rattle.spectro_io.specs.Numbers.{number_value}
use Rattle.spectro_io.specs.QuotedLabels.{IsQuoted}
use Rattle.spectro_spec.specs.Weighing.{Weight, Weighing}
use Rattle.spectro_weights.specs.Setting.{is_set}
use Rattle.spectro_weights.specs.WeightLines.{IsWeightLine, IsEntryLine}
use Rattle.spectro_weights.specs.declared.error.WeightKind.{WeightKind}
use Rattle.spectro_weights.specs.declared.error.WeightKind.TheVariants.{BadLine, BadLabel, BadWeight, Repeated, TooManyLabels}
use Rattle.spectro_weights.specs.declared.weights.TheConstants.{MAX_LABELS}

-- the line has no label with a weight
pub data IsEntryFault (line : List ℕ) (kind : WeightKind) : Type 0 where
  bad_line : ((digits inside : List ℕ) → ¬ IsWeightLine line digits inside) → kind ≡ BadLine → IsEntryFault line kind
  bad_label : (digits inside : List ℕ) → IsWeightLine line digits inside → ((label : List ℕ) → ¬ IsQuoted inside label) → kind ≡ BadLabel
      → IsEntryFault line kind
  bad_weight : (digits inside label : List ℕ) → IsWeightLine line digits inside → IsQuoted inside label → 255 < number_value digits → kind ≡ BadWeight
      → IsEntryFault line kind

-- there is no place for the entry behind the others
pub data IsPlaceFault (weighing : Weighing) (entry : Weight) (kind : WeightKind) : Type 0 where
  repeated : is_set weighing entry.label ≡ true → kind ≡ Repeated → IsPlaceFault weighing entry kind
  too_many_labels : is_set weighing entry.label ≡ false → MAX_LABELS ≤ length weighing → kind ≡ TooManyLabels → IsPlaceFault weighing entry kind

-- the line behind what was read so far
pub data IsLineFault (weighing : Weighing) (line : List ℕ) (kind : WeightKind) : Type 0 where
  no_entry : IsEntryFault line kind → IsLineFault weighing line kind
  no_place : (entry : Weight) → IsEntryLine line entry → IsPlaceFault weighing entry kind → IsLineFault weighing line kind
