-- Weighings that are set label by label.
use Rattle.std.specs.Prelude.{ℕ, ◌≤◌, Bool, [], ◌∷◌, length, map, if◌then◌else◌}
use Rattle.std.specs.List.{list_any, IsDistinct}
use Rattle.std.specs.Str.{bytes_eq}
use Rattle.spectro_spec.specs.System.{Label}
use Rattle.spectro_spec.specs.Weighing.{Weighing, IsWeighing}
use Rattle.spectro_weights.specs.declared.weights.TheConstants.{MAX_LABELS}

-- the label has a weight of its own
abbrev pub is_set : Weighing → Label → Bool
is_set weighing label = list_any (λ entry. bytes_eq entry.label label) weighing

-- the label has this weight in place of its own, or stands with it behind the others
abbrev pub with_weight : Weighing → Label → ℕ → Weighing
with_weight [] label weight = record { label = label; weight = weight } ∷ []
with_weight (entry ∷ weighing) label weight = if bytes_eq entry.label label then record { label = entry.label; weight = weight } ∷ weighing else entry ∷
    with_weight weighing label weight

-- no label stands twice, there are few, and each weight is one of a weighing
pub record AreWeights (weighing : Weighing) : Type 0 where
  pub distinct : IsDistinct bytes_eq (map (λ entry. entry.label) weighing)
  pub few : length weighing ≤ MAX_LABELS
  pub weights : IsWeighing weighing
