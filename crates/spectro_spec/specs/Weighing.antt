-- How much it costs to observe a label.
use Rattle.std.specs.Prelude.{ℕ, ◌≤◌, List, [], ◌∷◌, All, if◌then◌else◌}
use Rattle.std.specs.Str.{bytes_eq}
use Rattle.spectro_spec.specs.System.{Label}

pub record Weight : Type 0 where
  pub label : Label
  pub weight : ℕ

-- labels with their weights
abbrev pub Weighing : Type 0
Weighing = List Weight

-- a weight is at most 255
abbrev pub IsWeighing : Weighing → Type 0
IsWeighing weighing = All (λ entry. entry.weight ≤ 255) weighing

-- the weight that stands first for the label; a label with none weighs 1
abbrev pub weight_of : Weighing → Label → ℕ
weight_of [] label = 1
weight_of (entry ∷ weighing) label = if bytes_eq entry.label label then entry.weight else weight_of weighing label
