-- The labels of a state in the order of bytes.
use Rattle.std.specs.Prelude.{ℕ, ◌==◌, ◌&&◌, ◌||◌, nat_lt, Bool, true, false, List, [], ◌∷◌, if◌then◌else◌}
use Rattle.std.specs.Str.{bytes_eq}
use Rattle.spectro_spec.specs.System.{Label, Step}

-- whether the first text comes before the second in the order of bytes: where it ends first, or has the smaller byte where they first differ
abbrev pub is_before_text : List ℕ → List ℕ → Bool
is_before_text [] [] = false
is_before_text [] (m ∷ ms) = true
is_before_text (n ∷ ns) [] = false
is_before_text (n ∷ ns) (m ∷ ms) = nat_lt n m || ((n == m) && is_before_text ns ms)

-- the label is put in its place in rising labels, unless it stands there
abbrev pub placed_label : Label → List Label → List Label
placed_label label [] = label ∷ []
placed_label label (other ∷ others) =
    if is_before_text label other then label ∷ other ∷ others else (if bytes_eq label other then other ∷ others else other ∷ placed_label label others)

-- the labels of the steps from the state, in the order of bytes, each once
abbrev pub labels_from : List Step → ℕ → List Label
labels_from [] p = []
labels_from (step ∷ steps) p = if step.source == p then placed_label step.label (labels_from steps p) else labels_from steps p
