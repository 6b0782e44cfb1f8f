-- Bounds as the code keeps them.
use Rattle.std.specs.Prelude.{ℕ, List, Option, None, slice_index_or}
use Rattle.spectro_spec.specs.Notion.{Bound}

-- the bound whose six parts these are, in order
abbrev pub bound_of : List (Option ℕ) → Bound
bound_of parts = record {
  observations = slice_index_or parts 0 None;
  conjunctions = slice_index_or parts 1 None;
  deepest_positive = slice_index_or parts 2 None;
  other_positive = slice_index_or parts 3 None;
  deepest_negative = slice_index_or parts 4 None;
  negations = slice_index_or parts 5 None;
}
