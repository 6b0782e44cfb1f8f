-- Numbers that are kept by row and column.
use Rattle.std.specs.Prelude.{ℕ, ◌≡◌, ◌+◌, ◌*◌, ◌<◌, length, slice_index}
use Rattle.spectro_pairs.specs.declared.known.Known.{Known}

-- n is kept for the row and the column
pub record Knows (known : Known) (row column n : ℕ) : Type 0 where
  pub in_range : column < known.width
  pub within : row * known.width + column < length known.places.items
  pub number : slice_index known.places.items (row * known.width + column) ≡ n + 1
