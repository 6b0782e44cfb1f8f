-- Members in columns: part j of member k is at j * stride + k.
use Rattle.std.specs.Prelude.{ℕ, ◌+◌, ◌*◌, ◌<◌, ◌≤◌, List, map, slice_index}
use Rattle.std.specs.List.{range_with_len}
use Rattle.spectro_spec.specs.Price.{Price}

-- the price whose parts are row k of the columns
abbrev pub price_at : ℕ → List ℕ → ℕ → Price
price_at stride numbers k = record {
  observations = slice_index numbers (0 * stride + k);
  conjunctions = slice_index numbers (1 * stride + k);
  deepest_positive = slice_index numbers (2 * stride + k);
  other_positive = slice_index numbers (3 * stride + k);
  deepest_negative = slice_index numbers (4 * stride + k);
  negations = slice_index numbers (5 * stride + k);
  weighted_depth = slice_index numbers (6 * stride + k);
}

-- the prices of the first n members
abbrev pub prices_in : ℕ → List ℕ → ℕ → List Price
prices_in stride numbers n = map (price_at stride numbers) (range_with_len 0 n)

-- k is the first place below n at which it holds, or n where there is none
pub record IsFirst (holds : ℕ → Type 0) (n k : ℕ) : Type 0 where
  pub bound : k ≤ n
  pub before : (i : ℕ) → i < k → ¬ holds i
  pub at : k < n → holds k
