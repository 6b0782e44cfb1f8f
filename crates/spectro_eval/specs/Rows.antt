-- Rows of bits, in words of 64 states each.
use Rattle.std.specs.Prelude.{ℕ, ◌*◌, ◌/◌, ◌%◌, ◌==◌, Bool, List, map, drop, length, slice_index}
use Rattle.std.specs.Int.{bit_at, div_ceil}
use Rattle.std.specs.List.{range_with_len}

-- how many words have a bit for each of the states
abbrev pub words_of : ℕ → ℕ
words_of states = div_ceil states 64

-- the bit of the state is 1
abbrev pub bit_of : List ℕ → ℕ → Bool
bit_of row state = bit_at (slice_index row (state / 64)) (state % 64) == 1

-- the bits of the states
abbrev pub bits_of : ℕ → List ℕ → List Bool
bits_of states row = map (bit_of row) (range_with_len 0 states)

-- the bits of each row, where the rows stand one behind the other
abbrev pub rows_of : ℕ → List ℕ → List (List Bool)
rows_of states words = map (λ node. bits_of states (drop (node * words_of states) words)) (range_with_len 0 (length words / words_of states))
