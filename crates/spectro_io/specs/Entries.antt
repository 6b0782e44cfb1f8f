-- The entries of a shelf in memory.
use Rattle.std.specs.Prelude.{ℕ, ◌≤◌, ◌<◌, List, [], length, map, drop, slice_get, String, Vec, string_bytes, Option, None, Some}
use Rattle.std.specs.declared.alloc.Global.{Global}
use Rattle.std.specs.Option.{option_map_or}
use Rattle.spectro_io.specs.Memory.{Named}

-- a name and its text as the code keeps them
abbrev pub Entry : Type 0
Entry = String Global × Vec ℕ Global

abbrev pub named : List Entry → List Named
named entries = map (λ entry. record { name = string_bytes entry.0; text = entry.1.items }) entries

abbrev pub text_at : List Entry → ℕ → List ℕ
text_at entries place = option_map_or (λ entry. entry.1.items) (slice_get entries place) []

-- what is left of the open text, from a place in it
abbrev pub left_of : List Entry → Option ℕ → ℕ → List ℕ
left_of entries None at = []
left_of entries (Some place) at = drop at (text_at entries place)

-- the open text is one of the entries, and the place is in it
abbrev pub IsOpenAt : List Entry → Option ℕ → ℕ → Type 0
IsOpenAt entries None at = Unit {0}
IsOpenAt entries (Some place) at = (place < length entries) × (at ≤ length (text_at entries place))
