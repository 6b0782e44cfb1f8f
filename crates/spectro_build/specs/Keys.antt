-- Listed prices by the numbers of their pairs and their places in the rows of these.
use Rattle.std.specs.Prelude.{ℕ, ◌≡◌, ◌<◌, ◌+◌, List, [], length, slice_index_or, map}
use Rattle.spectro_spec.specs.Price.{Price}
use Rattle.spectro_game.specs.Pairs.{Pair}
use Rattle.spectro_energy.specs.Energy.{price_of}
use Rattle.spectro_rows.specs.Rows.{row_at}
use Rattle.spectro_build.specs.Choices.{Need}
use Rattle.spectro_build.specs.Wanted.{pair_of}
use Rattle.spectro_build.specs.declared.key.Key.{Key}

-- the price at the place of the row of the pair
abbrev pub price_at : List (List Price) → ℕ → ℕ → Price
price_at rows pair place = slice_index_or (row_at rows pair) place (price_of [])

-- its key: its height, the number of the pair, and the place
abbrev pub key_of : Price → ℕ → ℕ → Key
key_of e pair place = record { height = e.observations + e.conjunctions; pair = pair; place = place }

-- the key of the price at the place of the row of the pair
abbrev pub key_at : List (List Price) → ℕ → ℕ → Key
key_at rows pair place = key_of (price_at rows pair place) pair place

-- there is such a place, and it is the key of the price there
pub record IsKey (rows : List (List Price)) (key : Key) : Type 0 where
  pub pair : key.pair < length rows
  pub place : key.place < length (row_at rows key.pair)
  pub value : key ≡ key_at rows key.pair key.place

-- what the key stands for: the pair of its number, at the price at its place
abbrev pub need_at : List Pair → List (List Price) → Key → Need
need_at pairs rows key = record { pair = pair_of pairs key.pair; price = price_at rows key.pair key.place }

-- what the keys stand for, in order
abbrev pub needs_at : List Pair → List (List Price) → List Key → List Need
needs_at pairs rows keys = map (need_at pairs rows) keys
