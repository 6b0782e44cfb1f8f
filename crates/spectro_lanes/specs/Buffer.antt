-- The members of a buffer.
use Rattle.std.specs.Prelude.{List}
use Rattle.spectro_spec.specs.Price.{Price}
use Rattle.spectro_lanes.specs.Columns.{prices_in}
use Rattle.spectro_lanes.specs.declared.buffer.Buffer.{Buffer}

-- the prices of its members, in order
abbrev pub members_of : Buffer → List Price
members_of buffer = prices_in buffer.stride buffer.numbers.items buffer.len
