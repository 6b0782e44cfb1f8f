-- The buffers of a reader of lines.
use Rattle.std.specs.Prelude.{◌≡◌, ◌≤◌, vec_len, vec_capacity}
use Rattle.spectro_io.specs.declared.line_reader.LineReader.TheInside.{Inside}
use Rattle.spectro_io.specs.declared.read.TheConstants.{PIECE, READ_LIMIT}
use Rattle.spectro_io.specs.declared.line_reader.TheConstants.{BEGUN_LIMIT}

-- the piece has its bytes between its places, and each line has room
pub record HasRoom (reader : Inside) : Type 0 where
  pub taken : reader.taken ≤ READ_LIMIT
  pub piece : vec_len reader.piece ≡ PIECE
  pub end : reader.end ≤ PIECE
  pub at : reader.at ≤ reader.end
  pub begun : vec_len reader.begun ≤ BEGUN_LIMIT
  pub begun_room : BEGUN_LIMIT ≤ vec_capacity reader.begun
  pub line_room : BEGUN_LIMIT ≤ vec_capacity reader.line
