-- What the steps of a reader of lines do to it.
use Rattle.std.specs.Prelude.{ℕ, ◌+◌, ◌==◌, ◌++◌, nat_lt, List, [], length, take}
use Rattle.std.specs.List.{before_first}
use Rattle.spectro_io.specs.Lines.{without_cr, after_line}
use Rattle.spectro_io.specs.LineReaders.{ReaderState}
use Rattle.spectro_io.specs.declared.lines.TheConstants.{LINE_LIMIT}

-- the reader after what is ahead, up to the first LF, went into the line that is begun
abbrev pub gathered : ReaderState → ReaderState
gathered reader = record {
  taken = reader.taken;
  begun = take (LINE_LIMIT + 2) (reader.begun ++ before_first (λ byte. byte == 10) reader.ahead);
  ahead = after_line reader.ahead;
  line = reader.line;
  cut = reader.cut;
}

-- the reader after the line that is begun was answered
abbrev pub answered : ReaderState → ReaderState
answered reader = record {
  taken = reader.taken;
  begun = [];
  ahead = reader.ahead;
  line = take LINE_LIMIT (without_cr reader.begun);
  cut = nat_lt LINE_LIMIT (length (without_cr reader.begun));
}

-- the reader after these bytes were read, where none was ahead
abbrev pub refilled : ReaderState → List ℕ → ReaderState
refilled reader bytes = record {
  taken = reader.taken + length bytes;
  begun = reader.begun;
  ahead = bytes;
  line = reader.line;
  cut = reader.cut;
}
