-- What contracts see of a reader of lines, and what each of its answers says.
use Rattle.std.specs.Prelude.{ℕ, ◌≡◌, ◌+◌, ◌<◌, ◌==◌, ◌++◌, nat_lt, Bool, false, List, [], length, take, Option}
use Rattle.std.specs.List.{list_any}
use Rattle.std.specs.Io.KnownBytes.{Consumes, IsAtEnd}
use Rattle.spectro_io.specs.Limits.{read_limit}
use Rattle.spectro_io.specs.Lines.{first_line, after_line}
use Rattle.spectro_io.specs.declared.lines.TheConstants.{LINE_LIMIT}

pub record ReaderState : Type 0 where
  -- how many bytes were taken from sources
  pub taken : ℕ
  -- the first bytes of the line that is begun, as many as tell what is kept of it
  pub begun : List ℕ
  -- the bytes that were taken after that
  pub ahead : List ℕ
  -- what is kept of the line that was answered last
  pub line : List ℕ
  -- that line was longer
  pub cut : Bool

-- an LF stands among the bytes
abbrev pub has_line_feed : List ℕ → Bool
has_line_feed bytes = list_any (λ byte. byte == 10) bytes

-- the reader stands for these bytes, which were taken and not answered: a line that is begun, and what is ahead
pub record Holds (reader : ReaderState) (held : List ℕ) : Type 0 where
  pub front : List ℕ
  pub unended : has_line_feed front ≡ false
  pub begun : reader.begun ≡ take (LINE_LIMIT + 2) front
  pub whole : held ≡ front ++ reader.ahead

-- these bytes were taken from the source, and what was held, with these after it, is answered so
pub record Takes (old new : ReaderState) (before after : Option (List ℕ)) (Answers : List ℕ → Type 0) : Type 0 where
  pub bytes : List ℕ
  pub front : Consumes before after bytes
  pub count : new.taken ≡ old.taken + length bytes
  pub answer : (held : List ℕ) → Holds old held → Answers (held ++ bytes)

-- the source is at its end, and fewer bytes were taken than are read of a text
pub record HasReadAll (reader : ReaderState) (after : Option (List ℕ)) : Type 0 where
  pub end : IsAtEnd after
  pub within : reader.taken < read_limit

-- the first line of the bytes is kept, and what comes after it is held; a line that no LF ends is not empty, and the last one
pub record AnswersLine (new : ReaderState) (after : Option (List ℕ)) (bytes : List ℕ) : Type 0 where
  pub line : new.line ≡ take LINE_LIMIT (first_line bytes)
  pub cut : new.cut ≡ nat_lt LINE_LIMIT (length (first_line bytes))
  pub held : Holds new (after_line bytes)
  pub some : 0 < length bytes
  pub last : has_line_feed bytes ≡ false → HasReadAll new after

-- no byte is left, and none will come
pub record AnswersEnd (new : ReaderState) (after : Option (List ℕ)) (bytes : List ℕ) : Type 0 where
  pub none : bytes ≡ []
  pub held : Holds new []
  pub all : HasReadAll new after

-- no LF stands among the bytes, and all of them are held
pub record HoldsUnended (new : ReaderState) (bytes : List ℕ) : Type 0 where
  pub unended : has_line_feed bytes ≡ false
  pub held : Holds new bytes

-- the line that was answered last stays
pub record KeepsLine (old new : ReaderState) : Type 0 where
  pub line : new.line ≡ old.line
  pub cut : new.cut ≡ old.cut
