-- What was read of a source, where the source tells its bytes.
use Rattle.std.specs.Prelude.{ℕ, ◌≤◌, ◌<◌, List, ◌++◌, length, Option}
use Rattle.std.specs.Io.KnownBytes.{Consumes, IsAtEnd}
use Rattle.spectro_io.specs.Limits.{read_limit}

-- the bytes were taken from the front, to the end or as many as are read of a text
pub record ReadsAll (old new : Option (List ℕ)) (bytes : List ℕ) : Type 0 where
  pub front : Consumes old new bytes
  pub within : length bytes ≤ read_limit
  pub end : length bytes < read_limit → IsAtEnd new

-- some bytes were taken from the front, and no more than are read of a text
pub record TakesFront (old new : Option (List ℕ)) : Type 0 where
  pub bytes : List ℕ
  pub front : Consumes old new bytes
  pub within : length bytes ≤ read_limit

-- what bytes are read into took those of the front, to the end or as many as are read of a text
pub record ReadsInto {Intake : Type 0} (has_taken : Intake → List ℕ → Type 0) (old new : Option (List ℕ)) (before now : Intake) : Type 0 where
  pub bytes : List ℕ
  pub read : ReadsAll old new bytes
  pub taken : (taken : List ℕ) → has_taken before taken → has_taken now (taken ++ bytes)
