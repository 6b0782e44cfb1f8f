-- What a call has written to a sink, where the sink tells its bytes.
use Rattle.std.specs.Prelude.{ℕ, ◌<◌, List, length, take, Option, Result, MatchResult}
use Rattle.std.specs.Io.KnownBytes.{Appends}

-- the written bytes grew by a proper prefix of these
abbrev pub AppendsPart : Option (List ℕ) → Option (List ℕ) → List ℕ → Type 0
AppendsPart old new bytes = (count : ℕ) × (count < length bytes) × Appends old new (take count bytes)

-- the written bytes grew by all of these, or at an error by a proper prefix
abbrev pub WritesWhole : {E : Type 0} → Option (List ℕ) → Option (List ℕ) → Result (Unit {0}) E → List ℕ → Type 0
WritesWhole old new result bytes = MatchResult result (λ _. Appends old new bytes) (λ _. AppendsPart old new bytes)
