-- Bytes that are held back before they go to a sink.
use Rattle.std.specs.Prelude.{ℕ, ◌≡◌, List, ◌++◌, Option, Result, MatchResult}
use Rattle.std.specs.Borrow.{Bor}
use Rattle.std.specs.List.{flat_map}
use Rattle.std.specs.Io.KnownBytes.{Appends}
use Rattle.spectro_io.specs.Bytes.{AppendsPart}

-- the texts, one behind the other
abbrev pub all_of : List (Bor (List ℕ)) → List ℕ
all_of texts = flat_map (λ text. text.now) texts

-- the bytes that were written since the start, and behind them those that are held, are all of these
pub record IsPending (start now : Option (List ℕ)) (held all : List ℕ) : Type 0 where
  pub gone : List ℕ
  pub written : Appends start now gone
  pub whole : all ≡ gone ++ held

-- all of these are written or held, or at an error a proper prefix of them is written
abbrev pub Puts : {E : Type 0} → Option (List ℕ) → Option (List ℕ) → Result (Unit {0}) E → List ℕ → List ℕ → Type 0
Puts old new result held all = MatchResult result (λ _. IsPending old new held all) (λ _. AppendsPart old new all)
