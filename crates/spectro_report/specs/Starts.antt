-- The start of a comparison, as the code explores it.
use Rattle.std.specs.Prelude.{ℕ, ◌≡◌, ◌≢◌, ◌<◌, List, [], ◌∷◌}
use Rattle.spectro_spec.specs.System.{System}
use Rattle.spectro_game.specs.Pairs as game
use Rattle.spectro_game.specs.Pairs.{Pair, AreReachedPairs}
use Rattle.spectro_game.specs.Reached.{StandsAt}
use Rattle.spectro_pairs.specs.Explored.{start_pairs}
use Rattle.spectro_report.specs.declared.error.ReportError.{ReportError}
use Rattle.spectro_report.specs.declared.error.ReportError.TheVariants.{TooLarge, OutOfMemory}

-- each list of the pairs that the start reaches has more positions than the limit; that memory ran out says nothing
abbrev pub IsTooLarge : System → ℕ × ℕ → ℕ → ReportError → Type 0
IsTooLarge system start limit (TooLarge most) =
    (most ≡ limit) × ((pairs : List Pair) → AreReachedPairs system (start_pairs (start ∷ [])) pairs → limit < game.size pairs)
IsTooLarge system start limit OutOfMemory = Unit {0}

-- the first pair is of two states
pub record IsTwoStates (pairs : List Pair) : Type 0 where
  pub p : ℕ
  pub q : ℕ
  pub here : StandsAt pairs 0 (record { state = p; set = q ∷ [] })
  pub apart : q ≢ p

-- the pair of the number is the first one turned round
abbrev pub IsTurned : List Pair → ℕ → Type 0
IsTurned pairs k = (p q : ℕ) → StandsAt pairs 0 (record { state = p; set = q ∷ [] }) → StandsAt pairs k (record { state = q; set = p ∷ [] })
