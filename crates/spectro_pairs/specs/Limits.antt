-- When pairs are too many.
use Rattle.std.specs.Prelude.{ℕ, ◌<◌, ◌≤◌}
use Rattle.spectro_pairs.specs.declared.error.ExploreError.{ExploreError}
use Rattle.spectro_pairs.specs.declared.error.ExploreError.TheVariants.{TooLarge, OutOfMemory}

-- where the error tells a number, it is above the limit and at most the size; for want of memory nothing is said
abbrev pub IsPastLimit : ExploreError → ℕ → ℕ → Type 0
IsPastLimit (TooLarge at_least) limit size = (limit < at_least) × (at_least ≤ size)
IsPastLimit OutOfMemory limit size = Unit {0}
