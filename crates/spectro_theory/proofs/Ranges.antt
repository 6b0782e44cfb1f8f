-- The numbers below n in order, each at its own place.
use Rattle.std.proofs.Common.{ℕ, ◌+◌, ◌<◌, ◌≡◌, get_or, ap, ◌∙◌, Some, Contains, arith}
use Rattle.std.specs.List.{range_with_len}
use Rattle.std.specs.List.Sorted.{IsStrictlyIncreasing}
use Rattle.std.proofs.lemmas.List.FromFn.{length-range_with_len, get_or-range_with_len}
use Rattle.std.proofs.lemmas.Option.{slice_get-get_or}
use Rattle.spectro_game.specs.Reached.{StandsAt}
use Rattle.spectro_theory.proofs.Places.{stands-below, stands-one, StandsIn-member}

pub range-stands : (n k : ℕ) → k < n → StandsAt (range_with_len 0 n) k k
range-stands n k below =
    let e : get_or (range_with_len 0 n) k 0 ≡ k = omega (arith, get_or-range_with_len 0 n k 0 below) in
    slice_get-get_or (range_with_len 0 n) k 0 (omega (arith, length-range_with_len 0 n)) ∙ ap Some e

pub range-below : (n k : ℕ) → Contains (range_with_len 0 n) k → k < n
range-below n k member =
    let found = StandsIn-member (range_with_len 0 n) k member in
    let below : found.0 < n = omega (arith, stands-below (range_with_len 0 n) found.0 k found.1, length-range_with_len 0 n) in
    let e : found.0 ≡ k = stands-one (range_with_len 0 n) found.0 found.0 k (range-stands n found.0 below) found.1 in
    omega arith

pub range-rises : (n : ℕ) → IsStrictlyIncreasing (range_with_len 0 n)
range-rises n k below =
    let size = length-range_with_len 0 n in
    omega (arith, get_or-range_with_len 0 n k 0 (omega arith), get_or-range_with_len 0 n (k + 1) 0 (omega arith))
