-- Rows of generations: how large their parts are, and that from as many generations on as there are pairs nothing changes.
use Rattle.std.proofs.Common.{ℕ, suc, ◌≡◌, ◌≤◌, List, [], length, All, false, refl, ◌∙◌, arith}
use Rattle.std.specs.List.{list_any}
use Rattle.std.proofs.lemmas.Bool.{false_from_ne_true}
use Rattle.std.proofs.lemmas.List.{length-map}
use Rattle.std.proofs.lemmas.List.Elements.{All-map, Contains-get_or}
use Rattle.spectro_spec.specs.System.{System}
use Rattle.spectro_spec.specs.Weighing.{Weighing, IsWeighing}
use Rattle.spectro_spec.proofs.Membership.{list_any-cases}
use Rattle.spectro_game.specs.Pairs.{Pair, IsClosed, IsOneOf}
use Rattle.spectro_game.specs.Generations.{generation}
use Rattle.spectro_game.specs.Rows.{generation_rows}
use Rattle.spectro_game.specs.Marks.{has_changed}
use Rattle.spectro_theory.specs.LawsOfGenerations.{ArePartsUpTo}
use Rattle.spectro_theory.proofs.Bounds.{generation-ArePartsUpTo}
use Rattle.spectro_theory.proofs.Locality.{has_changed-Decides}
use Rattle.spectro_theory.proofs.MappedPlaces.{map-at, map-whole}
use Rattle.spectro_theory.proofs.Places.{Contains-stands}
use Rattle.spectro_theory.proofs.Solved.{generation-still}

-- no part of a price of generation n is above n
pub rows-ArePartsUpTo : (weighing : Weighing) (system : System) (pairs : List Pair) → IsWeighing weighing → (n : ℕ)
    → All (All (ArePartsUpTo n)) (generation_rows weighing system pairs n)
unfolding generation_rows
rows-ArePartsUpTo weighing system pairs proper n = All-map (All (ArePartsUpTo n)) (λ (x : Pair). generation weighing system n x.state x.set) pairs
    (λ k d below i e inside. generation-ArePartsUpTo weighing system proper n _ _ _ (Contains-get_or _ i e inside))

module _ (weighing : Weighing) (system : System) (pairs : List Pair) (closed : IsClosed system (IsOneOf pairs)) where
  -- late generations have the same rows
  pub rows-still : (j n : ℕ) → length pairs ≤ j → length pairs ≤ n → generation_rows weighing system pairs j ≡ generation_rows weighing system pairs n
  unfolding generation_rows
  rows-still j n late later = map-whole (λ (x : Pair). generation weighing system n x.state x.set) pairs (generation_rows weighing system pairs j) []
      (length-map pairs (λ (x : Pair). generation weighing system j x.state x.set))
      (λ k x here. map-at (λ (y : Pair). generation weighing system j y.state y.set) pairs (generation_rows weighing system pairs j) k x [] refl here
      ∙ generation-still weighing system pairs closed j n late later x.state x.set (Contains-stands pairs x (k, here)))

  -- they change no list
  pub none-changed-late : (n : ℕ) → length pairs ≤ n → list_any (has_changed weighing system n) pairs ≡ false
  none-changed-late n late = false_from_ne_true (list_any (has_changed weighing system n) pairs) (λ some.
      let changed = list_any-cases (has_changed weighing system n) pairs some in
      (has_changed-Decides weighing system n changed.0 changed.0).0 changed.2
      (generation-still weighing system pairs closed (suc n) n (omega arith) late changed.0.state changed.0.set changed.1))
