-- Sets of pairs that are closed under what the backward step looks at, case by case.
use Rattle.std.proofs.Common.{ℕ, ◌≢◌, List, [], ◌∷◌, Contains}
use Rattle.spectro_spec.specs.System.{Label, System, HasStep, post}
use Rattle.spectro_game.specs.Divisions.{IsDivided}

-- the known pairs have with each the pairs after a step, its subsets and its swaps
pub record IsClosedByCases (system : System) (known : ℕ → List ℕ → Type 0) : Type 0 where
  pub observed : (p : ℕ) (qs : List ℕ) (label : Label) (t : ℕ) → known p qs → HasStep system p label t → known t (post system qs label)
  pub subset : (p : ℕ) (qs left right : List ℕ) → known p qs → left ≢ [] → IsDivided qs left right → known p left
  pub swapped : (p : ℕ) (qs : List ℕ) (q : ℕ) → known p qs → Contains qs q → p ≢ q → known q (p ∷ [])
