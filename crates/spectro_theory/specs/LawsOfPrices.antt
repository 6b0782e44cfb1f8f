-- Laws of updates, formulas and lists of prices.
use Rattle.std.specs.Prelude.{◌≡◌, ◌≤◌, ◌↔◌, List, Contains, ◌++◌, ◌∷◌, []}
use Rattle.spectro_spec.specs.System.{Label}
use Rattle.spectro_spec.specs.Formula.{Formula}
use Rattle.spectro_spec.specs.Weighing.{Weighing, weight_of}
use Rattle.spectro_spec.specs.Price.{Price, IsAtMost}
use Rattle.spectro_spec.specs.Pricing.{price}
use Rattle.spectro_spec.specs.LeastPrices.{Covers, Rises, AreApart}
use Rattle.spectro_game.specs.Update.{Update, apply, inverse}
use Rattle.spectro_game.specs.MinimalElements.{inserted, minimal_elements}
use Rattle.spectro_theory.specs.Leaves.{Leaves}

-- the inverse at f is at most e exactly where the update can be paid from e and leaves at least f
abbrev pub InversesAreLeast : Type 0
InversesAreLeast = (u : Update) (e f : Price) → IsAtMost (inverse u f) e ↔ Leaves (apply u e) f

-- where each label weighs 1, the weighted depth of each formula is its depth of observations
abbrev pub UnitWeightsChangeNothing : Type 0
UnitWeightsChangeNothing =
    (weighing : Weighing) → ((label : Label) → weight_of weighing label ≡ 1)
    → (formula : Formula) → (price weighing formula).weighted_depth ≡ (price weighing formula).observations

-- no other positive clause is deeper than the deepest
abbrev pub OthersAreNoDeeper : Type 0
OthersAreNoDeeper = (weighing : Weighing) (formula : Formula) → (price weighing formula).other_positive ≤ (price weighing formula).deepest_positive

-- the minimal elements rise and are apart, and each is a member
pub record AreMinimal (es fs : List Price) : Type 0 where
  pub rises : Rises fs
  pub apart : AreApart fs
  pub members : (e : Price) → Contains fs e → Contains es e
  -- and some is at most each member
  pub covers : (e : Price) → Contains es e → Covers fs e

abbrev pub MinimalElementsAreMinimal : Type 0
MinimalElementsAreMinimal = (es : List Price) → AreMinimal es (minimal_elements es)

-- only one list is
abbrev pub MinimalElementsAreOne : Type 0
MinimalElementsAreOne = (es fs : List Price) → AreMinimal es fs → fs ≡ minimal_elements es

-- lists that cover alike have the same minimal elements
abbrev pub MinimalElementsAreByCover : Type 0
MinimalElementsAreByCover = (es fs : List Price) → ((e : Price) → Covers es e ↔ Covers fs e) → minimal_elements es ≡ minimal_elements fs

-- one more at the end of a list is inserted into its minimal elements
abbrev pub MinimalElementsGrow : Type 0
MinimalElementsGrow = (es : List Price) (e : Price) → minimal_elements (es ++ e ∷ []) ≡ inserted e (minimal_elements es)
