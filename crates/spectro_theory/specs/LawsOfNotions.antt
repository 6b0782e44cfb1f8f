-- What a list of least prices says of notions.
use Rattle.std.specs.Prelude.{ℕ, ◌≡◌, ◌++◌, ◌↔◌, List, ◌∷◌, [], Contains}
use Rattle.spectro_spec.specs.System.{System}
use Rattle.spectro_spec.specs.Formula.{Formula}
use Rattle.spectro_spec.specs.Weighing.{Weighing}
use Rattle.spectro_spec.specs.Price.{Price, IsAtMost, ComesBefore}
use Rattle.spectro_spec.specs.Pricing.{price}
use Rattle.spectro_spec.specs.Notion.{Bound, IsWithin, IsBelow, Distinguishes, Holds}
use Rattle.spectro_spec.specs.LeastPrices.{AreLeastPrices}

-- a state and a set have at most one list of least prices
abbrev pub LeastPricesAreOne : Type 0
LeastPricesAreOne =
    (weighing : Weighing) (system : System) (p : ℕ) (qs : List ℕ) (es fs : List Price)
    → AreLeastPrices weighing system p qs es → AreLeastPrices weighing system p qs fs → es ≡ fs

-- a state and a set have a list of least prices
abbrev pub LeastPricesExist : Type 0
LeastPricesExist = (weighing : Weighing) (system : System) (p : ℕ) (qs : List ℕ) → (es : List Price) × AreLeastPrices weighing system p qs es

-- a distinguishing formula that costs at most a least price costs just that
abbrev pub LeastPricesAreReached : Type 0
LeastPricesAreReached =
    (weighing : Weighing) (system : System) (p : ℕ) (qs : List ℕ) (es : List Price) → AreLeastPrices weighing system p qs es → (e : Price) → Contains es e
    → (formula : Formula) → Distinguishes system p qs formula → IsAtMost (price weighing formula) e → price weighing formula ≡ e

-- the notion holds exactly where no least price is within its bound
abbrev pub NotionsHoldByLeastPrices : Type 0
NotionsHoldByLeastPrices =
    (weighing : Weighing) (system : System) (p q : ℕ) (es : List Price) (bound : Bound) → AreLeastPrices weighing system p (q ∷ []) es
    → Holds weighing bound system p q ↔ ((e : Price) → Contains es e → ¬ IsWithin e bound)

-- the first member within the bound: no earlier one is
pub record IsFirstWithin (bound : Bound) (es : List Price) (e : Price) : Type 0 where
  pub before : List Price
  pub after : List Price
  pub whole : es ≡ before ++ e ∷ after
  pub within : IsWithin e bound
  pub none_before : (f : Price) → Contains before f → ¬ IsWithin f bound

-- the first least price within the bound is that of a distinguishing formula, no distinguishing formula undercuts it, and none within the bound comes before it
pub record IsShown (weighing : Weighing) (system : System) (p q : ℕ) (bound : Bound) (e : Price) : Type 0 where
  pub formula : Formula
  pub distinguishes : Distinguishes system p (q ∷ []) formula
  pub paid : price weighing formula ≡ e
  pub least : (other : Formula) → Distinguishes system p (q ∷ []) other → IsAtMost (price weighing other) e → price weighing other ≡ e
  pub first : (other : Formula) → Distinguishes system p (q ∷ []) other → IsWithin (price weighing other) bound → ¬ ComesBefore (price weighing other) e

abbrev pub FirstWithinIsShown : Type 0
FirstWithinIsShown =
    (weighing : Weighing) (system : System) (p q : ℕ) (es : List Price) (bound : Bound) (e : Price) → AreLeastPrices weighing system p (q ∷ []) es
    → IsFirstWithin bound es e → IsShown weighing system p q bound e

-- where a greater bound holds, so does each smaller one
abbrev pub SmallerBoundsHoldMore : Type 0
SmallerBoundsHoldMore = (weighing : Weighing) (system : System) (bound other : Bound) (p q : ℕ) → IsBelow bound other → Holds weighing other system p q
    → Holds weighing bound system p q
