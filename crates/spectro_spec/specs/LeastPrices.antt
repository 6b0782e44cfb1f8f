-- The least prices of the formulas that distinguish a state from a set of states.
use Rattle.std.specs.Prelude.{ℕ, ◌≡◌, List, [], ◌∷◌, Contains}
use Rattle.spectro_spec.specs.System.{System}
use Rattle.spectro_spec.specs.Formula.{Formula}
use Rattle.spectro_spec.specs.Weighing.{Weighing}
use Rattle.spectro_spec.specs.Price.{Price, IsAtMost, ComesBefore}
use Rattle.spectro_spec.specs.Pricing.{price}
use Rattle.spectro_spec.specs.Notion.{Distinguishes}

-- the list covers e: some member is at most e
abbrev pub Covers : List Price → Price → Type 0
Covers es e = (f : Price) × Contains es f × IsAtMost f e

-- each member comes before all later ones
abbrev pub Rises : List Price → Type 0
Rises [] = Unit {0}
Rises (e ∷ es) = ((f : Price) → Contains es f → ComesBefore e f) × Rises es

-- no member is at most another one
abbrev pub AreApart : List Price → Type 0
AreApart es = (e f : Price) → Contains es e → Contains es f → IsAtMost e f → e ≡ f

pub record AreLeastPrices (weighing : Weighing) (system : System) (p : ℕ) (qs : List ℕ) (es : List Price) : Type 0 where
  -- the list rises strictly in lexicographic order
  pub rises : Rises es
  -- each member is the price of a formula that distinguishes p from qs
  pub prices : (e : Price) → Contains es e → (formula : Formula) × Distinguishes system p qs formula × (price weighing formula ≡ e)
  -- the price of each formula that distinguishes p from qs is covered
  pub covers : (formula : Formula) → Distinguishes system p qs formula → Covers es (price weighing formula)
  -- no member is at most another one
  pub apart : AreApart es
