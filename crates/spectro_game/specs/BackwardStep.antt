-- What the backward step makes of a table, said of what is covered.
use Rattle.std.specs.Prelude.{ℕ, ◌≢◌, ◌⊎◌, List, [], ◌∷◌, Contains}
use Rattle.spectro_spec.specs.System.{Label, System, HasStep, post}
use Rattle.spectro_spec.specs.Formula.{Formula}
use Rattle.spectro_spec.specs.Weighing.{Weighing, weight_of}
use Rattle.spectro_spec.specs.Price.{Price, IsAtMost}
use Rattle.spectro_spec.specs.Pricing.{price}
use Rattle.spectro_spec.specs.Notion.{Distinguishes}
use Rattle.spectro_game.specs.Update.{inverse, observe, conjoin, to_deepest, to_other, to_positive, to_negative}
use Rattle.spectro_game.specs.Divisions.{IsDivided}

-- a formula of price at most e distinguishes p from qs
abbrev pub AttackerWins : Weighing → System → ℕ → List ℕ → Price → Type 0
AttackerWins weighing system p qs e = (formula : Formula) × Distinguishes system p qs formula × IsAtMost (price weighing formula) e

-- which prices are listed for a state and a set
abbrev pub Listing : Type 1
Listing = ℕ → List ℕ → Price → Type 0

-- a price that is listed is at most e
abbrev pub ListsAtMost : Listing → ℕ → List ℕ → Price → Type 0
ListsAtMost listing p qs e = (f : Price) × listing p qs f × IsAtMost f e

-- a clause that is true at p and false at q costs at most e, positive or negative
abbrev pub AffordsClause : Listing → ℕ → ℕ → Price → Type 0
AffordsClause listing p q e =
    ((f : Price) × listing p (q ∷ []) f × IsAtMost (inverse to_other (inverse to_positive f)) e)
    ⊎ ((p ≢ q) × ((f : Price) × listing q (p ∷ []) f × IsAtMost (inverse to_other (inverse to_negative f)) e))

-- the set is divided, the left part is refuted by one clause where it is not empty, and each state of the right part by its own, all at most e
abbrev pub AffordsSplit : Listing → ℕ → List ℕ → Price → Type 0
AffordsSplit listing p qs e = (left : List ℕ) × (right : List ℕ) × IsDivided qs left right
    × (left ≢ [] → (f : Price) × listing p left f × IsAtMost (inverse to_deepest f) e)
    × ((q : ℕ) → Contains right q → AffordsClause listing p q e)

-- a price that the backward step makes of the listing is at most e
abbrev pub Affords : Weighing → System → Listing → ℕ → List ℕ → Price → Type 0
Affords weighing system listing p qs e =
    ((label : Label) × (t : ℕ) × HasStep system p label t
    × ((f : Price) × listing t (post system qs label) f × IsAtMost (inverse (observe (weight_of weighing label)) f) e))
    ⊎ ((b : Price) × AffordsSplit listing p qs b × IsAtMost (inverse conjoin b) e)

-- at the known pairs the listing covers what its own backward step makes
abbrev pub CoversItsStep : Weighing → System → (ℕ → List ℕ → Type 0) → Listing → Type 0
CoversItsStep weighing system known listing = (p : ℕ) (qs : List ℕ) (e : Price) → known p qs → Affords weighing system listing p qs e
    → ListsAtMost listing p qs e
