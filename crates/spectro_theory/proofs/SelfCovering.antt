-- The backward step of a table: it is sound where the table is, and a table that covers it is complete.
use Rattle.std.proofs.Common.{ℕ, ◌≡◌, List, Contains}
use Rattle.spectro_spec.specs.System.{System}
use Rattle.spectro_spec.specs.Formula.{Formula}
use Rattle.spectro_spec.specs.Weighing.{Weighing}
use Rattle.spectro_spec.specs.Price.{Price}
use Rattle.spectro_spec.specs.Pricing.{price}
use Rattle.spectro_spec.specs.Notion.{Distinguishes}
use Rattle.spectro_spec.specs.LeastPrices.{Covers, Rises, AreApart, AreLeastPrices}
use Rattle.spectro_game.specs.Pairs.{Pair, IsOneOf}
use Rattle.spectro_game.specs.Generations.{Table, members_of, backward_step}
use Rattle.spectro_theory.specs.LawsOfSteps.{IsSound, IsSelfCovering}
use Rattle.spectro_theory.proofs.PriceOrder.{IsAtMost-refl}
use Rattle.spectro_theory.proofs.Followers.{closed_by_cases}
use Rattle.spectro_theory.proofs.BackwardSteps.{backward_step-affords}
use Rattle.spectro_theory.proofs.Soundness.{sound_step}
use Rattle.spectro_theory.proofs.Completeness.{complete}

pub backward_step-IsSound : (weighing : Weighing) (system : System) (table : Table) → IsSound weighing system table
    → IsSound weighing system (backward_step weighing system table)
backward_step-IsSound weighing system table sound p qs e member =
    sound_step weighing system (members_of table) sound p qs e (backward_step-affords weighing system table p qs e (e, member, IsAtMost-refl e))

module _ (weighing : Weighing) (system : System) (pairs : List Pair) (table : Table) (covering : IsSelfCovering weighing system pairs table) (p : ℕ)
    (qs : List ℕ) (known : IsOneOf pairs p qs) where
  pub self_covering-complete : (formula : Formula) → Distinguishes system p qs formula → Covers (table p qs) (price weighing formula)
  self_covering-complete formula distinguishes =
      complete weighing system (IsOneOf pairs) (members_of table)
      (closed_by_cases system (IsOneOf pairs) covering.closed) covering.covers formula p qs known distinguishes

  pub self_covering-exact : Rises (table p qs) → AreApart (table p qs)
      → ((e : Price) → Contains (table p qs) e → (formula : Formula) × Distinguishes system p qs formula × (price weighing formula ≡ e))
      → AreLeastPrices weighing system p qs (table p qs)
  self_covering-exact rises apart prices = record { rises = rises; prices = prices; covers = self_covering-complete; apart = apart }
