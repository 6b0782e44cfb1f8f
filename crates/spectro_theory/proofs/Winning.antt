-- What wins is just what is afforded over what wins: the attacker has a move that keeps the win, and each such move wins.
use Rattle.std.proofs.Common.{ℕ, inl, inr, List, arith}
use Rattle.spectro_spec.specs.System.{System}
use Rattle.spectro_spec.specs.Formula.{Formula, see, all}
use Rattle.spectro_spec.specs.Weighing.{Weighing}
use Rattle.spectro_spec.specs.Price.{Price, IsAtMost}
use Rattle.spectro_spec.specs.Pricing.{price}
use Rattle.spectro_spec.specs.Notion.{Distinguishes}
use Rattle.spectro_game.specs.BackwardStep.{AttackerWins, Affords, ListsAtMost}
use Rattle.spectro_theory.proofs.Closures.{IsClosedByCases}
use Rattle.spectro_theory.proofs.PriceOrder.{IsAtMost-refl}
use Rattle.spectro_theory.proofs.Conjunctions.{cost}
use Rattle.spectro_theory.proofs.Completeness.{Distinguishes-after, split}
use Rattle.spectro_theory.proofs.Soundness.{sound_step}

module _ (weighing : Weighing) (system : System) where
  -- the set of all pairs is closed
  all_are_closed : IsClosedByCases system (λ p qs. Unit {0})
  all_are_closed = record { observed = λ p qs label t k step. tt; subset = λ p qs left right k filled divided. tt; swapped = λ p qs q k member apart. tt }

  ListsAtMost-wins : (formula : Formula) (p : ℕ) (qs : List ℕ) → Distinguishes system p qs formula
      → ListsAtMost (AttackerWins weighing system) p qs (price weighing formula)
  ListsAtMost-wins formula p qs d = (price weighing formula, (formula, d, IsAtMost-refl (price weighing formula)), IsAtMost-refl (price weighing formula))

  wins_step_by : (p : ℕ) (qs : List ℕ) (e : Price) (formula : Formula) → Distinguishes system p qs formula → IsAtMost (price weighing formula) e
      → Affords weighing system (AttackerWins weighing system) p qs e
  wins_step_by p qs e (see label formula) d low =
      let (t, step, after) = Distinguishes-after system p qs label formula d in
      inl (label, t, step, (price weighing formula, (formula, after, IsAtMost-refl (price weighing formula)), omega arith))
  wins_step_by p qs e (all clauses) d low = inr (
    cost weighing clauses,
    split weighing system (λ p qs. Unit {0}) (AttackerWins weighing system) all_are_closed clauses
        ((λ formula h p qs k g. ListsAtMost-wins formula p qs g), (λ formula h p qs k g. ListsAtMost-wins formula p qs g)) p qs tt d.satisfied d.refuted,
    omega arith,
  )

  pub wins_step : (p : ℕ) (qs : List ℕ) (e : Price) → AttackerWins weighing system p qs e
      → Affords weighing system (AttackerWins weighing system) p qs e
  wins_step p qs e (formula, d, low) = wins_step_by p qs e formula d low

  pub wins_back : (p : ℕ) (qs : List ℕ) (e : Price) → Affords weighing system (AttackerWins weighing system) p qs e
      → AttackerWins weighing system p qs e
  wins_back p qs e h = sound_step weighing system (AttackerWins weighing system) (λ q rs f wins. wins) p qs e h
