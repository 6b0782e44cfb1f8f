-- What is won in at most k rounds is just what generation k covers: by induction over the rounds.
use Rattle.std.proofs.Common.{ℕ, zero, suc, List}
use Rattle.std.specs.Prelude.{◌↔◌}
use Rattle.spectro_spec.specs.System.{System}
use Rattle.spectro_spec.specs.Weighing.{Weighing}
use Rattle.spectro_spec.specs.Price.{Price}
use Rattle.spectro_spec.specs.LeastPrices.{Covers}
use Rattle.spectro_game.specs.Generations.{members_of, generation}
use Rattle.spectro_theory.specs.LawsOfGenerations.{IsWonWithin}
use Rattle.spectro_theory.proofs.PriceOrder.{IsAtMost-refl}
use Rattle.spectro_theory.proofs.GenerationTables.{AreGenerations}
use Rattle.spectro_theory.proofs.BackwardSteps.{generation-AreGenerations}
use Rattle.spectro_theory.proofs.Locality.{Affords-grows}

module _ (weighing : Weighing) (system : System) where
  abbrev tables : AreGenerations weighing system (generation weighing system)
  tables = generation-AreGenerations weighing system

  covered : (k p : ℕ) (qs : List ℕ) (e : Price) → IsWonWithin weighing system k p qs e → Covers (generation weighing system k p qs) e
  unfolding IsWonWithin
  covered zero p qs e won = absurd won
  covered (suc k) p qs e won = tables.covers k p qs e
      (Affords-grows weighing system (IsWonWithin weighing system k) (members_of (generation weighing system k)) p qs
      (λ p' qs' f follows here. covered k p' qs' f here) e won)

  won : (k p : ℕ) (qs : List ℕ) (e : Price) → Covers (generation weighing system k p qs) e → IsWonWithin weighing system k p qs e
  unfolding IsWonWithin
  won zero p qs e here = absurd (tables.empty p qs here.0 here.1)
  won (suc k) p qs e here = Affords-grows weighing system (members_of (generation weighing system k)) (IsWonWithin weighing system k) p qs
      (λ p' qs' f follows member. (f, won k p' qs' f (f, member, IsAtMost-refl f), IsAtMost-refl f)) e (tables.affords k p qs e here)

  pub IsWonWithin-iff : (k p : ℕ) (qs : List ℕ) (e : Price) → IsWonWithin weighing system k p qs e ↔ Covers (generation weighing system k p qs) e
  IsWonWithin-iff k p qs e = (covered k p qs e, won k p qs e)
