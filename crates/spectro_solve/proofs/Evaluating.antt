-- What is made of the observations and of the splits of a pair is the backward step there.
use Rattle.std.proofs.Common.{◌≡◌, ◌⊎◌, inl, inr, List, [], subst}
use Rattle.spectro_spec.specs.System.{System}
use Rattle.spectro_spec.specs.Weighing.{Weighing}
use Rattle.spectro_spec.specs.Price.{Price}
use Rattle.spectro_spec.specs.LeastPrices.{AreApart, Covers, Rises}
use Rattle.spectro_spec.proofs.Members.{Contains-none}
use Rattle.spectro_game.specs.Pairs.{Pair}
use Rattle.spectro_game.specs.BackwardStep.{Affords}
use Rattle.spectro_game.specs.Generations.{Table, backward_step, members_of}
use Rattle.spectro_theory.proofs.BackwardSteps.{affords-backward_step, backward_step-affords, backward_step-apart, backward_step-rises}
use Rattle.spectro_theory.proofs.LeastLists.{same_by_cover}
use Rattle.spectro_solve.specs.Added.{IsAdded}
use Rattle.spectro_solve.specs.Choices.{AffordsConjunction}
use Rattle.spectro_solve.specs.Observations.{AffordsObservation}

pub evaluated : (weighing : Weighing) (system : System) (table : Table) (x : Pair) (empty mid new : List Price) → empty ≡ [] → Rises new → AreApart new
    → IsAdded (AffordsObservation weighing system table x) empty mid → IsAdded (AffordsConjunction table x) mid new
    → new ≡ backward_step weighing system table x.state x.set
evaluated weighing system table x empty mid new none rises apart first second =
    same_by_cover new (backward_step weighing system table x.state x.set) rises (backward_step-rises weighing system table x.state x.set) apart
    (backward_step-apart weighing system table x.state x.set)
    (λ e covered. affords-backward_step weighing system table x.state x.set e (there e ((second e).0 covered)))
    (λ e covered. back e (backward_step-affords weighing system table x.state x.set e covered))
  where
    there : (e : Price) → Covers mid e ⊎ AffordsConjunction table x e → Affords weighing system (members_of table) x.state x.set e
    there e (inl before) = elim ((first e).0 before) [
      | inl covered ↦ (let at = subst (λ es. Covers es e) none covered in absurd (Contains-none at.0 at.1))
      | inr observed ↦ inl observed
    ]
    there e (inr split) = inr split

    back : (e : Price) → Affords weighing system (members_of table) x.state x.set e → Covers new e
    back e (inl observed) = (second e).1 (inl ((first e).1 (inr observed)))
    back e (inr split) = (second e).1 (inr split)
