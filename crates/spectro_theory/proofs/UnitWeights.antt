-- Where each label weighs 1, the weighted depth of a formula is its depth: by induction over formulas and clauses.
use Rattle.std.proofs.Common.{◌≡◌, arith, refl}
use Rattle.spectro_spec.specs.System.{Label}
use Rattle.spectro_spec.specs.Formula.{Formula, Clauses, see, all, no_clauses, plus, minus}
use Rattle.spectro_spec.specs.Weighing.{Weighing, weight_of}
use Rattle.spectro_spec.specs.Pricing.{price, priced_clauses, greatest_part}

module _ (weighing : Weighing) (unit : (label : Label) → weight_of weighing label ≡ 1) where
  mutual
    pub weighted_depth-unit : (formula : Formula) → (price weighing formula).weighted_depth ≡ (price weighing formula).observations
    weighted_depth-unit (see label formula) = omega (arith, weighted_depth-unit formula, unit label)
    weighted_depth-unit (all clauses) = greatest_part-unit clauses

    greatest_part-unit : (clauses : Clauses)
        → greatest_part (λ e. e.weighted_depth) (priced_clauses weighing clauses) ≡ greatest_part (λ e. e.observations) (priced_clauses weighing clauses)
    greatest_part-unit no_clauses = refl
    greatest_part-unit (plus formula clauses) = omega (arith, weighted_depth-unit formula, greatest_part-unit clauses)
    greatest_part-unit (minus formula clauses) = omega (arith, weighted_depth-unit formula, greatest_part-unit clauses)
