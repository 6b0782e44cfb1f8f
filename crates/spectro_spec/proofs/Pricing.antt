-- What each price has.
use Rattle.std.proofs.Common.{◌≤◌, arith}
use Rattle.spectro_spec.specs.Formula.{Formula, see, all}
use Rattle.spectro_spec.specs.Weighing.{Weighing}
use Rattle.spectro_spec.specs.Pricing.{price}

-- each formula ends in conjunctions
pub conjunctions-at_least_one : (weighing : Weighing) (formula : Formula) → 1 ≤ (price weighing formula).conjunctions
conjunctions-at_least_one weighing (see label formula) = conjunctions-at_least_one weighing formula
conjunctions-at_least_one weighing (all cs) = omega arith
