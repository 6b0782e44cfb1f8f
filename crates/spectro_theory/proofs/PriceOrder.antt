-- The order of prices, and the inverse updates in it.
use Rattle.std.proofs.Common.{◌≡◌, arith}
use Rattle.spectro_spec.specs.Price.{Price, IsAtMost}
use Rattle.spectro_game.specs.Update.{Update, observe, conjoin, to_deepest, to_other, to_positive, to_negative, inverse}

pub IsAtMost-refl : (e : Price) → IsAtMost e e
IsAtMost-refl e = omega arith

pub IsAtMost-trans : {d e f : Price} → IsAtMost d e → IsAtMost e f → IsAtMost d f
IsAtMost-trans h k = omega arith

pub IsAtMost-antisym : (e f : Price) → IsAtMost e f → IsAtMost f e → e ≡ f
IsAtMost-antisym e f h k =
    let observations : e.observations ≡ f.observations = omega arith in
    let conjunctions : e.conjunctions ≡ f.conjunctions = omega arith in
    let deepest_positive : e.deepest_positive ≡ f.deepest_positive = omega arith in
    let other_positive : e.other_positive ≡ f.other_positive = omega arith in
    let deepest_negative : e.deepest_negative ≡ f.deepest_negative = omega arith in
    let negations : e.negations ≡ f.negations = omega arith in
    let weighted_depth : e.weighted_depth ≡ f.weighted_depth = omega arith in
    λ i. record {
      observations = observations i;
      conjunctions = conjunctions i;
      deepest_positive = deepest_positive i;
      other_positive = other_positive i;
      deepest_negative = deepest_negative i;
      negations = negations i;
      weighted_depth = weighted_depth i;
    }

pub inverse-monotone : (u : Update) (e f : Price) → IsAtMost e f → IsAtMost (inverse u e) (inverse u f)
inverse-monotone (observe weight) e f h = omega arith
inverse-monotone conjoin e f h = omega arith
inverse-monotone to_deepest e f h = omega arith
inverse-monotone to_other e f h = omega arith
inverse-monotone to_positive e f h = omega arith
inverse-monotone to_negative e f h = omega arith
