-- The law of updates: the inverse of an update at f is at most e just where the update is defined at e and leaves at least f.
use Rattle.std.proofs.Common.{◌-◌, ◌≡◌, ◌==◌, ◌||◌, ◌↔◌, inl, inr, min, nat_lt, arith, refl, Some, None, Bool, true, false, cond}
use Rattle.std.proofs.lemmas.Bool.{eqb-true, eqb-false, ltb-true, ltb-false, or_cases, or_parts}
use Rattle.spectro_spec.specs.Price.{Price, IsAtMost}
use Rattle.spectro_game.specs.Update.{Update, observe, conjoin, to_deepest, to_other, to_positive, to_negative, inverse, apply}
use Rattle.spectro_theory.specs.Leaves.{Leaves}

-- where the test that refuses fails, what is left is left
Leaves-paid : (refused : Bool) (e f : Price) → ¬ (refused ≡ true) → IsAtMost f e → Leaves (cond refused None (Some e)) f
Leaves-paid true e f paid h = absurd (paid refl)
Leaves-paid false e f paid h = h

paid_from_leaves : (refused : Bool) (e f : Price) → Leaves (cond refused None (Some e)) f → (refused ≡ false) × IsAtMost f e
paid_from_leaves true e f h = absurd h
paid_from_leaves false e f h = (refl, h)

pub leaves : (u : Update) (e f : Price) → IsAtMost (inverse u f) e → Leaves (apply u e) f
leaves (observe weight) e f h =
    let left : Price = record e { observations = e.observations - 1; weighted_depth = e.weighted_depth - weight } in
    Leaves-paid ((e.observations == 0) || nat_lt e.weighted_depth weight) left f
    (λ refused. elim (or_cases (e.observations == 0) (nat_lt e.weighted_depth weight) refused) [
      | inl t ↦ omega (arith, eqb-true e.observations 0 t)
      | inr t ↦ omega (arith, ltb-true e.weighted_depth weight t)
    ]) (omega arith)
leaves conjoin e f h =
    Leaves-paid (e.conjunctions == 0) (record e { conjunctions = e.conjunctions - 1 }) f (λ t. omega (arith, eqb-true e.conjunctions 0 t)) (omega arith)
leaves to_deepest e f h = omega arith
leaves to_other e f h = omega arith
leaves to_positive e f h = omega arith
leaves to_negative e f h =
    let left : Price = record e { observations = min e.observations e.deepest_negative; negations = e.negations - 1 } in
    Leaves-paid (e.negations == 0) left f (λ t. omega (arith, eqb-true e.negations 0 t)) (omega arith)

at_most_from_leaves : (u : Update) (e f : Price) → Leaves (apply u e) f → IsAtMost (inverse u f) e
at_most_from_leaves (observe weight) e f h =
    let left : Price = record e { observations = e.observations - 1; weighted_depth = e.weighted_depth - weight } in
    let paid = paid_from_leaves ((e.observations == 0) || nat_lt e.weighted_depth weight) left f h in
    let tests = or_parts (e.observations == 0) (nat_lt e.weighted_depth weight) paid.0 in
    omega (arith, paid.1, eqb-false e.observations 0 tests.0, ltb-false e.weighted_depth weight tests.1)
at_most_from_leaves conjoin e f h =
    let paid = paid_from_leaves (e.conjunctions == 0) (record e { conjunctions = e.conjunctions - 1 }) f h in
    omega (arith, paid.1, eqb-false e.conjunctions 0 paid.0)
at_most_from_leaves to_deepest e f h = omega arith
at_most_from_leaves to_other e f h = omega arith
at_most_from_leaves to_positive e f h = omega arith
at_most_from_leaves to_negative e f h =
    let left : Price = record e { observations = min e.observations e.deepest_negative; negations = e.negations - 1 } in
    let paid = paid_from_leaves (e.negations == 0) left f h in
    omega (arith, paid.1, eqb-false e.negations 0 paid.0)

pub leaves-iff : (u : Update) (e f : Price) → IsAtMost (inverse u f) e ↔ Leaves (apply u e) f
leaves-iff u e f = (leaves u e f, at_most_from_leaves u e f)
