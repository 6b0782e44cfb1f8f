-- What is made of observations by one more of them, and by all.
use Rattle.std.proofs.Common.{ℕ, ◌≡◌, ◌<◌, ◌≤◌, ◌+◌, ◌⊎◌, inl, inr, List, length, sym, subst, arith}
use Rattle.std.specs.Prelude.{◌↔◌}
use Rattle.spectro_spec.specs.System.{Label, System, post}
use Rattle.spectro_spec.specs.Weighing.{Weighing, weight_of}
use Rattle.spectro_spec.specs.Price.{Price}
use Rattle.spectro_game.specs.Update.{observe}
use Rattle.spectro_game.specs.Pairs.{Pair, observed}
use Rattle.spectro_game.specs.Reached.{StandsAt}
use Rattle.spectro_game.specs.Generations.{Table}
use Rattle.spectro_theory.proofs.Places.{stands-one, stands-below}
use Rattle.spectro_pairs.specs.Arenas.{IsObservation}
use Rattle.spectro_pairs.specs.Explored.{observed_labels}
use Rattle.spectro_solve.specs.Added.{IsMadeBy}
use Rattle.spectro_solve.specs.Observations.{AffordsAmong, AffordsObservation}
use Rattle.spectro_solve.proofs.NamedObservations.{observed-step, step-observed}

-- one observation more
pub among-more : (weighing : Weighing) (system : System) (table : Table) (pairs : List Pair) (x : Pair) (k i label_no pair weight : ℕ) (es : List Price)
    → StandsAt pairs k x → IsObservation system weighing pairs k i label_no pair weight
    → ((y : Pair) → StandsAt pairs pair y → table y.state y.set ≡ es) → (e : Price)
    → AffordsAmong weighing system table x (i + 1) e ↔ AffordsAmong weighing system table x i e ⊎ IsMadeBy (observe weight) es e
among-more weighing system table pairs x k i label_no pair weight es here found listed e = (
  (λ (j, below, y, label, stands, labelled, made). there j below y label stands labelled made (let h : (j < i) ⊎ (j ≡ i) = grind arith in h)),
  (λ h. elim h [
    | inl (j, below, y, label, stands, labelled, made) ↦ (j, omega (arith, below), y, label, stands, labelled, made)
    | inr made ↦ (
      i,
      omega arith,
      found.to,
      found.label,
      subst (λ z. StandsAt (observed system z) i found.to) same found.follows,
      subst (λ z. StandsAt (observed_labels system z) i found.label) same found.labelled,
      subst (λ w. IsMadeBy (observe w) (table found.to.state found.to.set) e) found.weighed
          (subst (λ l. IsMadeBy (observe weight) l e) (sym (listed found.to found.there)) made),
    )
  ]),
)
  where
    same : found.from ≡ x
    same = stands-one pairs k found.from x found.here here

    there : (j : ℕ) → j < i + 1 → (y : Pair) (label : Label) → StandsAt (observed system x) j y → StandsAt (observed_labels system x) j label
        → IsMadeBy (observe (weight_of weighing label)) (table y.state y.set) e → (j < i) ⊎ (j ≡ i)
        → AffordsAmong weighing system table x i e ⊎ IsMadeBy (observe weight) es e
    there j below y label stands labelled made (inl before) = inl (j, before, y, label, stands, labelled, made)
    there j below y label stands labelled made (inr is) =
        let to : y ≡ found.to = stands-one (observed system x) i y found.to (subst (λ n. StandsAt (observed system x) n y) is stands)
        (subst (λ z. StandsAt (observed system z) i found.to) same found.follows) in
        let by : label ≡ found.label = stands-one (observed_labels system x) i label found.label
        (subst (λ n. StandsAt (observed_labels system x) n label) is labelled)
        (subst (λ z. StandsAt (observed_labels system z) i found.label) same found.labelled) in
        inr (subst (λ l. IsMadeBy (observe weight) l e) (listed found.to found.there)
        (subst (λ w. IsMadeBy (observe w) (table found.to.state found.to.set) e) (sym found.weighed)
        (subst (λ l. IsMadeBy (observe (weight_of weighing l)) (table found.to.state found.to.set) e) by
        (subst (λ (z : Pair). IsMadeBy (observe (weight_of weighing label)) (table z.state z.set) e) to made))))

-- all of them
pub among-all : (weighing : Weighing) (system : System) (table : Table) (x : Pair) (n : ℕ) → length (observed system x) ≤ n → (e : Price)
    → AffordsAmong weighing system table x n e ↔ AffordsObservation weighing system table x e
among-all weighing system table x n whole e = (
  (λ (i, below, y, label, stands, labelled, made).
      let step = observed-step system x y label i stands labelled in
      (label, y.state, step.0, subst (λ qs. IsMadeBy (observe (weight_of weighing label)) (table y.state qs) e) step.1 made)),
  (λ (label, t, step, made).
      let place = step-observed system x label t step in
      let below : place.0 < length (observed system x) =
      stands-below (observed system x) place.0 (record { state = t; set = post system x.set label }) place.1 in
      (place.0, omega (arith, below, whole), record { state = t; set = post system x.set label }, label, place.1, place.2, made)),
)
