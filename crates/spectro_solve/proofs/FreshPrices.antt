-- What fresh lists make, and what a pair's list has already.
use Rattle.std.proofs.Common.{ℕ, ◌≡◌, ◌≢◌, ◌⊎◌, inl, inr, ◌+◌, ◌<◌, ◌≤◌, List, [], ◌∷◌, Bool, length, refl, sym, ap, subst, ◌∙◌, arith, Some, None}
use Rattle.std.specs.Prelude.{◌↔◌}
use Rattle.spectro_spec.specs.System.{System}
use Rattle.spectro_spec.specs.Weighing.{Weighing, weight_of}
use Rattle.spectro_spec.specs.Price.{Price}
use Rattle.spectro_game.specs.Update.{observe}
use Rattle.spectro_game.specs.Pairs.{Pair, observed}
use Rattle.spectro_game.specs.Reached.{StandsAt}
use Rattle.spectro_theory.proofs.Places.{stands-one}
use Rattle.spectro_pairs.specs.Arenas.{IsObservation, IsSwap}
use Rattle.spectro_pairs.specs.Explored.{Explored, IsExploredFrom, observed_labels}
use Rattle.spectro_rows.specs.Rows.{row_at}
use Rattle.spectro_solve.specs.Added.{AreSomeAdded, IsAdded, IsMadeBy}
use Rattle.spectro_solve.specs.Fresh.{AffordsFreshAmong, AffordsFreshAt, AffordsTurned, IsFreshNegated, IsNegatedBy}
use Rattle.spectro_solve.specs.Marks.{IsMarked}
use Rattle.spectro_solve.proofs.Adding.{added-then}

module _ (system : System) (weighing : Weighing) (starts : List (ℕ × ℕ)) (explored : Explored) (source : IsExploredFrom system weighing starts explored)
    (rows : List (List Price)) (fresh : List Bool) (k i label_no pair weight : ℕ) (x : Pair) (here : StandsAt explored.pairs k x)
    (found : IsObservation system weighing explored.pairs k i label_no pair weight) where
  same : found.from ≡ x
  same = stands-one explored.pairs k found.from x found.here here

  follows : StandsAt (observed system x) i found.to
  follows = subst (λ z. StandsAt (observed system z) i found.to) same found.follows

  labelled : StandsAt (observed_labels system x) i found.label
  labelled = subst (λ z. StandsAt (observed_labels system z) i found.label) same found.labelled

  -- the number at the place
  number-is : (y : Pair) (j : ℕ) → StandsAt (observed system x) i y → StandsAt explored.pairs j y → j ≡ pair
  number-is y j stands there = source.reached.distinct j pair y there
      (subst (StandsAt explored.pairs pair) (stands-one (observed system x) i found.to y follows stands) found.there)

  pub fresh-observation : IsMarked fresh pair → (e : Price)
      → IsMadeBy (observe weight) (row_at rows pair) e ↔ AffordsFreshAt weighing system explored rows fresh x i e
  fresh-observation marked e = (
    (λ made. (
      found.to,
      found.label,
      pair,
      follows,
      labelled,
      found.there,
      marked,
      subst (λ w. IsMadeBy (observe w) (row_at rows pair) e) found.weighed made,
    )),
    (λ (y, label, j, stands, under, there, _, made).
        subst (λ w. IsMadeBy (observe w) (row_at rows pair) e) (sym found.weighed)
        (subst (λ l. IsMadeBy (observe (weight_of weighing l)) (row_at rows pair) e) (stands-one (observed_labels system x) i label found.label under labelled)
        (subst (λ n. IsMadeBy (observe (weight_of weighing label)) (row_at rows n) e) (number-is y j stands there) made))),
  )

  pub stale-observation : ¬ IsMarked fresh pair → (e : Price) → ¬ AffordsFreshAt weighing system explored rows fresh x i e
  stale-observation stale e (y, label, j, stands, under, there, marked, made) = stale (subst (IsMarked fresh) (number-is y j stands there) marked)

-- one observation more
fresh-more : (weighing : Weighing) (system : System) (explored : Explored) (rows : List (List Price)) (fresh : List Bool) (x : Pair) (n : ℕ) (e : Price)
    → AffordsFreshAmong weighing system explored rows fresh x (n + 1) e
    ↔ AffordsFreshAmong weighing system explored rows fresh x n e ⊎ AffordsFreshAt weighing system explored rows fresh x n e
fresh-more weighing system explored rows fresh x n e = (
  (λ (i, below, at). elim (let h : (i < n) ⊎ (i ≡ n) = grind arith in h) [
    | inl before ↦ inl (i, before, at)
    | inr is ↦ inr (subst (λ m. AffordsFreshAt weighing system explored rows fresh x m e) is at)
  ]),
  (λ h. elim h [ inl (i, below, at) ↦ (i, omega (arith, below), at) | inr at ↦ (n, omega arith, at) ]),
)

-- what the first n make was added, and what the next one makes
pub one-more : (weighing : Weighing) (system : System) (explored : Explored) (rows : List (List Price)) (fresh : List Bool) (x : Pair) (n : ℕ)
    (made old new : List Price) → IsAdded (AffordsFreshAmong weighing system explored rows fresh x n) made old
    → IsAdded (AffordsFreshAt weighing system explored rows fresh x n) old new
    → IsAdded (AffordsFreshAmong weighing system explored rows fresh x (n + 1)) made new
one-more weighing system explored rows fresh x n made old new before next =
    added-then (AffordsFreshAmong weighing system explored rows fresh x n) (AffordsFreshAt weighing system explored rows fresh x n)
    (AffordsFreshAmong weighing system explored rows fresh x (n + 1)) made old new before next (fresh-more weighing system explored rows fresh x n)

-- what some of the observations make is some of what all make
pub some-fresh : (weighing : Weighing) (system : System) (explored : Explored) (rows : List (List Price)) (fresh : List Bool) (x : Pair) (m n : ℕ) → m ≤ n
    → (old new : List Price) → IsAdded (AffordsFreshAmong weighing system explored rows fresh x m) old new
    → AreSomeAdded (AffordsFreshAmong weighing system explored rows fresh x n) old new
some-fresh weighing system explored rows fresh x m n fewer old new added = record {
  sound = λ e covered. elim ((added e).0 covered) [
    | inl before ↦ inl before
    | inr (i, below, at) ↦ inr (i, omega (arith, below, fewer), at)
  ];
  kept = λ e covered. (added e).1 (inl covered);
}

-- a list of one member
one-member : (qs : List ℕ) (q : ℕ) → length qs ≡ 1 → StandsAt qs 0 q → qs ≡ q ∷ []
one-member [] q one here = absurd (omega arith)
one-member (p ∷ []) q one here = let is : p ≡ q = cc in ap (λ r. r ∷ []) is
one-member (p ∷ r ∷ qs) q one here = absurd (omega arith)

-- the pair of the one member and the state
pub turned-made : (system : System) (weighing : Weighing) (starts : List (ℕ × ℕ)) (explored : Explored) → IsExploredFrom system weighing starts explored
    → (rows : List (List Price)) (fresh : List Bool) (k pair : ℕ) (x : Pair) → StandsAt explored.pairs k x → length x.set ≡ 1
    → IsSwap explored.pairs k 0 (Some pair) → (e : Price) → IsFreshNegated rows fresh pair e ↔ AffordsTurned explored rows fresh x e
turned-made system weighing starts explored source rows fresh k pair x here one found e = (
  (λ (marked, made). (found.q, pair, one-member x.set found.q one member, (λ own. differ (sym own)), there found.q member differ, marked, made)),
  (λ (q, j, alone, apart, stands, marked, made).
      let own = there q (subst (λ s. StandsAt s 0 q) (sym alone) refl) (λ is. apart (sym is)) in
      let number : j ≡ pair = source.reached.distinct j pair (record { state = q; set = x.state ∷ [] }) stands own in
      (subst (IsMarked fresh) number marked, subst (λ n. IsNegatedBy (row_at rows n) e) number made)),
)
  where
    same : found.from ≡ x
    same = stands-one explored.pairs k found.from x found.here here

    member : StandsAt x.set 0 found.q
    member = subst (λ (z : Pair). StandsAt z.set 0 found.q) same found.member

    differ : found.q ≢ x.state
    differ own = let none : Some pair ≡ None = found.own (own ∙ ap (λ (z : Pair). z.state) (sym same)) in cc

    there : (q : ℕ) → StandsAt x.set 0 q → q ≢ x.state → StandsAt explored.pairs pair (record { state = q; set = x.state ∷ [] })
    there q stands ne =
        let is : q ≡ found.q = stands-one x.set 0 q found.q stands member in
        let to = found.other (λ own. differ (own ∙ ap (λ (z : Pair). z.state) same)) in
        let number : pair ≡ to.0 = (let some : Some pair ≡ Some to.0 = to.1 in cc) in
        subst (λ n. StandsAt explored.pairs n (record { state = q; set = x.state ∷ [] })) (sym number)
        (subst (λ p. StandsAt explored.pairs to.0 (record { state = p; set = x.state ∷ [] })) (sym is)
        (subst (λ (z : Pair). StandsAt explored.pairs to.0 (record { state = found.q; set = z.state ∷ [] })) same to.2))
