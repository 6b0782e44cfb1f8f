-- The followers of a pair by their places: what is observed comes first, then the subsets, then the swaps.
use Rattle.std.proofs.Common.{ℕ, ◌+◌, ◌-◌, ◌^◌, ◌≡◌, ◌≢◌, [], ◌∷◌, ◌++◌, length, length-drop, take, drop, ap, ◌∙◌, subst, eqb, not}
use Rattle.std.specs.List.{filter}
use Rattle.std.proofs.lemmas.Bool.{ne_eqb}
use Rattle.std.proofs.lemmas.List.{length-map}
use Rattle.spectro_spec.specs.System.{System}
use Rattle.spectro_game.specs.Divisions.{Division, divisions}
use Rattle.spectro_game.specs.Pairs.{Pair, followers, observed, subsets, swaps}
use Rattle.spectro_game.specs.Reached.{StandsAt}
use Rattle.spectro_theory.proofs.Masks.{divisions-AreByMask}
use Rattle.spectro_theory.proofs.Places.{stands-filter, stands-left, stands-map, stands-right}

pub length-subsets : (x : Pair) → length (subsets x) ≡ 2 ^ length x.set - 1
length-subsets x = length-map (drop 1 (divisions x.set)) (λ (d : Division). record { state = x.state; set = d.left }) ∙ length-drop 1 (divisions x.set)
    ∙ ap (λ n. n - 1) (divisions-AreByMask x.set).count

pub stands-observed : (system : System) (x : Pair) (i : ℕ) (y : Pair) → StandsAt (observed system x) i y → StandsAt (followers system x) i y
unfolding followers
stands-observed system x i y here = stands-left (observed system x) (subsets x ++ swaps x) i y here

pub stands-subset : (system : System) (x : Pair) (i : ℕ) (y : Pair) → StandsAt (subsets x) i y
    → StandsAt (followers system x) (length (observed system x) + i) y
unfolding followers
stands-subset system x i y here = stands-right (observed system x) (subsets x ++ swaps x) i y (stands-left (subsets x) (swaps x) i y here)

pub stands-swap : (system : System) (x : Pair) (i : ℕ) (y : Pair) → StandsAt (swaps x) i y
    → StandsAt (followers system x) (length (observed system x) + (2 ^ length x.set - 1 + i)) y
unfolding followers
stands-swap system x i y here =
    stands-right (observed system x) (subsets x ++ swaps x) (2 ^ length x.set - 1 + i) y
    (subst (λ n. StandsAt (subsets x ++ swaps x) (n + i) y) (length-subsets x) (stands-right (subsets x) (swaps x) i y here))

-- the swap with the member at a place
pub swap-at : (x : Pair) (i q : ℕ) → StandsAt x.set i q → q ≢ x.state
    → StandsAt (swaps x) (length (filter (λ p. not (eqb p x.state)) (take i x.set))) (record { state = q; set = x.state ∷ [] })
swap-at x i q here differ =
    stands-map (λ p. record { state = p; set = x.state ∷ [] }) (filter (λ p. not (eqb p x.state)) x.set)
    (length (filter (λ p. not (eqb p x.state)) (take i x.set))) q
    (stands-filter (λ p. not (eqb p x.state)) x.set i q here (ap not (ne_eqb q x.state differ)))
