-- Pairs that follow by a split, tried one by one for a fresh one.
use Rattle.std.proofs.Common.{ℕ, ◌≡◌, ◌⊎◌, inl, inr, ◌+◌, ◌^◌, ◌<◌, ◌≤◌, List, [], ◌∷◌, Bool, length, Some, None, sym, ap, subst, ◌∙◌, arith}
use Rattle.spectro_spec.specs.System.{System}
use Rattle.spectro_spec.specs.Weighing.{Weighing}
use Rattle.spectro_game.specs.Divisions.{Division, divisions}
use Rattle.spectro_game.specs.Pairs.{Pair}
use Rattle.spectro_game.specs.Reached.{StandsAt}
use Rattle.spectro_theory.proofs.DivisionLists.{Contains-divisions}
use Rattle.spectro_theory.proofs.Masks.{division_at, divisions-place, divisions-AreByMask}
use Rattle.spectro_theory.proofs.Places.{StandsIn-member, stands-below, stands-one}
use Rattle.spectro_pairs.specs.Arenas.{IsSubset, IsSwap, set_at}
use Rattle.spectro_pairs.specs.Explored.{Explored, IsExploredFrom}
use Rattle.spectro_solve.specs.Fresh.{HasStaleSplits, HasStaleSubsets, HasStaleSwaps, IsStaleSwap}
use Rattle.spectro_solve.specs.Marks.{IsMarked}
use Rattle.spectro_solve.proofs.SubsetPairs.{left-zero, set-is, subset-pair}

module _ (system : System) (weighing : Weighing) (starts : List (ℕ × ℕ)) (explored : Explored) (source : IsExploredFrom system weighing starts explored)
    (fresh : List Bool) (k : ℕ) (x : Pair) (here : StandsAt explored.pairs k x) where
  -- one mask more
  pub subsets-more : (mask pair : ℕ) → 1 ≤ mask → mask < 2 ^ length (set_at explored.pairs k) → IsSubset explored.pairs k mask pair → ¬ IsMarked fresh pair
      → HasStaleSubsets explored.pairs fresh x mask → HasStaleSubsets explored.pairs fresh x (mask + 1)
  subsets-more mask pair some below found stale before m least under j d stands there marked =
      elim (let h : (m < mask) ⊎ (m ≡ mask) = grind arith in h) [
        | inl earlier ↦ before m least earlier j d stands there marked
        | inr is ↦
            let inside : mask < 2 ^ length x.set = subst (λ s. mask < 2 ^ length s) (set-is explored.pairs k x here) below in
            let same : d ≡ division_at mask x.set = stands-one (divisions x.set) mask d (division_at mask x.set)
            (subst (λ n. StandsAt (divisions x.set) n d) is stands) (divisions-place x.set mask inside) in
            let own = subset-pair explored.pairs k mask pair x here some inside found in
            let number : j ≡ pair = source.reached.distinct j pair (record { state = x.state; set = (division_at mask x.set).left })
            (subst (λ (z : Division). StandsAt explored.pairs j (record { state = x.state; set = z.left })) same there) own in
            stale (subst (IsMarked fresh) number marked)
      ]

  -- one member
  pub swap-stale : (i pair : ℕ) → IsSwap explored.pairs k i (Some pair) → ¬ IsMarked fresh pair → IsStaleSwap explored.pairs fresh x i
  swap-stale i pair found stale j q stands apart there marked =
      let same : found.from ≡ x = stands-one explored.pairs k found.from x found.here here in
      let is : q ≡ found.q = stands-one x.set i q found.q stands (subst (λ (z : Pair). StandsAt z.set i found.q) same found.member) in
      let to = found.other (λ own. apart (sym (is ∙ own ∙ ap (λ (z : Pair). z.state) same))) in
      let number : pair ≡ to.0 = (let some : Some pair ≡ Some to.0 = to.1 in cc) in
      let own : StandsAt explored.pairs to.0 (record { state = q; set = x.state ∷ [] }) =
      subst (λ p. StandsAt explored.pairs to.0 (record { state = p; set = x.state ∷ [] })) (sym is)
      (subst (λ (z : Pair). StandsAt explored.pairs to.0 (record { state = found.q; set = z.state ∷ [] })) same to.2) in
      stale (subst (IsMarked fresh) (source.reached.distinct j to.0 (record { state = q; set = x.state ∷ [] }) there own ∙ sym number) marked)

  -- the state itself has none
  pub swap-none : (i : ℕ) → IsSwap explored.pairs k i None → IsStaleSwap explored.pairs fresh x i
  swap-none i found j q stands apart there marked =
      let same : found.from ≡ x = stands-one explored.pairs k found.from x found.here here in
      let is : q ≡ found.q = stands-one x.set i q found.q stands (subst (λ (z : Pair). StandsAt z.set i found.q) same found.member) in
      let to = found.other (λ own. apart (sym (is ∙ own ∙ ap (λ (z : Pair). z.state) same))) in
      let none : None ≡ Some to.0 = to.1 in
      absurd (cc)

  -- all masks and all members make all splits
  pub splits-stale : (n m : ℕ) → n ≡ 2 ^ length x.set → m ≡ length x.set → HasStaleSubsets explored.pairs fresh x n → HasStaleSwaps explored.pairs fresh x m
      → HasStaleSplits explored fresh x
  splits-stale n m masks members subsets swaps j y there (inl (state, some, (right, divided))) =
      let d : Division = record { left = y.set; right = right } in
      let (mask, stands) = StandsIn-member (divisions x.set) d (Contains-divisions divided) in
      let below : mask < 2 ^ length x.set = subst (λ l. mask < l) (divisions-AreByMask x.set).count (stands-below (divisions x.set) mask d stands) in
      let least : 1 ≤ mask = elim (let h : (mask ≡ 0) ⊎ (1 ≤ mask) = grind arith in h) [
        | inl zero ↦ absurd (some (
            ap (λ (z : Division). z.left) (stands-one (divisions x.set) 0 d (division_at 0 x.set) (subst (λ l. StandsAt (divisions x.set) l d) zero stands)
            (divisions-place x.set 0 (omega (arith, below)))) ∙ left-zero x.set))
        | inr h ↦ h
      ] in
      subsets mask least (omega (arith, below, masks)) j d stands (subst (λ p. StandsAt explored.pairs j (record { state = p; set = y.set })) state there)
  splits-stale n m masks members subsets swaps j y there (inr (member, apart, alone)) =
      let (i, stands) = StandsIn-member x.set y.state member in
      swaps i (omega (arith, stands-below x.set i y.state stands, members)) j y.state stands apart
      (subst (λ s. StandsAt explored.pairs j (record { state = y.state; set = s })) alone there)
