-- The masks of a set make just its splits.
use Rattle.std.proofs.Common.{ℕ, ◌≡◌, ◌⊎◌, inl, inr, ◌^◌, ◌<◌, ◌≤◌, List, Contains, length, sym, subst, arith}
use Rattle.std.specs.Prelude.{◌↔◌}
use Rattle.std.proofs.lemmas.Nat.Bits.{bit_at_above}
use Rattle.spectro_spec.specs.Price.{Price}
use Rattle.spectro_spec.specs.LeastPrices.{Covers}
use Rattle.spectro_game.specs.Divisions.{Division, divisions}
use Rattle.spectro_game.specs.Pairs.{Pair}
use Rattle.spectro_game.specs.Reached.{StandsAt}
use Rattle.spectro_game.specs.BackwardStep.{AffordsClause}
use Rattle.spectro_game.specs.Generations.{Table, members_of}
use Rattle.spectro_theory.specs.LawsOfPairs.{IsByMask}
use Rattle.spectro_theory.proofs.DivisionLists.{Contains-divisions}
use Rattle.spectro_theory.proofs.Masks.{divisions-AreByMask}
use Rattle.spectro_theory.proofs.Places.{StandsIn-member, stands-below, stands-one, stands-some}
use Rattle.spectro_rows.specs.Rows.{row_at}
use Rattle.spectro_solve.specs.Choices.{AffordsConjunction, AffordsSplitAmong, AreCovered, others}
use Rattle.spectro_solve.specs.Clauses.{AreClauseLists}
use Rattle.spectro_solve.proofs.MaskBits.{bit-other}

module _ (table : Table) (x : Pair) (clauses : List (List Price)) (lists : AreClauseLists table x (length x.set) clauses) where
  -- the division at a place is that of the mask
  by-mask : (mask : ℕ) (d : Division) → StandsAt (divisions x.set) mask d → IsByMask x.set mask d
  by-mask mask d stands =
      let all = divisions-AreByMask x.set in
      let below : mask < 2 ^ length x.set = subst (λ n. mask < n) all.count (stands-below (divisions x.set) mask d stands) in
      let found = all.place mask below in
      subst (IsByMask x.set mask) (stands-one (divisions x.set) mask found.0 d found.1 stands) found.2

  -- each of the others is told by its clause
  told : (mask : ℕ) (d : Division) (b : Price) → mask < 2 ^ length x.set → StandsAt (divisions x.set) (others x mask) d → AreCovered clauses mask b
      → (q : ℕ) → Contains d.right q → AffordsClause (members_of table) x.state q b
  told mask d b below stands all q member =
      let (i, here, clear) = ((by-mask (others x mask) d stands).right q).0 member in
      let within : i < length x.set = stands-below x.set i q here in
      let one = bit-other (length x.set) mask i below within in
      (lists i within q here b).0 (all i (omega (arith, one, clear)))

  -- the lists of those that are told cover it
  covered : (mask : ℕ) (d : Division) (b : Price) → mask < 2 ^ length x.set → StandsAt (divisions x.set) mask d
      → ((q : ℕ) → Contains d.right q → AffordsClause (members_of table) x.state q b) → AreCovered clauses (others x mask) b
  covered mask d b below stands each i set =
      by (let h : (i < length x.set) ⊎ (length x.set ≤ i) = grind arith in h)
    where
      by : (i < length x.set) ⊎ (length x.set ≤ i) → Covers (row_at clauses i) b
      by (inl within) =
          let (q, here) = stands-some x.set i within in
          let one = bit-other (length x.set) mask i below within in
          (lists i within q here b).1 (each q (((by-mask mask d stands).right q).1 (i, here, omega (arith, one, set))))
      by (inr past) =
          let small : others x mask < 2 ^ length x.set = omega (arith, below) in
          let none = bit_at_above (others x mask) (length x.set) i small past in
          absurd (omega (arith, none, set))

  pub all-splits : (n : ℕ) → n ≡ 2 ^ length x.set → (e : Price) → AffordsSplitAmong table x clauses n e ↔ AffordsConjunction table x e
  all-splits n is e = (
    (λ (mask, under, (b, all, (d, stands, give), low)).
        let below : mask < 2 ^ length x.set = omega (arith, under, is) in
        (b, (d.left, d.right, (by-mask (others x mask) d stands).divided, give, told mask d b below stands all), low)),
    (λ (b, (left, right, divided, give, each), low).
        let d : Division = record { left = left; right = right } in
        let (mask, stands) = StandsIn-member (divisions x.set) d (Contains-divisions divided) in
        let below : mask < 2 ^ length x.set = subst (λ m. mask < m) (divisions-AreByMask x.set).count (stands-below (divisions x.set) mask d stands) in
        let back : others x (others x mask) ≡ mask = omega (arith, below) in (
          others x mask,
          omega (arith, below, is),
          (
            b,
            covered mask d b below stands each,
            (d, subst (λ m. StandsAt (divisions x.set) m d) (sym back) stands, give),
            low,
          ),
        )),
  )
