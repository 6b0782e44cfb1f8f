-- What the splits of a set make: by one mask, by one mask more, and by all.
use Rattle.std.proofs.Common.{ℕ, ◌≡◌, ◌≢◌, ◌^◌, ◌<◌, ◌≤◌, List, [], length, get_or, sym, subst, ◌∙◌, arith, ◌⊎◌, inl, inr, ◌+◌}
use Rattle.std.specs.Prelude.{◌↔◌}
use Rattle.std.proofs.lemmas.Nat.{pow_pos}
use Rattle.spectro_spec.specs.System.{System}
use Rattle.spectro_spec.specs.Weighing.{Weighing}
use Rattle.spectro_spec.specs.Price.{Price, IsAtMost}
use Rattle.spectro_game.specs.Update.{conjoin, inverse, to_deepest}
use Rattle.spectro_game.specs.Divisions.{Division, divisions}
use Rattle.spectro_game.specs.Pairs.{Pair}
use Rattle.spectro_game.specs.Reached.{StandsAt}
use Rattle.spectro_game.specs.Generations.{Table}
use Rattle.spectro_game.specs.Rows.{listed_at}
use Rattle.spectro_theory.proofs.Masks.{division_at, divisions-place}
use Rattle.spectro_theory.proofs.Places.{stands-one}
use Rattle.spectro_theory.proofs.PriceOrder.{IsAtMost-refl, IsAtMost-trans}
use Rattle.spectro_pairs.specs.Arenas.{IsSubset, set_at}
use Rattle.spectro_pairs.specs.Explored.{Explored, IsExploredFrom}
use Rattle.spectro_solve.specs.Added.{IsAdded, IsJoinedBy, IsMadeBy}
use Rattle.spectro_solve.specs.Choices.{AffordsBy, AffordsMask, AffordsSplitAmong, IsChosenFor, others}
use Rattle.spectro_solve.proofs.Listing.{listed-at}
use Rattle.spectro_solve.proofs.SubsetPairs.{left-some, left-zero, set-is, subset-pair}

-- where no member is refuted together
pub split-none : (table : Table) (x : Pair) (chosen : List Price) (e : Price) → IsMadeBy conjoin chosen e ↔ AffordsBy table x 0 chosen e
split-none table x chosen e = (
  (λ (f, member, low). (
    f,
    (f, member, IsAtMost-refl f),
    (division_at 0 x.set, divisions-place x.set 0 (pow_pos (length x.set)), λ some. absurd (some (left-zero x.set))),
    low,
  )),
  (λ (b, (f, member, below), left, low).
      (f, member, IsAtMost-trans (let more : IsAtMost (inverse conjoin f) (inverse conjoin b) = omega (arith, below) in more) low)),
)

-- where some are
module _ (system : System) (weighing : Weighing) (starts : List (ℕ × ℕ)) (explored : Explored) (source : IsExploredFrom system weighing starts explored)
    (rows : List (List Price)) (whole : length rows ≡ length explored.pairs) (k : ℕ) (x : Pair) (here : StandsAt explored.pairs k x) where
  pub split-some : (mask pair : ℕ) (chosen es : List Price) → 1 ≤ mask → mask < 2 ^ length (set_at explored.pairs k)
      → IsSubset explored.pairs k mask pair → pair < length explored.pairs → es ≡ get_or rows pair es
      → (e : Price) → IsJoinedBy chosen es e ↔ AffordsBy (listed_at explored.pairs rows) x mask chosen e
  split-some mask pair chosen es some below found within row e = (
    (λ (b, covered, made, low). (
      b,
      covered,
      (division_at mask x.set, divisions-place x.set mask inside, λ _. subst (λ l. IsMadeBy to_deepest l b) (sym together) made),
      low,
    )),
    (λ (b, covered, (d, stands, give), low). (
      b,
      covered,
      (let is : d ≡ division_at mask x.set = stands-one (divisions x.set) mask d (division_at mask x.set) stands (divisions-place x.set mask inside) in
          subst (λ l. IsMadeBy to_deepest l b) together
          (subst (λ (z : Division). z.left ≢ [] → IsMadeBy to_deepest (listed_at explored.pairs rows x.state z.left) b) is give
          (left-some mask x.set some inside))),
      low,
    )),
  )
    where
      inside : mask < 2 ^ length x.set
      inside = subst (λ s. mask < 2 ^ length s) (set-is explored.pairs k x here) below

      together : listed_at explored.pairs rows x.state (division_at mask x.set).left ≡ es
      together = listed-at system weighing starts explored source rows pair (record { state = x.state; set = (division_at mask x.set).left }) es
          (subset-pair explored.pairs k mask pair x here some inside found) (omega (arith, within, whole)) ∙ sym row

-- by one mask, over what is chosen for it
pub mask-added : (table : Table) (x : Pair) (clauses : List (List Price)) (mask : ℕ) (chosen old new : List Price) → IsChosenFor clauses old mask chosen
    → IsAdded (AffordsBy table x (others x mask) chosen) old new → IsAdded (AffordsMask table x clauses mask) old new
mask-added table x clauses mask chosen old new choice added e = (
  (λ covered. elim ((added e).0 covered) [
    | inl before ↦ inl before
    | inr (b, all, left, low) ↦ inr (b, choice.sound b all, left, low)
  ]),
  (λ h. elim h [
    | inl before ↦ (added e).1 (inl before)
    | inr (b, all, left, low) ↦ elim (choice.whole b all) [
      | inl covered ↦ (added e).1 (inr (b, covered, left, low))
      | inr (f, member, below) ↦ (added e).1 (inl (f, member, IsAtMost-trans below low))
    ]
  ]),
)

-- one mask more
pub among-next : (table : Table) (x : Pair) (clauses : List (List Price)) (n : ℕ) (e : Price)
    → AffordsSplitAmong table x clauses (n + 1) e ↔ AffordsSplitAmong table x clauses n e ⊎ AffordsMask table x clauses n e
among-next table x clauses n e = (
  (λ (mask, below, by). elim (let h : (mask < n) ⊎ (mask ≡ n) = grind arith in h) [
    | inl before ↦ inl (mask, before, by)
    | inr is ↦ inr (subst (λ m. AffordsMask table x clauses m e) is by)
  ]),
  (λ h. elim h [ inl (mask, below, by) ↦ (mask, omega (arith, below), by) | inr by ↦ (n, omega arith, by) ]),
)
