-- The predecessors of a pair are the pairs that have it as a follower.
use Rattle.std.proofs.Common.{ℕ, ◌<◌, ◌≡◌, List, [], length, get_or, sym, ap, ◌∙◌, subst, arith, true, eqb, eq-eqb, Contains, Some}
use Rattle.std.specs.List.{range_with_len}
use Rattle.std.specs.List.Sorted.{IsStrictlyIncreasing}
use Rattle.std.proofs.lemmas.Bool.{eqb-true}
use Rattle.std.proofs.lemmas.List.Folds.{list_any_at}
use Rattle.std.proofs.lemmas.List.Kept.{IsStrictlyIncreasing-filter}
use Rattle.std.proofs.lemmas.Option.{get_or_from_slice_get, slice_get-get_or}
use Rattle.spectro_spec.specs.System.{System}
use Rattle.spectro_spec.specs.Weighing.{Weighing}
use Rattle.spectro_spec.proofs.Membership.{Contains-filter, Contains-filter_cases, list_any-cases}
use Rattle.spectro_game.specs.Pairs.{Pair, followers}
use Rattle.spectro_game.specs.Reached.{StandsAt}
use Rattle.spectro_theory.proofs.Ranges.{range-below, range-rises, range-stands}
use Rattle.spectro_theory.proofs.Places.{stands-below, stands-map, stands-one, stands-some, StandsIn-member, Contains-stands}
use Rattle.spectro_pairs.specs.Explored.{Explored, IsExploredFrom}
use Rattle.spectro_pairs.specs.Growth.{Name}
use Rattle.spectro_rows.specs.Rows.{row_at}
use Rattle.spectro_rows.specs.Turned.{stands_in, rows_with_within, rows_with, turned}
use Rattle.spectro_pairs.specs.Arenas.{ArePredecessors}
use Rattle.spectro_pairs.proofs.NamedRows.{length-named, named-place, length-named_rows}
use Rattle.spectro_pairs.proofs.ArenaRows.{follower-row}

-- the row at the place has the predecessors of that place
pub predecessor-row : (followers rows : List (List ℕ)) (k : ℕ) (row : List ℕ) → rows ≡ turned followers → StandsAt rows k row → k < length followers
    → row ≡ rows_with followers k
predecessor-row followers rows k row is here below =
    stands-one rows k row (rows_with followers k) here
    (subst (λ rs. StandsAt rs k (rows_with followers k)) (sym is)
    (stands-map (rows_with followers) (range_with_len 0 (length followers)) k k (range-stands (length followers) k below)))

pub predecessors-rise : (rows : List (List ℕ)) (n k : ℕ) → IsStrictlyIncreasing (rows_with_within rows n k)
unfolding rows_with_within
predecessors-rise rows n k = IsStrictlyIncreasing-filter (λ j. stands_in (row_at rows j) k) (range_with_len 0 n) (range-rises n)

member-within : (rows : List (List ℕ)) (n k j : ℕ) → j < n → stands_in (row_at rows j) k ≡ true → Contains (rows_with_within rows n k) j
unfolding rows_with_within
member-within rows n k j below there = Contains-filter (λ i. stands_in (row_at rows i) k) (range_with_len 0 n) j
    (Contains-stands (range_with_len 0 n) j (j, range-stands n j below)) there

within-member : (rows : List (List ℕ)) (n k j : ℕ) → Contains (rows_with_within rows n k) j → (j < n) × (stands_in (row_at rows j) k ≡ true)
unfolding rows_with_within
within-member rows n k j member =
    let kept = Contains-filter_cases (λ i. stands_in (row_at rows i) k) (range_with_len 0 n) j member in
    (range-below n j kept.0, kept.1)

-- there are as many rows as pairs
pub as_many : (system : System) (weighing : Weighing) (starts : List (ℕ × ℕ)) (explored : Explored) → IsExploredFrom system weighing starts explored
    → length explored.followers ≡ length explored.pairs
as_many system weighing starts explored source = length-named_rows explored.pairs explored.followers (followers system) explored.pairs source.followers

module _ (system : System) (weighing : Weighing) (starts : List (ℕ × ℕ)) (explored : Explored) (source : IsExploredFrom system weighing starts explored)
    (k : ℕ) (x : Pair) (here : StandsAt explored.pairs k x) where
  row-of : (j : ℕ) (y : Pair) → StandsAt explored.pairs j y → Name explored.pairs (row_at explored.followers j) (followers system y)
  row-of j y at = follower-row system weighing starts explored source j y at (row_at explored.followers j)
      (slice_get-get_or explored.followers j [] (omega (arith, as_many system weighing starts explored source, stands-below explored.pairs j y at)))

  follows-from : (j : ℕ) (y : Pair) → StandsAt explored.pairs j y → stands_in (row_at explored.followers j) k ≡ true → Contains (followers system y) x
  follows-from j y at there =
      let row = row_at explored.followers j in
      let found = list_any-cases (λ other. eqb k other) row there in
      let member = StandsIn-member row found.0 found.1 in
      let number : get_or row member.0 0 ≡ k = get_or_from_slice_get row member.0 found.0 0 member.1 ∙ sym (eqb-true k found.0 found.2) in
      let z = stands-some (followers system y) member.0
      (omega (arith, length-named explored.pairs row (followers system y) (row-of j y at), stands-below row member.0 found.0 member.1)) in
      let named : StandsAt explored.pairs k z.0 = subst (λ n. StandsAt explored.pairs n z.0) number
      (named-place explored.pairs row (followers system y) member.0 z.0 (row-of j y at) z.1) in
      Contains-stands (followers system y) x (member.0, z.1 ∙ ap Some (stands-one explored.pairs k z.0 x named here))

  stands-from : (j : ℕ) (y : Pair) → StandsAt explored.pairs j y → Contains (followers system y) x → stands_in (row_at explored.followers j) k ≡ true
  stands-from j y at follows =
      let row = row_at explored.followers j in
      let found = StandsIn-member (followers system y) x follows in
      let named = named-place explored.pairs row (followers system y) found.0 x (row-of j y at) found.1 in
      let number : get_or row found.0 0 ≡ k = source.reached.distinct (get_or row found.0 0) k x named here in
      list_any_at (λ other. eqb k other) row found.0 0
      (omega (arith, length-named explored.pairs row (followers system y) (row-of j y at), stands-below (followers system y) found.0 x found.1))
      (eq-eqb k (get_or row found.0 0) (sym number))

  pub are_predecessors : (row : List ℕ) → row ≡ rows_with explored.followers k → ArePredecessors system explored.pairs k row
  are_predecessors row is = record {
    x = x;
    here = here;
    exact = λ j. (
      (λ member.
          let kept = within-member explored.followers (length explored.followers) k j (subst (λ l. Contains l j) is member) in
          let y = stands-some explored.pairs j (omega (arith, as_many system weighing starts explored source, kept.0)) in
          (y.0, y.1, follows-from j y.0 y.1 kept.1)),
      (λ (y, at, follows).
          subst (λ l. Contains l j) (sym is)
          (member-within explored.followers (length explored.followers) k j
          (omega (arith, as_many system weighing starts explored source, stands-below explored.pairs j y at)) (stands-from j y at follows))),
    );
  }
