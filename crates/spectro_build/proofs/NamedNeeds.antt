-- Keys and what they stand for.
use Rattle.std.proofs.Common.{◌≡◌, ◌∙◌, inl, inr, ℕ, List, [], All, Contains, sym, ap, subst, arith, Some}
use Rattle.std.proofs.lemmas.Bool.{cases_lt, cases_eq}
use Rattle.std.proofs.lemmas.List.Elements.{All-contains}
use Rattle.std.proofs.lemmas.Option.{slice_get-get_or}
use Rattle.spectro_spec.specs.System.{System}
use Rattle.spectro_spec.specs.Weighing.{Weighing}
use Rattle.spectro_spec.specs.Price.{Price, parts}
use Rattle.spectro_spec.specs.LeastPrices.{Rises}
use Rattle.spectro_spec.proofs.FirstSmaller.{IsFirstSmaller-irrefl}
use Rattle.spectro_spec.proofs.Membership.{Contains-map_cases}
use Rattle.spectro_game.specs.Reached.{StandsAt}
use Rattle.spectro_game.specs.Rows.{listed_at}
use Rattle.spectro_energy.specs.Energy.{price_of}
use Rattle.spectro_rows.specs.Rows.{row_at}
use Rattle.spectro_theory.proofs.Places.{Contains-stands}
use Rattle.spectro_pairs.specs.Explored.{Explored, IsExploredFrom}
use Rattle.spectro_build.specs.Choices.{Need, Choice, choice_at}
use Rattle.spectro_build.specs.Keys.{IsKey, key_at, need_at, needs_at, price_at}
use Rattle.spectro_build.specs.LawsOfBuilding.{IsListed}
use Rattle.spectro_build.specs.Wanted.{IsSolvedFrom, pair_of}
use Rattle.spectro_build.specs.declared.key.Key.{Key}
use Rattle.spectro_build.proofs.Existence.{choice-exists}
use Rattle.spectro_build.proofs.NeedKeys.{rises-before}
use Rattle.spectro_build.proofs.SolvedArenas.{pair-stands, row-listed, solved-on}

-- in a list that rises no price stands twice
rises-once : (es : List Price) (i j : ℕ) (e : Price) → Rises es → StandsAt es i e → StandsAt es j e → i ≡ j
rises-once es i j e rises here there = elim (cases_eq i j) [
  | inl same ↦ same
  | inr apart ↦ absurd (elim (cases_lt i j) [
    | inl before ↦ IsFirstSmaller-irrefl (parts e) (rises-before es i j e e rises here there before)
    | inr after ↦ IsFirstSmaller-irrefl (parts e) (rises-before es j i e e rises there here (omega (arith, apart, after)))
  ])
]

module _ (system : System) (weighing : Weighing) (starts : List (ℕ × ℕ)) (explored : Explored) (source : IsExploredFrom system weighing starts explored)
    (rows : List (List Price)) (solved : IsSolvedFrom explored rows) where
  pub key-stands : (key : Key) → IsKey rows key → StandsAt explored.pairs key.pair (pair_of explored.pairs key.pair)
  key-stands key is = pair-stands explored.pairs key.pair (omega (arith, solved.count, is.pair))

  pub key-row : (key : Key) → IsKey rows key
      → listed_at explored.pairs rows (pair_of explored.pairs key.pair).state (pair_of explored.pairs key.pair).set ≡ row_at rows key.pair
  key-row key is = row-listed system weighing starts explored source rows solved key.pair (pair_of explored.pairs key.pair) (key-stands key is)

  pub price-stands : (key : Key) → IsKey rows key → StandsAt (row_at rows key.pair) key.place (price_at rows key.pair key.place)
  price-stands key is = slice_get-get_or (row_at rows key.pair) key.place (price_of []) is.place

  -- it is listed
  pub key-listed : (key : Key) → IsKey rows key → IsListed explored.pairs (listed_at explored.pairs rows) (need_at explored.pairs rows key)
  key-listed key is = record {
    reached = Contains-stands explored.pairs (pair_of explored.pairs key.pair) (key.pair, key-stands key is);
    listed = subst (λ es. Contains es (price_at rows key.pair key.place)) (sym (key-row key is))
        (Contains-stands (row_at rows key.pair) (price_at rows key.pair key.place) (key.place, price-stands key is));
  }

  -- so it has a choice
  pub key-choice : (key : Key) → IsKey rows key
      → (choice : Choice) × (choice_at weighing system (listed_at explored.pairs rows) (need_at explored.pairs rows key) ≡ Some choice)
  key-choice key is = choice-exists weighing system explored.pairs (listed_at explored.pairs rows)
      (solved-on system weighing starts explored source rows solved) (need_at explored.pairs rows key) (key-listed key is)

  -- its row rises
  pub key-rises : (key : Key) → IsKey rows key → Rises (row_at rows key.pair)
  key-rises key is = subst Rises (key-row key is)
      ((solved.solved system weighing starts source) (pair_of explored.pairs key.pair).state (pair_of explored.pairs key.pair).set
      (key-listed key is).reached).rises

  -- one key stands for it
  pub need-one : (one other : Key) → IsKey rows one → IsKey rows other → need_at explored.pairs rows one ≡ need_at explored.pairs rows other → one ≡ other
  need-one one other first second same = first.value ∙ (λ i. key_at rows (pair i) (place i)) ∙ sym second.value
    where
      pair : one.pair ≡ other.pair
      pair = source.reached.distinct one.pair other.pair (pair_of explored.pairs other.pair)
          (subst (StandsAt explored.pairs one.pair) (ap (λ (x : Need). x.pair) same) (key-stands one first)) (key-stands other second)

      place : one.place ≡ other.place
      place = rises-once (row_at rows one.pair) one.place other.place (price_at rows one.pair one.place) (key-rises one first) (price-stands one first)
          (subst (λ k. StandsAt (row_at rows k) other.place (price_at rows one.pair one.place)) (sym pair)
          (subst (StandsAt (row_at rows other.pair) other.place) (sym (ap (λ (x : Need). x.price) same)) (price-stands other second)))

  -- a key stands among keys where what it stands for is among what they stand for
  pub key-member : (keys : List Key) (key : Key) → All (IsKey rows) keys → IsKey rows key
      → Contains (needs_at explored.pairs rows keys) (need_at explored.pairs rows key) → Contains keys key
  key-member keys key all is member =
      let (other, there, same) = Contains-map_cases (need_at explored.pairs rows) keys (need_at explored.pairs rows key) member in
      subst (Contains keys) (need-one other key (All-contains (IsKey rows) keys other all there) is same) there
