-- After each generation a pair's list has what the followers make whose lists did not change in it.
use Rattle.std.proofs.Common.{ℕ, zero, suc, ◌≡◌, ◌≢◌, inl, inr, List, [], ◌∷◌, Bool, Option, Some, None, All, Contains, ◌≤◌, map, position, refl, sym, ap, subst, ◌∙◌, arith}
use Rattle.std.specs.Str.{bytes_eq}
use Rattle.std.proofs.lemmas.List.Elements.{All-contains}
use Rattle.spectro_spec.specs.System.{System, post}
use Rattle.spectro_spec.specs.Weighing.{Weighing, weight_of}
use Rattle.spectro_spec.specs.Price.{Price, IsAtMost}
use Rattle.spectro_spec.specs.LeastPrices.{Covers}
use Rattle.spectro_spec.proofs.Membership.{Contains-map}
use Rattle.spectro_spec.proofs.Members.{Contains-cases, Contains-first, Contains-none}
use Rattle.spectro_game.specs.Update.{inverse, observe, to_negative, to_other}
use Rattle.spectro_game.specs.Divisions.{IsDivided, nothing, to_left}
use Rattle.spectro_game.specs.Pairs.{Pair, IsClosed, IsOneOf, IsFollower}
use Rattle.spectro_game.specs.Reached.{StandsAt}
use Rattle.spectro_game.specs.BackwardStep.{Affords, AffordsClause, AffordsSplit}
use Rattle.spectro_game.specs.Generations.{Table, generation, members_of}
use Rattle.spectro_game.specs.Rows.{generation_rows, listed_at}
use Rattle.spectro_theory.proofs.BackwardSteps.{affords-backward_step, backward_step-affords, generation-AreGenerations}
use Rattle.spectro_theory.proofs.Divided.{Contains-divided_cases, Contains-right, IsDivided-all_right, divided_at}
use Rattle.spectro_theory.specs.LawsOfGenerations.{NoStepWeighsLess}
use Rattle.spectro_theory.proofs.Floors.{generation-floor}
use Rattle.spectro_theory.proofs.Followers.{follows_subset, follows_swapped}
use Rattle.spectro_theory.proofs.Locality.{Affords-grows}
use Rattle.spectro_theory.proofs.MappedPlaces.{map-at}
use Rattle.spectro_theory.proofs.Places.{Contains-stands, StandsIn-member}
use Rattle.spectro_theory.proofs.PriceOrder.{IsAtMost-refl}
use Rattle.spectro_theory.proofs.Ranks.{grows}
use Rattle.spectro_theory.proofs.ReachedPairs.{reached-closed}
use Rattle.spectro_theory.proofs.RowsOfGenerations.{listed_at-generation}
use Rattle.spectro_rows.specs.Rows.{row_at}
use Rattle.spectro_lts.specs.Labels.{labels_of}
use Rattle.spectro_lts.proofs.LabelLaws.{found_label, no_step_has}
use Rattle.spectro_pairs.specs.Explored.{Explored, IsExploredFrom, start_pairs}
use Rattle.spectro_solve.specs.Added.{IsMadeBy}
use Rattle.spectro_solve.specs.Fresh.{AreFresh, IsKept, IsOnFloor, IsSplitFollower}
use Rattle.spectro_solve.specs.Marks.{IsMarked}

-- all members on the left
all-left : (qs : List ℕ) → IsDivided qs qs []
all-left [] = nothing
all-left (q ∷ qs) = to_left (all-left qs)

-- what a split affords rests on the lists of the pairs that follow by splits
split-same : (table other : Table) (x : Pair) (b : Price)
    → ((y : Pair) → IsSplitFollower x y → table y.state y.set ≡ other y.state y.set)
    → AffordsSplit (members_of table) x.state x.set b → AffordsSplit (members_of other) x.state x.set b
split-same table other x b same (left, right, divided, deepest, others) = (
  left,
  right,
  divided,
  (λ some. let (f, member, below) = deepest some in
      (f, subst (λ es. Contains es f) (same (record { state = x.state; set = left }) (inl (refl, some, (right, divided)))) member, below)),
  λ q among. clause q (Contains-right divided q among) (others q among),
)
  where
    clause : (q : ℕ) → Contains x.set q → AffordsClause (members_of table) x.state q b → AffordsClause (members_of other) x.state q b
    clause q member (inl (f, listed, below)) =
        let one = divided_at x.set q member in
        inl (f, subst (λ es. Contains es f) (same (record { state = x.state; set = q ∷ [] }) (inl (refl, (λ none. cc), (one.0, one.1)))) listed, below)
    clause q member (inr (apart, (f, listed, below))) =
        inr (apart, (f, subst (λ es. Contains es f) (same (record { state = q; set = x.state ∷ [] }) (inr (member, apart, refl))) listed, below))

-- lists that are all empty afford no split of a set that is not empty
no-split : (p : ℕ) (qs : List ℕ) (b : Price) → qs ≢ [] → AffordsSplit (members_of (λ q rs. [])) p qs b → ⊥
no-split p [] b some split = some refl
no-split p (q ∷ qs) b some (left, right, divided, deepest, others) = elim (Contains-divided_cases divided q (Contains-first q qs)) [
  | inl member ↦ let (f, listed, low) = deepest (λ none. Contains-none q (subst (λ l. Contains l q) none member)) in Contains-none f listed
  | inr among ↦ elim (others q among) [
    | inl (f, member, low) ↦ Contains-none f member
    | inr (apart, (f, member, low)) ↦ Contains-none f member
  ]
]

-- a pair that follows by a split is a follower
split-follows : (system : System) (x y : Pair) → IsSplitFollower x y → IsFollower system x.state x.set y.state y.set
split-follows system x y (inl (state, some, (right, divided))) =
    subst (λ p. IsFollower system x.state x.set p y.set) (sym state) (follows_subset system x.state x.set y.set right some divided)
split-follows system x y (inr (member, apart, alone)) =
    subst (λ s. IsFollower system x.state x.set y.state s) (sym alone) (follows_swapped system x.state x.set y.state member apart)

module _ (weighing : Weighing) (system : System) (starts : List (ℕ × ℕ)) (explored : Explored) (source : IsExploredFrom system weighing starts explored)
    (rows : List (List Price)) (fresh : List Bool) where
  closed : IsClosed system (IsOneOf explored.pairs)
  closed = reached-closed system (start_pairs starts) explored.pairs source.reached

  row-at : (n : ℕ) → rows ≡ generation_rows weighing system explored.pairs n → (j : ℕ) (y : Pair) → StandsAt explored.pairs j y
      → row_at rows j ≡ generation weighing system n y.state y.set
  unfolding generation_rows
  row-at n is j y there = map-at (λ (z : Pair). generation weighing system n z.state z.set) explored.pairs rows j y [] is there

  listed : (n : ℕ) → rows ≡ generation_rows weighing system explored.pairs n → (x : Pair) → IsOneOf explored.pairs x.state x.set → (y : Pair)
      → IsFollower system x.state x.set y.state y.set → listed_at explored.pairs rows y.state y.set ≡ generation weighing system n y.state y.set
  listed n is x known y follows = ap (λ l. listed_at explored.pairs l y.state y.set) is
      ∙ listed_at-generation weighing system explored.pairs n y.state y.set (closed x.state x.set y.state y.set known follows)

  number-of : (x y : Pair) → IsOneOf explored.pairs x.state x.set → IsFollower system x.state x.set y.state y.set → (j : ℕ) × StandsAt explored.pairs j y
  number-of x y known follows = StandsIn-member explored.pairs y (closed x.state x.set y.state y.set known follows)

  -- no step is under a label that weighs less than all labels of the system do
  light : (least : ℕ) → All (λ weight. least ≤ weight) explored.weights → NoStepWeighsLess weighing system least
  light least low s t label step = All-contains (λ weight. least ≤ weight) (map (weight_of weighing) (labels_of system.steps)) (weight_of weighing label)
      (subst (All (λ weight. least ≤ weight)) source.weights low)
      (Contains-map (weight_of weighing) (labels_of system.steps) label (label-there (position (bytes_eq label) (labels_of system.steps)) refl))
    where
      label-there : (found : Option ℕ) → position (bytes_eq label) (labels_of system.steps) ≡ found → Contains (labels_of system.steps) label
      label-there None none = absurd (no_step_has system.steps label (record { source = s; label = label; target = t }) none refl step)
      label-there (Some n) some = Contains-stands (labels_of system.steps) label (n, found_label (labels_of system.steps) label n some)

  on-floor : (n : ℕ) → rows ≡ generation_rows weighing system explored.pairs n → (k : ℕ) (x : Pair) → StandsAt explored.pairs k x
      → (e : Price) → Affords weighing system (members_of (listed_at explored.pairs rows)) x.state x.set e → IsOnFloor explored.weights x.set e
  on-floor n is k x here e afforded =
      let over = Affords-grows weighing system (members_of (listed_at explored.pairs rows)) (members_of (generation weighing system n)) x.state x.set
      (λ p qs f follows member. (
        f,
        subst (λ es. Contains es f)
            (listed n is x (Contains-stands explored.pairs x (k, here)) (record { state = p; set = qs }) follows) member,
        IsAtMost-refl f,
      )) e afforded in
      record {
        conjunctions = (generation-floor weighing system 0 (λ s t label step. omega arith) n x.state x.set e over).0;
        observation = λ some least low. (generation-floor weighing system least (light least low) n x.state x.set e over).1 some;
      }

  -- before the first generation all lists are empty, so that nothing is made of them
  kept-first : rows ≡ generation_rows weighing system explored.pairs 0 → (k : ℕ) (x : Pair) → StandsAt explored.pairs k x
      → IsKept weighing system explored rows fresh k x
  unfolding generation
  kept-first is k x here = record {
    sound = λ e (f, member, low). absurd (empty k x here f member);
    observed = λ label t j step there stale e (f, member, low). absurd (empty j (record { state = t; set = post system x.set label }) there f member);
    turned = λ q j alone apart there stale e (f, member, low). absurd (empty j (record { state = q; set = x.state ∷ [] }) there f member);
    split = λ some stale e (b, split, low). absurd (no-split x.state x.set b some (split-same (listed_at explored.pairs rows) (λ p qs. []) x b
        (λ y by. nothing-listed y (closed x.state x.set y.state y.set (Contains-stands explored.pairs x (k, here)) (split-follows system x y by))) split));
    on_floor = on-floor 0 is k x here;
  }
    where
      empty : (j : ℕ) (y : Pair) → StandsAt explored.pairs j y → (f : Price) → Contains (row_at rows j) f → ⊥
      empty j y there f member = Contains-none f (subst (λ es. Contains es f) (row-at 0 is j y there) member)

      nothing-listed : (y : Pair) → IsOneOf explored.pairs y.state y.set → listed_at explored.pairs rows y.state y.set ≡ []
      nothing-listed y known = ap (λ l. listed_at explored.pairs l y.state y.set) is ∙ listed_at-generation weighing system explored.pairs 0 y.state y.set known

  module _ (m : ℕ) (is : rows ≡ generation_rows weighing system explored.pairs (suc m)) (others : AreFresh weighing system explored.pairs (suc m) fresh)
      (k : ℕ) (x : Pair) (here : StandsAt explored.pairs k x) where
    known : IsOneOf explored.pairs x.state x.set
    known = Contains-stands explored.pairs x (k, here)

    -- what the generation before affords, the list covers
    covered : (e : Price) → Affords weighing system (members_of (generation weighing system m)) x.state x.set e → Covers (row_at rows k) e
    unfolding generation
    covered e afforded = subst (λ es. Covers es e) (sym (row-at (suc m) is k x here))
        (affords-backward_step weighing system (generation weighing system m) x.state x.set e afforded)

    -- what is not fresh is as it was before
    before-is : (j : ℕ) (y : Pair) → StandsAt explored.pairs j y → ¬ IsMarked fresh j → row_at rows j ≡ generation weighing system m y.state y.set
    before-is j y there stale = row-at (suc m) is j y there ∙ others j y there stale

    sound-later : (e : Price) → Covers (row_at rows k) e → Affords weighing system (members_of (listed_at explored.pairs rows)) x.state x.set e
    unfolding generation
    sound-later e own =
        let made = subst (λ es. Covers es e) (row-at (suc m) is k x here) own in
        Affords-grows weighing system (members_of (generation weighing system m)) (members_of (listed_at explored.pairs rows)) x.state x.set
        (λ p qs f follows member.
        let (g, more, low) =
        grows weighing system (generation weighing system) (generation-AreGenerations weighing system) m p qs f (f, member, IsAtMost-refl f) in
        (g, subst (λ es. Contains es g) (sym (listed (suc m) is x known (record { state = p; set = qs }) follows)) more, low)) e
        (backward_step-affords weighing system (generation weighing system m) x.state x.set e made)

    kept-later : IsKept weighing system explored rows fresh k x
    kept-later = record {
      sound = sound-later;
      observed = λ label t j step there stale e made.
          covered e (inl (
            label,
            t,
            step,
            subst (λ es. IsMadeBy (observe (weight_of weighing label)) es e)
                (before-is j (record { state = t; set = post system x.set label }) there stale) made,
          ));
      turned = λ q j alone apart there stale e (f, member, low).
          covered e (inr (
            inverse to_other (inverse to_negative f),
            (
              [],
              x.set,
              IsDivided-all_right x.set,
              (λ some. absurd (some refl)),
              λ r among. elim (Contains-cases q [] r (subst (λ s. Contains s r) alone among)) [
                | inl same ↦ inr (subst (λ z. (x.state ≢ z) × ((g : Price) × Contains (generation weighing system m z (x.state ∷ [])) g
                    × IsAtMost (inverse to_other (inverse to_negative g)) (inverse to_other (inverse to_negative f)))) same (
                      apart,
                      (
                        f,
                        subst (λ es. Contains es f) (before-is j (record { state = q; set = x.state ∷ [] }) there stale) member,
                        IsAtMost-refl (inverse to_other (inverse to_negative f)),
                      ),
                    ))
                | inr none ↦ absurd (Contains-none r none)
              ],
            ),
            low,
          ));
      split = λ some stale e (b, split, low).
          covered e (inr (
            b,
            split-same (listed_at explored.pairs rows) (generation weighing system m) x b
                (λ y by. let follows = split-follows system x y by in
                let number = number-of x y known follows in
                listed (suc m) is x known y follows ∙ sym (row-at (suc m) is number.0 y number.1)
                ∙ before-is number.0 y number.1 (stale number.0 y number.1 by)) split,
            low,
          ));
      on_floor = on-floor (suc m) is k x here;
    }

  pub kept-after : (n : ℕ) → rows ≡ generation_rows weighing system explored.pairs n → AreFresh weighing system explored.pairs n fresh → (k : ℕ) (x : Pair)
      → StandsAt explored.pairs k x → IsKept weighing system explored rows fresh k x
  kept-after zero is fresh-ones k x here = kept-first is k x here
  kept-after (suc m) is fresh-ones k x here = kept-later m is fresh-ones k x here
