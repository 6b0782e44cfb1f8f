-- One generation: what is put in is the next one, and what is marked are the pairs that the one after it evaluates.
use Rattle.std.proofs.Common.{ℕ, suc, ◌≡◌, ◌≢◌, ◌+◌, ◌<◌, ◌⊎◌, inl, inr, List, [], ◌∷◌, length, map, get_or, Contains, Bool, true, false, cond, refl, sym, ap, ◌∙◌, subst, arith}
use Rattle.std.specs.Prelude.{◌↔◌}
use Rattle.std.specs.List.{list_any, count_by}
use Rattle.std.proofs.lemmas.Bool.{cases_Bool, false_from_ne_true}
use Rattle.std.proofs.lemmas.List.{length-map}
use Rattle.std.proofs.lemmas.List.Sums.{sum_by-cons}
use Rattle.spectro_spec.specs.System.{System}
use Rattle.spectro_spec.specs.Weighing.{Weighing}
use Rattle.spectro_spec.specs.Price.{Price}
use Rattle.spectro_spec.proofs.Membership.{list_any-has, list_any-cases}
use Rattle.spectro_game.specs.Pairs.{Pair, IsFollower, IsClosed, IsOneOf}
use Rattle.spectro_game.specs.Reached.{StandsAt}
use Rattle.spectro_game.specs.Generations.{generation}
use Rattle.spectro_game.specs.Rows.{listed_at, generation_rows}
use Rattle.spectro_game.specs.Marks.{has_changed, is_marked}
use Rattle.spectro_theory.specs.LawsOfGenerations.{HasChangedFollower}
use Rattle.spectro_theory.proofs.Locality.{backward_step-local, has_changed-Decides, is_marked-Decides, unmarked-keeps}
use Rattle.spectro_theory.proofs.MappedPlaces.{map-at, map-whole}
use Rattle.spectro_theory.proofs.Places.{stands-one, stands-some, StandsIn-member, Contains-stands}
use Rattle.spectro_theory.proofs.ReachedPairs.{reached-closed}
use Rattle.spectro_theory.proofs.RowsOfGenerations.{listed_at-generation}
use Rattle.spectro_rows.specs.Rows.{row_at}
use Rattle.spectro_pairs.specs.Explored.{Explored, IsExploredFrom, start_pairs}
use Rattle.spectro_solve.specs.Changes.{HasChange, Changes, AreChanges, ArePut, PrecedesSome}
use Rattle.spectro_solve.specs.Counts.{changing_generations_to}
use Rattle.spectro_solve.specs.Evaluations.{IsEvaluated}
use Rattle.spectro_solve.specs.Fresh.{AreFresh}
use Rattle.spectro_solve.specs.Marks.{IsMarked, count_marked}
use Rattle.spectro_solve.specs.Solving.{IsAfter, evaluations_before}
use Rattle.spectro_solve.specs.Tables.{Solved}
use Rattle.spectro_solve.specs.declared.generations.Change.{Change}
use Rattle.spectro_solve.proofs.Marked.{marked-below}

-- flags that are set alike are the same
same-flag : (a b : Bool) → (a ≡ true → b ≡ true) → (b ≡ true → a ≡ true) → a ≡ b
same-flag true b there back = sym (there refl)
same-flag false true there back = back refl
same-flag false false there back = refl

module _ (weighing : Weighing) (system : System) (starts : List (ℕ × ℕ)) (explored : Explored) (source : IsExploredFrom system weighing starts explored)
    (n : ℕ) (rows : List (List Price)) (flags : List Bool) (numbers : List ℕ) (changes : List Change)
    (is : rows ≡ generation_rows weighing system explored.pairs n) (marks : flags ≡ map (is_marked weighing system n) explored.pairs)
    (numbered : (k : ℕ) → Contains numbers k ↔ IsMarked flags k) (found : AreChanges explored rows numbers changes) where
  abbrev pairs : List Pair
  pairs = explored.pairs

  abbrev now : Pair → List Price
  now x = generation weighing system n x.state x.set

  abbrev later : Pair → List Price
  later x = generation weighing system (suc n) x.state x.set

  closed : IsClosed system (IsOneOf explored.pairs)
  closed = reached-closed system (start_pairs starts) explored.pairs source.reached

  row-now : (k : ℕ) (x : Pair) → StandsAt explored.pairs k x → row_at rows k ≡ now x
  unfolding generation_rows
  row-now k x here = map-at now explored.pairs rows k x [] is here

  flag-now : (k : ℕ) (x : Pair) → StandsAt explored.pairs k x → get_or flags k false ≡ is_marked weighing system n x
  flag-now k x here = map-at (is_marked weighing system n) explored.pairs flags k x false marks here

  -- an evaluation at a pair makes its next list
  evaluated-is : (k : ℕ) (x : Pair) (list : List Price) → StandsAt explored.pairs k x → IsEvaluated explored rows k list → list ≡ later x
  unfolding generation
  evaluated-is k x list here evaluated = evaluated system weighing starts source x here
      ∙ backward_step-local weighing system (listed_at explored.pairs rows) (generation weighing system n) x.state x.set
      (λ p qs follows. ap (λ l. listed_at explored.pairs l p qs) is
      ∙ listed_at-generation weighing system explored.pairs n p qs (closed x.state x.set p qs (Contains-stands explored.pairs x (k, here)) follows))

  -- a pair keeps its list or has a change
  kept-or-changed : (k : ℕ) (x : Pair) → StandsAt explored.pairs k x → (later x ≡ now x) ⊎ ((list : List Price) × Changes changes k list)
  kept-or-changed k x here = elim (cases_Bool (is_marked weighing system n x)) [
    | inl marked ↦ elim (found.whole k ((numbered k).1 (flag-now k x here ∙ marked))) [
      | inl kept ↦ inl (sym (evaluated-is k x (row_at rows k) here kept) ∙ row-now k x here)
      | inr change ↦ inr change
    ]
    | inr unmarked ↦ inl (unmarked-keeps weighing system n x unmarked)
  ]

  -- where a change is marked, what is not marked kept its list
  pub fresh-after : (fresh : List Bool) → ((k : ℕ) → HasChange changes k → IsMarked fresh k) → AreFresh weighing system explored.pairs (suc n) fresh
  fresh-after fresh marked j y there stale = elim (kept-or-changed j y there) [ inl kept ↦ kept | inr change ↦ absurd (stale (marked j change)) ]

  change-is : (k : ℕ) (x : Pair) (list : List Price) → StandsAt explored.pairs k x → Changes changes k list → list ≡ later x
  change-is k x list here change = evaluated-is k x list here (found.evaluated k list change)

  change-differs : (k : ℕ) (x : Pair) (list : List Price) → StandsAt explored.pairs k x → Changes changes k list → later x ≢ now x
  change-differs k x list here change same = found.other k list change (change-is k x list here change ∙ same ∙ sym (row-now k x here))

  -- a change is of some pair
  change-below : (k : ℕ) (list : List Price) → Changes changes k list → (x : Pair) × StandsAt explored.pairs k x
  change-below k list change = stands-some explored.pairs k (below ((numbered k).0 (found.within k list change)))
    where
      below : IsMarked flags k → k < length explored.pairs
      below marked = let inside = marked-below flags k marked in omega (arith, ap length marks, length-map explored.pairs (is_marked weighing system n))

  -- what is put in
  pub next-rows : (new : List (List Price)) → ArePut changes rows new → new ≡ generation_rows weighing system explored.pairs (suc n)
  unfolding generation_rows
  next-rows new put = map-whole later explored.pairs new []
      (put.many ∙ ap length is ∙ length-map explored.pairs now)
      (λ k x here. elim (put.rows k) [
        | inl change ↦ change-is k x (row_at new k) here change
        | inr (same, none) ↦ same ∙ row-now k x here ∙ elim (kept-or-changed k x here) [
          | inl kept ↦ sym kept
          | inr (list, change) ↦ absurd (none list change)
        ]
      ])

  -- what is marked
  precedes-changed : (k : ℕ) (x : Pair) → StandsAt explored.pairs k x → PrecedesSome system explored.pairs changes k → HasChangedFollower weighing system n x
  precedes-changed k x here before = (
    before.to.state,
    before.to.set,
    subst (λ (y : Pair). IsFollower system y.state y.set before.to.state before.to.set) (stands-one explored.pairs k before.from x before.here here)
        before.follows,
    change-differs before.changed before.to before.list before.there before.change,
  )

  changed-precedes : (k : ℕ) (x : Pair) → StandsAt explored.pairs k x → HasChangedFollower weighing system n x → PrecedesSome system explored.pairs changes k
  changed-precedes k x here (p, qs, follows, differs) =
      let y : Pair = record { state = p; set = qs } in
      let at = StandsIn-member explored.pairs y (closed x.state x.set p qs (Contains-stands explored.pairs x (k, here)) follows) in
      elim (kept-or-changed at.0 y at.1) [
        | inl kept ↦ absurd (differs kept)
        | inr (list, change) ↦ record {
          changed = at.0;
          list = list;
          change = change;
          from = x;
          here = here;
          to = y;
          there = at.1;
          follows = follows;
        }
      ]

  pub next-marks : (more : List Bool) → length more ≡ length explored.pairs
      → ((k : ℕ) → IsMarked more k ↔ PrecedesSome system explored.pairs changes k) → more ≡ map (is_marked weighing system (suc n)) explored.pairs
  next-marks more many exact = map-whole (is_marked weighing system (suc n)) explored.pairs more false many
      (λ k x here. same-flag (get_or more k false) (is_marked weighing system (suc n) x)
      (λ marked. (is_marked-Decides weighing system n x).1 (precedes-changed k x here ((exact k).0 marked)))
      (λ marked. (exact k).1 (changed-precedes k x here ((is_marked-Decides weighing system n x).0 marked))))

  -- whether some list changed
  pub some-changed : (k : ℕ) (list : List Price) → Changes changes k list → list_any (has_changed weighing system n) explored.pairs ≡ true
  some-changed k list change = let at = change-below k list change in
      list_any-has (has_changed weighing system n) explored.pairs at.0 (Contains-stands explored.pairs at.0 (k, at.1))
      ((has_changed-Decides weighing system n at.0 at.0).1 (change-differs k at.0 list at.1 change))

  pub none-changed : ((k : ℕ) (list : List Price) → ¬ Changes changes k list) → list_any (has_changed weighing system n) explored.pairs ≡ false
  none-changed none = false_from_ne_true (list_any (has_changed weighing system n) explored.pairs) (λ some.
      let changed = list_any-cases (has_changed weighing system n) explored.pairs some in
      let at = StandsIn-member explored.pairs changed.0 changed.1 in
      elim (kept-or-changed at.0 changed.0 at.1) [
        | inl kept ↦ (has_changed-Decides weighing system n changed.0 changed.0).0 changed.2 kept
        | inr (list, change) ↦ none at.0 list change
      ])

count_by-map : {X : Type 0} (test : X → Bool) (xs : List X) → count_marked (map test xs) ≡ count_by test xs
count_by-map test [] = refl
count_by-map test (x ∷ xs) =
    let later = count_by-map test xs in
    omega (arith, sum_by-cons (λ (flag : Bool). cond flag 1 0) (test x) (map test xs), sum_by-cons (λ y. cond (test y) 1 0) x xs)

-- what is known after a generation: its changes, what was put in, and what was marked
pub record IsDone (system : System) (explored : Explored) (old new : Solved) (flags more : List Bool) (numbers : List ℕ) (changes : List Change) : Type 0 where
  pub numbered : (k : ℕ) → Contains numbers k ↔ IsMarked flags k
  pub many : length numbers ≡ count_marked flags
  pub found : AreChanges explored old.rows numbers changes
  pub put : ArePut changes old.rows new.rows
  pub marks : length more ≡ length explored.pairs
  pub marked : (k : ℕ) → IsMarked more k ↔ PrecedesSome system explored.pairs changes k
  pub evaluations : new.evaluations ≡ old.evaluations + length numbers

module _ (weighing : Weighing) (system : System) (starts : List (ℕ × ℕ)) (explored : Explored) (source : IsExploredFrom system weighing starts explored)
    (n : ℕ) (old new : Solved) (flags more : List Bool) (numbers : List ℕ) (changes : List Change)
    (done : IsDone system explored old new flags more numbers changes) (before : IsAfter weighing system explored.pairs n old flags) where
  goes-on : new.generations ≡ old.generations + cond (list_any (has_changed weighing system n) explored.pairs) 1 0
      → IsAfter weighing system explored.pairs (suc n) new more
  unfolding changing_generations_to evaluations_before
  goes-on counted = record {
    rows = next-rows weighing system starts explored source n old.rows flags numbers changes before.rows before.marks done.numbered done.found
        new.rows done.put;
    marks = next-marks weighing system starts explored source n old.rows flags numbers changes before.rows before.marks done.numbered done.found
        more done.marks done.marked;
    generations = counted ∙ ap (λ k. k + cond (list_any (has_changed weighing system n) explored.pairs) 1 0) before.generations;
    evaluations = done.evaluations ∙ ap (λ k. k + length numbers) before.evaluations
        ∙ ap (λ k. evaluations_before weighing system explored.pairs n + k)
        (done.many ∙ ap count_marked before.marks ∙ count_by-map (is_marked weighing system n) explored.pairs);
  }

  -- some list changed
  pub goes-on-changed : (k : ℕ) (list : List Price) → Changes changes k list → new.generations ≡ old.generations + 1
      → IsAfter weighing system explored.pairs (suc n) new more
  goes-on-changed k list change counted =
      let some = some-changed weighing system starts explored source n old.rows flags numbers changes before.rows before.marks done.numbered done.found
      k list change in
      goes-on (counted ∙ ap (λ b. old.generations + cond b 1 0) (sym some))

  -- none did
  pub goes-on-still : ((k : ℕ) (list : List Price) → ¬ Changes changes k list) → new.generations ≡ old.generations
      → IsAfter weighing system explored.pairs (suc n) new more
  goes-on-still none counted =
      let still = none-changed weighing system starts explored source n old.rows flags numbers changes before.rows before.marks done.numbered done.found none in
      let same : new.generations ≡ old.generations + cond false 1 0 = omega (arith, counted) in
      goes-on (same ∙ ap (λ b. old.generations + cond b 1 0) (sym still))
