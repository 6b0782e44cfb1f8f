-- Changes that are found, put in and followed back one by one.
use Rattle.std.proofs.Common.{ℕ, ◌≡◌, ◌≢◌, ◌+◌, ◌<◌, ◌⊎◌, inl, inr, List, [], ◌∷◌, ◌++◌, length, take, get_or, set, Contains, Bool, true, false, eqb, refl, sym, ap, ◌∙◌, subst, arith}
use Rattle.std.specs.Prelude.{◌↔◌}
use Rattle.std.proofs.lemmas.Bool.Decides.{Decides-eqb, not_from_Decides}
use Rattle.std.proofs.lemmas.List.{get_or-set_same, get_or-set_other, length-set, take_more}
use Rattle.std.proofs.lemmas.List.Elements.{Contains-push, Contains-push_cases, Contains-append_left, Contains-append_right}
use Rattle.spectro_spec.specs.System.{System}
use Rattle.spectro_spec.specs.Price.{Price}
use Rattle.spectro_spec.proofs.Members.{Contains-first, Contains-none}
use Rattle.spectro_game.specs.Pairs.{Pair, IsFollower}
use Rattle.spectro_game.specs.Reached.{StandsAt}
use Rattle.spectro_theory.proofs.MinimalElements.{by_test}
use Rattle.spectro_theory.proofs.Places.{stands-one}
use Rattle.spectro_rows.specs.Rows.{row_at}
use Rattle.spectro_pairs.specs.Arenas.{ArePredecessors}
use Rattle.spectro_pairs.specs.Explored.{Explored}
use Rattle.spectro_solve.specs.Changes.{Changes, AreChanges, ArePut, IsPutAt, HasEvaluated, PrecedesSome, HasChange}
use Rattle.spectro_solve.specs.Evaluations.{IsEvaluated}
use Rattle.spectro_solve.specs.Marks.{IsMarked}
use Rattle.spectro_solve.specs.declared.generations.Change.{Change}

-- one more of a list
pub more-cases : {X : Type 0} (xs : List X) (i : ℕ) (d x : X) → i < length xs → Contains (take (i + 1) xs) x → Contains (take i xs) x ⊎ (get_or xs i d ≡ x)
more-cases xs i d x below listed = Contains-push_cases (take i xs) (get_or xs i d) x (subst (λ l. Contains l x) (take_more xs i d below) listed)

pub more-old : {X : Type 0} (xs : List X) (i : ℕ) (d x : X) → i < length xs → Contains (take i xs) x → Contains (take (i + 1) xs) x
more-old xs i d x below listed = subst (λ l. Contains l x) (sym (take_more xs i d below)) (Contains-append_left (take i xs) (get_or xs i d ∷ []) x listed)

pub more-new : {X : Type 0} (xs : List X) (i : ℕ) (d : X) → i < length xs → Contains (take (i + 1) xs) (get_or xs i d)
more-new xs i d below = subst (λ l. Contains l (get_or xs i d)) (sym (take_more xs i d below)) (Contains-push (take i xs) (get_or xs i d))

-- ---- one evaluation more
changes-same : (explored : Explored) (rows : List (List Price)) (numbers : List ℕ) (i : ℕ) (changes : List Change) → i < length numbers
    → AreChanges explored rows (take i numbers) changes → IsEvaluated explored rows (get_or numbers i 0) (row_at rows (get_or numbers i 0))
    → AreChanges explored rows (take (i + 1) numbers) changes
changes-same explored rows numbers i changes below before kept = record {
  within = λ k list change. more-old numbers i 0 k below (before.within k list change);
  evaluated = before.evaluated;
  other = before.other;
  whole = λ k listed. elim (more-cases numbers i 0 k below listed) [
    | inl old ↦ before.whole k old
    | inr one ↦ inl (subst (λ j. IsEvaluated explored rows j (row_at rows j)) one kept)
  ];
}

-- what holds of the old changes and of the last one
last-case : (P : ℕ → List Price → Type 0) (old : List Change) (j : ℕ) (made : List Price) → ((k : ℕ) (list : List Price) → Changes old k list → P k list)
    → P j made → (k : ℕ) (list : List Price) → Changes (old ++ record { pair = j; list = made } ∷ []) k list → P k list
last-case P old j made before last k list change =
    elim (Contains-push_cases old (record { pair = j; list = made }) (record { pair = k; list = list }) change) [
      | inl earlier ↦ before k list earlier
      | inr same ↦ subst (λ (x : Change). P x.pair x.list) same last
    ]

changes-last : (explored : Explored) (rows : List (List Price)) (numbers : List ℕ) (i : ℕ) (changes : List Change) (made : List Price) → i < length numbers
    → AreChanges explored rows (take i numbers) changes → IsEvaluated explored rows (get_or numbers i 0) made → made ≢ row_at rows (get_or numbers i 0)
    → AreChanges explored rows (take (i + 1) numbers) (changes ++ record { pair = get_or numbers i 0; list = made } ∷ [])
changes-last explored rows numbers i changes made below before evaluated other = record {
  within = last-case (λ k list. Contains (take (i + 1) numbers) k) changes (get_or numbers i 0) made
      (λ k list change. more-old numbers i 0 k below (before.within k list change)) (more-new numbers i 0 below);
  evaluated = last-case (IsEvaluated explored rows) changes (get_or numbers i 0) made before.evaluated evaluated;
  other = last-case (λ k list. list ≢ row_at rows k) changes (get_or numbers i 0) made before.other other;
  whole = λ k listed. elim (more-cases numbers i 0 k below listed) [
    | inl old ↦ elim (before.whole k old) [
      | inl kept ↦ inl kept
      | inr (list, change) ↦ inr (
        list,
        Contains-append_left changes (record { pair = get_or numbers i 0; list = made } ∷ []) (record { pair = k; list = list }) change,
      )
    ]
    | inr one ↦ inr (
      made,
      subst (λ j. Changes (changes ++ record { pair = get_or numbers i 0; list = made } ∷ []) j made) one
          (Contains-push changes (record { pair = get_or numbers i 0; list = made })),
    )
  ];
}

pub changes-more : (explored : Explored) (rows : List (List Price)) (numbers : List ℕ) (i : ℕ) (old new : List Change) → i < length numbers
    → AreChanges explored rows (take i numbers) old → HasEvaluated explored rows (get_or numbers i 0) old new
    → AreChanges explored rows (take (i + 1) numbers) new
changes-more explored rows numbers i old new below before (inl (same, kept)) = subst (AreChanges explored rows (take (i + 1) numbers)) (sym same)
    (changes-same explored rows numbers i old below before kept)
changes-more explored rows numbers i old new below before (inr (made, now, evaluated, other)) =
    subst (AreChanges explored rows (take (i + 1) numbers)) (sym now)
    (changes-last explored rows numbers i old made below before evaluated other)

pub changes-none : (explored : Explored) (rows : List (List Price)) → AreChanges explored rows [] []
changes-none explored rows = record {
  within = λ k list change. absurd (Contains-none _ change);
  evaluated = λ k list change. absurd (Contains-none _ change);
  other = λ k list change. absurd (Contains-none _ change);
  whole = λ k listed. absurd (Contains-none _ listed);
}

-- ---- one change put in
pub put-none : (rows : List (List Price)) → ArePut [] rows rows
put-none rows = record { many = refl; rows = λ k. inr (refl, λ list change. Contains-none _ change) }

pub put-more : (done : List Change) (change : Change) (old mid : List (List Price)) → ArePut done old mid → change.pair < length old
    → ArePut (done ++ change ∷ []) old (set mid change.pair change.list)
put-more done change old mid before below = record {
  many = omega (arith, length-set mid change.pair change.list, before.many);
  rows = λ k. by_test (λ _. IsPutAt (done ++ change ∷ []) old (set mid change.pair change.list) k) (eqb change.pair k) (Decides-eqb change.pair k)
      (λ same. subst (λ j. IsPutAt (done ++ change ∷ []) old (set mid change.pair change.list) j) same
      (inl (subst (Changes (done ++ change ∷ []) change.pair) (sym (get_or-set_same mid change.pair change.list [] (omega (arith, before.many))))
      (Contains-push done change))))
      (λ apart. let stays = get_or-set_other mid change.pair k change.list [] (λ e. apart (sym e)) in elim (before.rows k) [
        | inl put ↦ inl (subst (Changes (done ++ change ∷ []) k) (sym stays) (Contains-append_left done (change ∷ []) _ put))
        | inr (same, none) ↦ inr (
          stays ∙ same,
          λ list listed. elim (Contains-push_cases done change _ listed) [
            | inl earlier ↦ none list earlier
            | inr last ↦ apart (λ i. (last i).pair)
          ],
        )
      ]);
}

-- ---- the pairs before one change more
pub precedes-more : (system : System) (pairs : List Pair) (changes : List Change) (i : ℕ) (d : Change) (k : ℕ) (preds : List ℕ) → i < length changes
    → ArePredecessors system pairs (get_or changes i d).pair preds
    → PrecedesSome system pairs (take (i + 1) changes) k ↔ PrecedesSome system pairs (take i changes) k ⊎ Contains preds k
precedes-more system pairs changes i d k preds below exact = (
  (λ found. elim (more-cases changes i d (record { pair = found.changed; list = found.list }) below found.change) [
    | inl earlier ↦ inl (record {
      changed = found.changed;
      list = found.list;
      change = earlier;
      from = found.from;
      here = found.here;
      to = found.to;
      there = found.there;
      follows = found.follows;
    })
    | inr last ↦ inr ((exact.exact k).1 (
      found.from,
      found.here,
      subst (λ (y : Pair). IsFollower system found.from.state found.from.set y.state y.set)
          (stands-one pairs (get_or changes i d).pair found.to exact.x
          (subst (λ j. StandsAt pairs j found.to) (sym (ap (λ (x : Change). x.pair) last)) found.there) exact.here)
          found.follows,
    ))
  ]),
  (λ h. elim h [
    | inl found ↦ record {
      changed = found.changed;
      list = found.list;
      change = more-old changes i d _ below found.change;
      from = found.from;
      here = found.here;
      to = found.to;
      there = found.there;
      follows = found.follows;
    }
    | inr listed ↦ let found = (exact.exact k).0 listed in record {
      changed = (get_or changes i d).pair;
      list = (get_or changes i d).list;
      change = more-new changes i d below;
      from = found.0;
      here = found.1;
      to = exact.x;
      there = exact.here;
      follows = found.2;
    }
  ]),
)

pub marks-more : (system : System) (pairs : List Pair) (changes : List Change) (i : ℕ) (d : Change) (preds : List ℕ) (old mid new : List Bool)
    → i < length changes
    → ArePredecessors system pairs (get_or changes i d).pair preds
    → ((k : ℕ) → IsMarked mid k ↔ IsMarked old k ⊎ PrecedesSome system pairs (take i changes) k)
    → ((k : ℕ) → IsMarked new k ↔ IsMarked mid k ⊎ Contains preds k)
    → (k : ℕ) → IsMarked new k ↔ IsMarked old k ⊎ PrecedesSome system pairs (take (i + 1) changes) k
marks-more system pairs changes i d preds old mid new below exact before more k = (
  (λ marked. elim ((more k).0 marked) [
    | inl first ↦ elim ((before k).0 first) [
      | inl kept ↦ inl kept
      | inr found ↦ inr ((precedes-more system pairs changes i d k preds below exact).1 (inl found))
    ]
    | inr listed ↦ inr ((precedes-more system pairs changes i d k preds below exact).1 (inr listed))
  ]),
  (λ h. (more k).1 (elim h [
    | inl kept ↦ inl ((before k).1 (inl kept))
    | inr found ↦ elim ((precedes-more system pairs changes i d k preds below exact).0 found) [
      | inl earlier ↦ inl ((before k).1 (inr earlier))
      | inr listed ↦ inr listed
    ]
  ])),
)

pub precedes-none : (system : System) (pairs : List Pair) (k : ℕ) → ¬ PrecedesSome system pairs [] k
precedes-none system pairs k found = Contains-none _ found.change

-- the next of a list is a member
pub is-next : (xs front left rest : List Change) (x : Change) → front ++ left ≡ xs → left ≡ x ∷ rest → Contains xs x
is-next xs front left rest x whole next = subst (λ l. Contains l x) whole
    (subst (λ l. Contains (front ++ l) x) (sym next) (Contains-append_right front (x ∷ rest) x (Contains-first x rest)))

-- a list of n members has none where n is 0, and else the first
pub no-members : {X : Type 0} (xs : List X) (n : ℕ) → length xs ≡ n → eqb n 0 ≡ true → xs ≡ []
no-members [] n many zero = refl
no-members (x ∷ xs) n many zero = absurd (let none = (Decides-eqb n 0).0 zero in omega arith)

pub some-member : {X : Type 0} (xs : List X) (n : ℕ) → length xs ≡ n → eqb n 0 ≡ false → (x : X) × Contains xs x
some-member [] n many some = absurd (not_from_Decides (eqb n 0) (Decides-eqb n 0) some (sym many))
some-member (x ∷ xs) n many some = (x, Contains-first x xs)

pub nothing : {X : Type 0} (xs : List X) → length xs ≡ 0 → xs ≡ []
nothing [] none = refl
nothing (x ∷ xs) none = absurd (omega arith)

-- one change more is marked
pub changed-more : (changes : List Change) (i : ℕ) (d : Change) (old mid new : List Bool) → i < length changes → d ≡ get_or changes i d → d.pair < length mid
    → ((k : ℕ) → IsMarked mid k ↔ IsMarked old k ⊎ HasChange (take i changes) k) → new ≡ set mid d.pair true
    → (k : ℕ) → IsMarked new k ↔ IsMarked old k ⊎ HasChange (take (i + 1) changes) k
changed-more changes i d old mid new below is inside before now k = (
  (λ marked. elim (let h : (k ≡ d.pair) ⊎ (k ≢ d.pair) = grind arith in h) [
    | inl same ↦ inr (
      d.list,
      subst (λ n. Contains (take (i + 1) changes) (record { pair = n; list = d.list })) (sym same)
          (subst (Contains (take (i + 1) changes)) (sym is) (more-new changes i d below)),
    )
    | inr other ↦ elim ((before k).0 (sym (get_or-set_other mid d.pair k true false other) ∙ ap (λ flags. get_or flags k false) (sym now) ∙ marked)) [
      | inl was ↦ inl was
      | inr (list, change) ↦ inr (list, more-old changes i d (record { pair = k; list = list }) below change)
    ]
  ]),
  (λ h. ap (λ flags. get_or flags k false) now ∙ elim (let h : (k ≡ d.pair) ⊎ (k ≢ d.pair) = grind arith in h) [
    | inl same ↦ subst (λ n. get_or (set mid d.pair true) n false ≡ true) (sym same) (get_or-set_same mid d.pair true false inside)
    | inr other ↦ get_or-set_other mid d.pair k true false other ∙ (before k).1 (elim h [
      | inl was ↦ inl was
      | inr (list, change) ↦ inr (
        list,
        elim (more-cases changes i d (record { pair = k; list = list }) below change) [
          | inl earlier ↦ earlier
          | inr last ↦ absurd (other (ap (λ (c : Change). c.pair) (sym last) ∙ ap (λ (c : Change). c.pair) (sym is)))
        ],
      )
    ])
  ]),
)
