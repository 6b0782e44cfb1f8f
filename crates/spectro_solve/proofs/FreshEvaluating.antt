-- The old list of a pair, and what fresh lists make, are the backward step there.
use Rattle.std.proofs.Common.{ℕ, ◌≡◌, ◌≢◌, ◌⊎◌, inl, inr, ◌≤◌, List, [], ◌∷◌, Bool, false, Contains, length, get_or, refl, sym, ap, subst, ◌∙◌, arith}
use Rattle.std.proofs.lemmas.Bool.{cases_Bool, true≢false}
use Rattle.spectro_spec.specs.System.{Label, System, HasStep, post}
use Rattle.spectro_spec.specs.Weighing.{Weighing, weight_of}
use Rattle.spectro_spec.specs.Price.{Price, IsAtMost}
use Rattle.spectro_spec.specs.LeastPrices.{AreApart, Covers, Rises}
use Rattle.spectro_spec.proofs.Members.{Contains-cases, Contains-first, Contains-none}
use Rattle.spectro_game.specs.Update.{conjoin, inverse, observe, to_deepest, to_negative, to_other}
use Rattle.spectro_game.specs.Divisions.{IsDivided, nothing, to_left, to_right}
use Rattle.spectro_game.specs.Pairs.{Pair, IsClosed, IsOneOf, IsFollower, observed}
use Rattle.spectro_game.specs.Reached.{StandsAt}
use Rattle.spectro_game.specs.BackwardStep.{Affords, AffordsClause}
use Rattle.spectro_game.specs.Generations.{Table, backward_step, members_of}
use Rattle.spectro_game.specs.Rows.{listed_at}
use Rattle.spectro_theory.proofs.BackwardSteps.{affords-backward_step, backward_step-affords, backward_step-apart, backward_step-rises}
use Rattle.spectro_theory.proofs.Divided.{IsDivided-all_right}
use Rattle.spectro_theory.proofs.Followers.{follows_observed, follows_swapped}
use Rattle.spectro_theory.proofs.LeastLists.{same_by_cover}
use Rattle.spectro_theory.proofs.Places.{Contains-stands, StandsIn-member, stands-below}
use Rattle.spectro_theory.proofs.PriceOrder.{IsAtMost-refl, IsAtMost-trans}
use Rattle.spectro_theory.proofs.ReachedPairs.{reached-closed}
use Rattle.spectro_rows.specs.Rows.{row_at}
use Rattle.spectro_pairs.specs.Explored.{Explored, IsExploredFrom, start_pairs}
use Rattle.spectro_solve.specs.Added.{AreSomeAdded, IsAdded, IsMadeBy}
use Rattle.spectro_solve.specs.Choices.{AffordsConjunction}
use Rattle.spectro_solve.specs.Fresh.{AffordsFreshAmong, AffordsTurned, AreSplitsAdded, AreSplitsAddedToFloor, IsAddedToFloor, IsFloor, IsKept, IsNegatedBy}
use Rattle.spectro_solve.specs.Marks.{IsMarked}
use Rattle.spectro_solve.proofs.Listing.{listed-at}
use Rattle.spectro_solve.proofs.NamedObservations.{observed-step, step-observed}

-- the divisions of one member
one-divided : {q : ℕ} {left right : List ℕ} → IsDivided (q ∷ []) left right → (left ≡ q ∷ []) ⊎ ((left ≡ []) × (right ≡ q ∷ []))
one-divided (to_left nothing) = inl refl
one-divided (to_right nothing) = inr (refl, refl)

module _ (system : System) (weighing : Weighing) (starts : List (ℕ × ℕ)) (explored : Explored) (source : IsExploredFrom system weighing starts explored)
    (rows : List (List Price)) (whole : length rows ≡ length explored.pairs) (fresh : List Bool) (k : ℕ) (x : Pair) (here : StandsAt explored.pairs k x)
    (kept : IsKept weighing system explored rows fresh k x) where
  abbrev table : Table
  table = listed_at explored.pairs rows

  closed : IsClosed system (IsOneOf explored.pairs)
  closed = reached-closed system (start_pairs starts) explored.pairs source.reached

  row-is : (j : ℕ) (y : Pair) → StandsAt explored.pairs j y → table y.state y.set ≡ row_at rows j
  row-is j y there = listed-at system weighing starts explored source rows j y [] there (omega (arith, stands-below explored.pairs j y there, whole))

  own-is : table x.state x.set ≡ row_at rows k
  own-is = row-is k x here

  -- the number of a follower
  number-of : (p : ℕ) (qs : List ℕ) → IsFollower system x.state x.set p qs → (j : ℕ) × StandsAt explored.pairs j (record { state = p; set = qs })
  number-of p qs follows = StandsIn-member explored.pairs (record { state = p; set = qs })
      (closed x.state x.set p qs (Contains-stands explored.pairs x (k, here)) follows)

  -- ---- observations
  observation-sound : (n : ℕ) (e : Price) → AffordsFreshAmong weighing system explored rows fresh x n e →
      Affords weighing system (members_of table) x.state x.set e
  observation-sound n e (i, below, (y, label, j, stands, labelled, there, marked, made)) =
      let step = observed-step system x y label i stands labelled in
      inl (
        label,
        y.state,
        step.0,
        subst (λ qs. IsMadeBy (observe (weight_of weighing label)) (table y.state qs) e) step.1
            (subst (λ es. IsMadeBy (observe (weight_of weighing label)) es e) (sym (row-is j y there)) made),
      )

  observation-whole : (n : ℕ) → length (observed system x) ≤ n → (e : Price) (label : Label) (t : ℕ) → HasStep system x.state label t
      → IsMadeBy (observe (weight_of weighing label)) (table t (post system x.set label)) e
      → Covers (row_at rows k) e ⊎ AffordsFreshAmong weighing system explored rows fresh x n e
  observation-whole n all e label t step made =
      let y : Pair = record { state = t; set = post system x.set label } in
      let number = number-of t (post system x.set label) (follows_observed system x.state x.set label t step) in
      let listed = subst (λ es. IsMadeBy (observe (weight_of weighing label)) es e) (row-is number.0 y number.1) made in
      elim (cases_Bool (get_or fresh number.0 false)) [
        | inl marked ↦ (let place = step-observed system x label t step in
            inr (
              place.0,
              omega (arith, all, stands-below (observed system x) place.0 y place.1),
              (y, label, number.0, place.1, place.2, number.1, marked, listed),
            ))
        | inr stale ↦ inl (kept.observed label t number.0 step number.1 (λ marked. true≢false (sym marked ∙ stale)) e listed)
      ]

  -- ---- the splits of one member
  turned-sound : (e : Price) → AffordsTurned explored rows fresh x e → AffordsConjunction table x e
  turned-sound e (q, j, alone, apart, there, marked, (f, member, low)) = (
    inverse to_other (inverse to_negative f),
    (
      [],
      x.set,
      IsDivided-all_right x.set,
      (λ some. absurd (some refl)),
      λ r among. elim (Contains-cases q [] r (subst (λ s. Contains s r) alone among)) [
        | inl is ↦ inr (subst (λ z. (x.state ≢ z) × ((g : Price) × Contains (table z (x.state ∷ [])) g
            × IsAtMost (inverse to_other (inverse to_negative g)) (inverse to_other (inverse to_negative f)))) is (
              apart,
              (
                f,
                subst (λ es. Contains es f) (sym (row-is j (record { state = q; set = x.state ∷ [] }) there)) member,
                IsAtMost-refl (inverse to_other (inverse to_negative f)),
              ),
            ))
        | inr none ↦ absurd (Contains-none r none)
      ],
    ),
    low,
  )

  turned-whole : (e : Price) (q : ℕ) → x.set ≡ q ∷ [] → AffordsConjunction table x e → Covers (row_at rows k) e ⊎ AffordsTurned explored rows fresh x e
  turned-whole e q alone (b, (left, right, divided, deepest, others), low) = elim (one-divided (subst (λ s. IsDivided s left right) alone divided)) [
    | inl both ↦ inl (lower left both deepest)
    | inr (none, all) ↦ clause (others q (subst (λ s. Contains s q) (sym all) (Contains-first q [])))
  ]
    where
      own : (f : Price) → Contains (table x.state (q ∷ [])) f → Contains (row_at rows k) f
      own f member = subst (λ es. Contains es f) (ap (table x.state) (sym alone) ∙ own-is) member

      lower : (left : List ℕ) → left ≡ q ∷ [] → (left ≢ [] → (f : Price) × Contains (table x.state left) f × IsAtMost (inverse to_deepest f) b)
          → Covers (row_at rows k) e
      lower left is give =
          let (f, member, below) = give (λ none. cc) in
          (f, own f (subst (λ s. Contains (table x.state s) f) is member), omega (arith, below, low))

      clause : AffordsClause (members_of table) x.state q b → Covers (row_at rows k) e ⊎ AffordsTurned explored rows fresh x e
      clause (inl (f, member, below)) = inl (f, own f member, omega (arith, below, low))
      clause (inr (apart, (f, member, below))) =
          let y : Pair = record { state = q; set = x.state ∷ [] } in
          let number = number-of q (x.state ∷ [])
          (follows_swapped system x.state x.set q (subst (λ s. Contains s q) (sym alone) (Contains-first q [])) apart) in
          let made : IsNegatedBy (row_at rows number.0) e = (
            f,
            subst (λ es. Contains es f) (row-is number.0 y number.1) member,
            (let all : IsAtMost (inverse conjoin (inverse to_other (inverse to_negative f))) e = omega (arith, below, low) in all),
          ) in
          elim (cases_Bool (get_or fresh number.0 false)) [
            | inl marked ↦ inr (q, number.0, alone, apart, number.1, marked, made)
            | inr stale ↦ inl (kept.turned q number.0 alone apart number.1 (λ marked. true≢false (sym marked ∙ stale)) e made)
          ]

  -- ---- all of it
  -- a list that reaches the floor covers all that is afforded
  floored : (f : Price) → IsFloor explored.weights x.set f → (n : ℕ) → (new : List Price) → Rises new → AreApart new
      → AreSomeAdded (AffordsFreshAmong weighing system explored rows fresh x n) (row_at rows k) new → Covers new f
      → new ≡ backward_step weighing system table x.state x.set
  floored f floor n new rises apart some (g, member, low) =
      same_by_cover new (backward_step weighing system table x.state x.set) rises (backward_step-rises weighing system table x.state x.set) apart
      (backward_step-apart weighing system table x.state x.set)
      (λ e covered. affords-backward_step weighing system table x.state x.set e (elim (some.sound e covered) [
        | inl own ↦ kept.sound e own
        | inr observed ↦ observation-sound n e observed
      ]))
      (λ e covered. (g, member, IsAtMost-trans low (floor e (kept.on_floor e (backward_step-affords weighing system table x.state x.set e covered)))))

  made-by : (n : ℕ) → length (observed system x) ≤ n → (Splits : Price → Type 0) (mid new : List Price) → Rises new → AreApart new
      → IsAdded (AffordsFreshAmong weighing system explored rows fresh x n) (row_at rows k) mid → IsAdded Splits mid new
      → ((e : Price) → Splits e → AffordsConjunction table x e) → ((e : Price) → AffordsConjunction table x e → Covers (row_at rows k) e ⊎ Splits e)
      → new ≡ backward_step weighing system table x.state x.set
  made-by n all Splits mid new rises apart first second sound full =
      same_by_cover new (backward_step weighing system table x.state x.set) rises (backward_step-rises weighing system table x.state x.set) apart
      (backward_step-apart weighing system table x.state x.set)
      (λ e covered. affords-backward_step weighing system table x.state x.set e (there e ((second e).0 covered)))
      (λ e covered. back e (backward_step-affords weighing system table x.state x.set e covered))
    where
      there : (e : Price) → Covers mid e ⊎ Splits e → Affords weighing system (members_of table) x.state x.set e
      there e (inl before) = elim ((first e).0 before) [ inl own ↦ kept.sound e own | inr observed ↦ observation-sound n e observed ]
      there e (inr split) = inr (sound e split)

      own-covered : (e : Price) → Covers (row_at rows k) e → Covers new e
      own-covered e own = (second e).1 (inl ((first e).1 (inl own)))

      back : (e : Price) → Affords weighing system (members_of table) x.state x.set e → Covers new e
      back e (inl (label, t, step, made)) = elim (observation-whole n all e label t step made) [
        | inl own ↦ own-covered e own
        | inr observed ↦ (second e).1 (inl ((first e).1 (inr observed)))
      ]
      back e (inr split) = elim (full e split) [ inl own ↦ own-covered e own | inr more ↦ (second e).1 (inr more) ]

  fresh-evaluated : (n : ℕ) → length (observed system x) ≤ n → (mid new : List Price) → Rises new → AreApart new
      → IsAdded (AffordsFreshAmong weighing system explored rows fresh x n) (row_at rows k) mid
      → AreSplitsAdded explored rows fresh x mid new → new ≡ backward_step weighing system table x.state x.set
  fresh-evaluated n all mid new rises apart first (inl (one, added)) =
      let q = first-of x.set one in
      made-by n all (AffordsTurned explored rows fresh x) mid new rises apart first added turned-sound (λ e. turned-whole e q.0 q.1)
    where
      first-of : (qs : List ℕ) → length qs ≡ 1 → (q : ℕ) × (qs ≡ q ∷ [])
      first-of [] one = absurd (omega arith)
      first-of (q ∷ []) one = (q, refl)
      first-of (q ∷ r ∷ qs) one = absurd (omega arith)
  fresh-evaluated n all mid new rises apart first (inr (inl (some, stale, still))) =
      made-by n all (λ e. ⊥) mid new rises apart first
      (λ e. (
        (λ covered. inl (subst (λ l. Covers l e) still covered)),
        λ h. elim h [ inl covered ↦ subst (λ l. Covers l e) (sym still) covered | inr never ↦ absurd never ],
      ))
      (λ e never. absurd never) (λ e split. inl (kept.split some stale e split))
  fresh-evaluated n all mid new rises apart first (inr (inr added)) =
      made-by n all (AffordsConjunction table x) mid new rises apart first added (λ e split. split) (λ e split. inr split)

  some-of : (f : Price) (Made : Price → Type 0) (old mid : List Price) → IsAddedToFloor f Made old mid → AreSomeAdded Made old mid
  some-of f Made old mid (inl added) = record { sound = λ e covered. (added e).0 covered; kept = λ e covered. (added e).1 (inl covered) }
  some-of f Made old mid (inr (some, covers)) = some

  pub evaluated-to-floor : (f : Price) → IsFloor explored.weights x.set f → (n : ℕ) → length (observed system x) ≤ n → (old mid new : List Price)
      → old ≡ row_at rows k → Rises new → AreApart new
      → IsAddedToFloor f (AffordsFreshAmong weighing system explored rows fresh x n) old mid → AreSplitsAddedToFloor f explored rows fresh x mid new
      → new ≡ backward_step weighing system table x.state x.set
  evaluated-to-floor f floor n all old mid new own rises apart observed (inl (covers, still)) =
      floored f floor n new rises apart
      (subst (λ l. AreSomeAdded (AffordsFreshAmong weighing system explored rows fresh x n) l new) own
      (subst (AreSomeAdded (AffordsFreshAmong weighing system explored rows fresh x n) old) (sym still)
      (some-of f (AffordsFreshAmong weighing system explored rows fresh x n) old mid observed))) (subst (λ l. Covers l f) (sym still) covers)
  evaluated-to-floor f floor n all old mid new own rises apart (inl added) (inr (above, splits)) =
      fresh-evaluated n all mid new rises apart
      (subst (λ l. IsAdded (AffordsFreshAmong weighing system explored rows fresh x n) l mid) own added) splits
  evaluated-to-floor f floor n all old mid new own rises apart (inr (some, covers)) (inr (above, splits)) = absurd (above covers)

  -- ---- lists that stay
  -- a list that reaches the floor stays
  pub settled-on-floor : (f : Price) → IsFloor explored.weights x.set f → Rises (row_at rows k) → AreApart (row_at rows k) → Covers (row_at rows k) f
      → row_at rows k ≡ backward_step weighing system table x.state x.set
  settled-on-floor f floor rises apart covers =
      floored f floor 0 (row_at rows k) rises apart (record { sound = λ e covered. inl covered; kept = λ e covered. covered }) covers

  -- where nothing is fresh, a list stays whose pair has a set with members
  pub settled-without-fresh : x.set ≢ [] → ((j : ℕ) → ¬ IsMarked fresh j) → Rises (row_at rows k) → AreApart (row_at rows k)
      → row_at rows k ≡ backward_step weighing system table x.state x.set
  settled-without-fresh some none rises apart =
      fresh-evaluated (length (observed system x)) (omega arith) (row_at rows k) (row_at rows k) rises apart
      (λ e. ((λ covered. inl covered), λ h. elim h [ inl covered ↦ covered | inr made ↦ absurd (unmade e made) ]))
      (inr (inl (some, (λ j y there follows. none j), refl)))
    where
      unmade : (e : Price) → ¬ AffordsFreshAmong weighing system explored rows fresh x (length (observed system x)) e
      unmade e (i, below, (y, label, j, stands, labelled, there, marked, made)) = none j marked
