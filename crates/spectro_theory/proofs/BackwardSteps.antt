-- The backward step as a list covers just what the table affords, so the generations of the empty table are generations.
-- Each part of the step's list is read as what it covers: divisions, choices, clauses, splits, observations.
use Rattle.std.proofs.Common.{ℕ, zero, suc, ◌≡◌, ◌≢◌, ◌⊎◌, inl, inr, List, [], ◌∷◌, ◌++◌, map, refl, sym, subst, Contains, arith, Bool, cond, eqb}
use Rattle.std.proofs.lemmas.Bool.Decides.{Decides-eqb}
use Rattle.std.proofs.lemmas.List.Elements.{Contains-append_left, Contains-append_right, Contains-append_cases}
use Rattle.spectro_spec.specs.System.{Label, Step, System, post}
use Rattle.spectro_spec.specs.Weighing.{Weighing, weight_of}
use Rattle.spectro_spec.specs.Price.{Price, IsAtMost}
use Rattle.spectro_spec.specs.LeastPrices.{Covers, Rises, AreApart}
use Rattle.spectro_spec.proofs.Members.{Contains-first, Contains-later, Contains-cases, Contains-none}
use Rattle.spectro_game.specs.Update.{Update, inverse, observe, conjoin, to_deepest, to_other, to_positive, to_negative}
use Rattle.spectro_game.specs.Sup.{sup, zero_price}
use Rattle.spectro_game.specs.Divisions.{Division, divisions}
use Rattle.spectro_game.specs.BackwardStep.{AffordsClause, AffordsSplit, Affords}
use Rattle.spectro_game.specs.Generations.{Table, members_of, observation_prices, clause_prices, subset_prices, lists_to_choose_from, sups_of_choices, split_prices, backward_step, generation}
use Rattle.spectro_spec.proofs.Membership.{Contains-map, Contains-map_cases, Contains-flat_map, Contains-flat_map_cases}
use Rattle.spectro_theory.proofs.PriceOrder.{IsAtMost-refl, IsAtMost-trans, inverse-monotone}
use Rattle.spectro_theory.proofs.DivisionLists.{divisions-Divides, Contains-divisions}
use Rattle.spectro_theory.proofs.MinimalElements.{by_test, minimal_elements-rises, minimal_elements-apart, Covers-from_minimal, Covers-minimal}
use Rattle.spectro_theory.proofs.GenerationTables.{AreGenerations}

-- what joined lists cover, and lists of inverses
Covers-append_cases : (es fs : List Price) (e : Price) → Covers (es ++ fs) e → Covers es e ⊎ Covers fs e
Covers-append_cases es fs e (f, member, below) = elim (Contains-append_cases es fs f member) [ inl h ↦ inl (f, h, below) | inr h ↦ inr (f, h, below) ]

Covers-append : (es fs : List Price) (e : Price) → Covers es e ⊎ Covers fs e → Covers (es ++ fs) e
Covers-append es fs e (inl (f, member, below)) = (f, Contains-append_left es fs f member, below)
Covers-append es fs e (inr (f, member, below)) = (f, Contains-append_right es fs f member, below)

Covers-inverses_cases : (u : Update) (es : List Price) (e : Price) → Covers (map (inverse u) es) e → (f : Price) × Contains es f × IsAtMost (inverse u f) e
Covers-inverses_cases u es e (g, member, below) = let made = Contains-map_cases (inverse u) es g member in
    (made.0, made.1, subst (λ x. IsAtMost x e) (sym made.2) below)

Covers-inverses : (u : Update) (es : List Price) (e : Price) → (f : Price) × Contains es f × IsAtMost (inverse u f) e → Covers (map (inverse u) es) e
Covers-inverses u es e (f, member, below) = (inverse u f, Contains-map (inverse u) es f member, below)

-- the sups of choices cover what each list covers
choices-each : (lists : List (List Price)) (e : Price) → Covers (sups_of_choices lists) e → (es : List Price) → Contains lists es → Covers es e
choices-each [] e covered es member = absurd (Contains-none es member)
choices-each (fs ∷ lists) e (g, chosen, below) es member =
    go (choices-each lists e) (Contains-flat_map_cases (λ f. map (sup f) (sups_of_choices lists)) fs g chosen) (Contains-cases fs lists es member)
  where
    go : (Covers (sups_of_choices lists) e → (es : List Price) → Contains lists es → Covers es e)
        → (f : Price) × Contains fs f × Contains (map (sup f) (sups_of_choices lists)) g → (fs ≡ es) ⊎ Contains lists es → Covers es e
    go rest (f, first, made) place =
        let later = Contains-map_cases (sup f) (sups_of_choices lists) g made in
        let low : IsAtMost (sup f later.0) e = subst (λ x. IsAtMost x e) (sym later.2) below in
        elim place [ inl is ↦ subst (λ x. Covers x e) is (f, first, omega arith) | inr member ↦ rest (later.0, later.1, omega arith) es member ]

each-choices : (lists : List (List Price)) (e : Price) → ((es : List Price) → Contains lists es → Covers es e) → Covers (sups_of_choices lists) e
each-choices [] e each = (zero_price, Contains-first zero_price [], omega arith)
each-choices (fs ∷ lists) e each = go (each fs (Contains-first fs lists)) (each-choices lists e (λ es member. each es (Contains-later fs lists es member)))
  where
    go : Covers fs e → Covers (sups_of_choices lists) e → Covers (sups_of_choices (fs ∷ lists)) e
    go (f, first, low) (g, later, below) = (
      sup f g,
      Contains-flat_map (λ f. map (sup f) (sups_of_choices lists)) fs f (sup f g) first
          (Contains-map (sup f) (sups_of_choices lists) g later),
      omega arith,
    )

module _ (weighing : Weighing) (system : System) (table : Table) where
  -- clauses
  abbrev positive : ℕ → ℕ → List Price
  positive p q = map (inverse to_positive) (table p (q ∷ []))

  abbrev negative : Bool → ℕ → ℕ → List Price
  negative same p q = cond same [] (map (inverse to_negative) (table q (p ∷ [])))

  clause_prices-affords : (p q : ℕ) (e : Price) → Covers (clause_prices table p q) e → AffordsClause (members_of table) p q e
  clause_prices-affords p q e covered = go (Covers-inverses_cases to_other (positive p q ++ negative (eqb p q) p q) e covered)
    where
      go : (g : Price) × Contains (positive p q ++ negative (eqb p q) p q) g × IsAtMost (inverse to_other g) e → AffordsClause (members_of table) p q e
      go (g, member, below) = elim (Contains-append_cases (positive p q) (negative (eqb p q) p q) g member) [
        | inl h ↦ let made = Contains-map_cases (inverse to_positive) (table p (q ∷ [])) g h in inl
            (made.0, made.1, subst (λ x. IsAtMost (inverse to_other x) e) (sym made.2) below)
        | inr h ↦ by_test (λ b. Contains (negative b p q) g → AffordsClause (members_of table) p q e) (eqb p q) (Decides-eqb p q)
            (λ _ none. absurd (Contains-none g none))
            (λ apart k. let made = Contains-map_cases (inverse to_negative) (table q (p ∷ [])) g k in
            inr (apart, (made.0, made.1, subst (λ x. IsAtMost (inverse to_other x) e) (sym made.2) below)))
            h
      ]

  affords-clause_prices : (p q : ℕ) (e : Price) → AffordsClause (members_of table) p q e → Covers (clause_prices table p q) e
  affords-clause_prices p q e (inl (f, member, below)) = Covers-inverses to_other (positive p q ++ negative (eqb p q) p q) e (
    inverse to_positive f,
    Contains-append_left (positive p q) (negative (eqb p q) p q) (inverse to_positive f) (Contains-map (inverse to_positive) (table p (q ∷ [])) f member),
    below,
  )
  affords-clause_prices p q e (inr (apart, (f, member, below))) = Covers-inverses to_other (positive p q ++ negative (eqb p q) p q) e (
    inverse to_negative f,
    Contains-append_right (positive p q) (negative (eqb p q) p q) (inverse to_negative f)
        (by_test (λ b. Contains (negative b p q) (inverse to_negative f)) (eqb p q) (Decides-eqb p q)
        (λ same. absurd (apart same))
        (λ _. Contains-map (inverse to_negative) (table q (p ∷ [])) f member)),
    below,
  )

  -- the clause that refutes the left part
  subset_prices-affords : (p : ℕ) (left : List ℕ) (e : Price) → ((es : List Price) → Contains (subset_prices table p left) es → Covers es e)
      → left ≢ [] → (f : Price) × Contains (table p left) f × IsAtMost (inverse to_deepest f) e
  subset_prices-affords p [] e each some = absurd (some refl)
  subset_prices-affords p (q ∷ qs) e each some = Covers-inverses_cases to_deepest (table p (q ∷ qs)) e
      (each (map (inverse to_deepest) (table p (q ∷ qs))) (Contains-first _ []))

  affords-subset_prices : (p : ℕ) (left : List ℕ) (e : Price) → (left ≢ [] → (f : Price) × Contains (table p left) f × IsAtMost (inverse to_deepest f) e)
      → (es : List Price) → Contains (subset_prices table p left) es → Covers es e
  affords-subset_prices p [] e afforded es member = absurd (Contains-none es member)
  affords-subset_prices p (q ∷ qs) e afforded es member = elim (Contains-cases (map (inverse to_deepest) (table p (q ∷ qs))) [] es member) [
    | inl is ↦ subst (λ x. Covers x e) is (Covers-inverses to_deepest (table p (q ∷ qs)) e (afforded (λ none. cc)))
    | inr none ↦ absurd (Contains-none es none)
  ]

  -- splits
  split_prices-affords : (p : ℕ) (qs : List ℕ) (e : Price) → Covers (split_prices table p qs) e
      → (b : Price) × AffordsSplit (members_of table) p qs b × IsAtMost (inverse conjoin b) e
  split_prices-affords p qs e (g, member, below) = go
      (Contains-flat_map_cases (λ d. map (inverse conjoin) (sups_of_choices (lists_to_choose_from table p d))) (divisions qs) g member)
    where
      go : (d : Division) × Contains (divisions qs) d × Contains (map (inverse conjoin) (sups_of_choices (lists_to_choose_from table p d))) g
          → (b : Price) × AffordsSplit (members_of table) p qs b × IsAtMost (inverse conjoin b) e
      go (d, inside, made) =
          let chosen = Contains-map_cases (inverse conjoin) (sups_of_choices (lists_to_choose_from table p d)) g made in
          let each = choices-each (lists_to_choose_from table p d) chosen.0 (chosen.0, chosen.1, IsAtMost-refl chosen.0) in (
            chosen.0,
            (
              d.left,
              d.right,
              divisions-Divides qs d inside,
              subset_prices-affords p d.left chosen.0
                  (λ es h. each es (Contains-append_left (subset_prices table p d.left) (map (clause_prices table p) d.right) es h)),
              λ q h. clause_prices-affords p q chosen.0 (each (clause_prices table p q)
                  (Contains-append_right (subset_prices table p d.left) (map (clause_prices table p) d.right) (clause_prices table p q)
                  (Contains-map (clause_prices table p) d.right q h))),
            ),
            subst (λ x. IsAtMost x e) (sym chosen.2) below,
          )

  affords-split_prices : (p : ℕ) (qs : List ℕ) (b e : Price) → AffordsSplit (members_of table) p qs b → IsAtMost (inverse conjoin b) e
      → Covers (split_prices table p qs) e
  affords-split_prices p qs b e (left, right, divided, deepest, clauses) below =
      let d : Division = record { left = left; right = right } in
      let chosen = each-choices (lists_to_choose_from table p d) b each in (
        inverse conjoin chosen.0,
        Contains-flat_map (λ d. map (inverse conjoin) (sups_of_choices (lists_to_choose_from table p d))) (divisions qs) d (inverse conjoin chosen.0)
            (Contains-divisions divided)
            (Contains-map (inverse conjoin) (sups_of_choices (lists_to_choose_from table p d)) chosen.0 chosen.1),
        IsAtMost-trans (inverse-monotone conjoin chosen.0 b chosen.2) below,
      )
    where
      each : (es : List Price) → Contains (subset_prices table p left ++ map (clause_prices table p) right) es → Covers es b
      each es member = elim (Contains-append_cases (subset_prices table p left) (map (clause_prices table p) right) es member) [
        | inl h ↦ affords-subset_prices p left b deepest es h
        | inr h ↦ let made = Contains-map_cases (clause_prices table p) right es h in subst (λ x. Covers x b) made.2
            (affords-clause_prices p made.0 b (clauses made.0 made.1))
      ]

  -- observations: a step from p, and a price that is listed where it leads
  abbrev AffordsStep : List Step → ℕ → List ℕ → Price → Type 0
  AffordsStep steps p qs e = (label : Label) × (t : ℕ) × Contains steps (record { source = p; label = label; target = t })
      × ((f : Price) × Contains (table t (post system qs label)) f × IsAtMost (inverse (observe (weight_of weighing label)) f) e)

  abbrev after : Step → List ℕ → List Price
  after step qs = map (inverse (observe (weight_of weighing step.label))) (table step.target (post system qs step.label))

  abbrev after_or : Bool → Step → List Step → ℕ → List ℕ → List Price
  after_or here step steps p qs = cond here (after step qs ++ observation_prices weighing system table steps p qs)
      (observation_prices weighing system table steps p qs)

  later_step : (step : Step) (steps : List Step) (p : ℕ) (qs : List ℕ) (e : Price) → AffordsStep steps p qs e → AffordsStep (step ∷ steps) p qs e
  later_step step steps p qs e (label, t, member, listed) =
      (label, t, Contains-later step steps (record { source = p; label = label; target = t }) member, listed)

  observation_prices-affords : (steps : List Step) (p : ℕ) (qs : List ℕ) (e : Price) → Covers (observation_prices weighing system table steps p qs) e
      → AffordsStep steps p qs e
  observation_prices-affords [] p qs e covered = absurd (Contains-none covered.0 covered.1)
  observation_prices-affords (step ∷ steps) p qs e covered =
      by_test (λ b. Covers (after_or b step steps p qs) e → AffordsStep (step ∷ steps) p qs e)
      (eqb step.source p) (Decides-eqb step.source p)
      (λ here h. elim (Covers-append_cases (after step qs) (observation_prices weighing system table steps p qs) e h) [
        | inl first ↦ (
          step.label,
          step.target,
          (0, omega arith, λ i. record { source = here i; label = step.label; target = step.target }),
          Covers-inverses_cases (observe (weight_of weighing step.label)) (table step.target (post system qs step.label)) e first,
        )
        | inr rest ↦ later_step step steps p qs e (observation_prices-affords steps p qs e rest)
      ])
      (λ _ h. later_step step steps p qs e (observation_prices-affords steps p qs e h))
      covered

  affords-observation_prices : (steps : List Step) (p : ℕ) (qs : List ℕ) (e : Price) → AffordsStep steps p qs e
      → Covers (observation_prices weighing system table steps p qs) e
  affords-observation_prices [] p qs e (label, t, member, listed) = absurd (Contains-none _ member)
  affords-observation_prices (step ∷ steps) p qs e (label, t, member, listed) =
      by_test (λ b. Covers (after_or b step steps p qs) e) (eqb step.source p) (Decides-eqb step.source p)
      (λ _. Covers-append (after step qs) (observation_prices weighing system table steps p qs) e
      (elim (Contains-cases step steps (record { source = p; label = label; target = t }) member) [
        | inl is ↦ inl (Covers-inverses (observe (weight_of weighing step.label)) (table step.target (post system qs step.label)) e
            (subst (λ (x : Step). (f : Price) × Contains (table x.target (post system qs x.label)) f × IsAtMost
            (inverse (observe (weight_of weighing x.label)) f) e) (sym is) listed))
        | inr later ↦ inr (affords-observation_prices steps p qs e (label, t, later, listed))
      ]))
      (λ apart. elim (Contains-cases step steps (record { source = p; label = label; target = t }) member) [
        | inl is ↦ absurd (apart (λ i. (is i).source))
        | inr later ↦ affords-observation_prices steps p qs e (label, t, later, listed)
      ])

  -- what the backward step covers, the table affords
  pub backward_step-affords : (p : ℕ) (qs : List ℕ) (e : Price) → Covers (backward_step weighing system table p qs) e
      → Affords weighing system (members_of table) p qs e
  backward_step-affords p qs e covered =
      let made = Covers-from_minimal (observation_prices weighing system table system.steps p qs ++ split_prices table p qs) e covered in
      elim (Covers-append_cases (observation_prices weighing system table system.steps p qs) (split_prices table p qs) e made) [
        | inl h ↦ inl (observation_prices-affords system.steps p qs e h)
        | inr h ↦ inr (split_prices-affords p qs e h)
      ]

  -- what the table affords, the backward step covers
  pub affords-backward_step : (p : ℕ) (qs : List ℕ) (e : Price) → Affords weighing system (members_of table) p qs e
      → Covers (backward_step weighing system table p qs) e
  affords-backward_step p qs e afforded = Covers-minimal (observation_prices weighing system table system.steps p qs ++ split_prices table p qs) e
      (Covers-append (observation_prices weighing system table system.steps p qs) (split_prices table p qs) e (elim afforded [
        | inl step ↦ inl (affords-observation_prices system.steps p qs e step)
        | inr (b, split, below) ↦ inr (affords-split_prices p qs b e split below)
      ]))

  pub backward_step-rises : (p : ℕ) (qs : List ℕ) → Rises (backward_step weighing system table p qs)
  backward_step-rises p qs = minimal_elements-rises (observation_prices weighing system table system.steps p qs ++ split_prices table p qs)

  pub backward_step-apart : (p : ℕ) (qs : List ℕ) → AreApart (backward_step weighing system table p qs)
  backward_step-apart p qs = minimal_elements-apart (observation_prices weighing system table system.steps p qs ++ split_prices table p qs)

module _ (weighing : Weighing) (system : System) where
  pub generation-AreGenerations : AreGenerations weighing system (generation weighing system)
  unfolding generation
  generation-AreGenerations = record {
    empty = λ p qs e member. Contains-none e member;
    affords = λ k. backward_step-affords weighing system (generation weighing system k);
    covers = λ k. affords-backward_step weighing system (generation weighing system k);
  }

  pub generation-rises : (k p : ℕ) (qs : List ℕ) → Rises (generation weighing system k p qs)
  unfolding generation
  generation-rises zero p qs = tt
  generation-rises (suc k) p qs = backward_step-rises weighing system (generation weighing system k) p qs

  pub generation-apart : (k p : ℕ) (qs : List ℕ) → AreApart (generation weighing system k p qs)
  unfolding generation
  generation-apart zero p qs = λ e f member other below. absurd (Contains-none e member)
  generation-apart (suc k) p qs = backward_step-apart weighing system (generation weighing system k) p qs
