-- The formula of a node that is built distinguishes its pair at just its price: by the nodes before it, since what a choice
-- takes is lower and so stands before, and since what fits a least price has just that price.
use Rattle.std.proofs.Common.{◌≡◌, ◌≢◌, ◌⊎◌, inl, inr, ℕ, zero, suc, ◌<◌, ◌≤◌, true, false, List, [], ◌∷◌, length, refl, sym, ap, ◌∙◌, subst, arith, Some, All, Contains}
use Rattle.std.specs.Prelude.{◌↔◌, slice_get}
use Rattle.std.proofs.lemmas.List.Elements.{All-contains, All-contains_itself, All-weaker}
use Rattle.std.proofs.lemmas.Option.{same_Some}
use Rattle.spectro_spec.specs.System.{Label, System, post}
use Rattle.spectro_spec.specs.Formula.{Formula, Satisfies}
use Rattle.spectro_spec.specs.Weighing.{Weighing, weight_of}
use Rattle.spectro_spec.specs.Price.{Price, IsAtMost}
use Rattle.spectro_spec.specs.Pricing.{price}
use Rattle.spectro_spec.specs.Notion.{Distinguishes}
use Rattle.spectro_spec.proofs.Members.{Contains-first}
use Rattle.spectro_spec.proofs.Membership.{Contains-map}
use Rattle.spectro_game.specs.Update.{inverse, observe}
use Rattle.spectro_game.specs.Pairs.{Pair}
use Rattle.spectro_game.specs.Reached.{StandsAt}
use Rattle.spectro_game.specs.Generations.{Table}
use Rattle.spectro_hml.specs.declared.node.Clause.{Clause}
use Rattle.spectro_hml.specs.Clauses.{ClausesRise}
use Rattle.spectro_hml.specs.Sheets.{SheetNode, see_node, all_node, formula_at, clauses_of, formulas_of, unfolded}
use Rattle.spectro_hml.proofs.NodeFormulas.{unfolded-see, unfolded-all}
use Rattle.spectro_theory.specs.LawsOfSteps.{IsOfPrice}
use Rattle.spectro_theory.specs.Splits.{HasPlus, HasMinus, IsSplitAt}
use Rattle.spectro_theory.proofs.Exactness.{observation-exact, split-exact}
use Rattle.spectro_theory.proofs.Places.{StandsIn-member, Contains-stands, stands-below, stands-some, stands-map}
use Rattle.spectro_build.specs.Choices.{Need, ClauseNeed, Choice, by_observation, by_split, choice_at, taken, as_deepest, as_positive, as_negative}
use Rattle.spectro_build.specs.Needed.{as_taken}
use Rattle.spectro_build.specs.Built.{IsClauseFor, IsNodeOf, IsBuilt}
use Rattle.spectro_build.specs.LawsOfBuilding.{IsSolvedOn, IsListed, IsNodeFor}
use Rattle.spectro_build.proofs.ChoiceCases.{Fits, RefutesLeft, left_clause-one, IsObservation, IsSplit, choice-is}
use Rattle.spectro_build.proofs.Descents.{taken-lower, needed-listed}
use Rattle.spectro_build.proofs.Orders.{stands-once, lower-before}
use Rattle.spectro_build.proofs.NodeClauses.{plus-node, minus-node, node-plus, node-minus, one-above}

-- what the formula of the node has to be
module _ (weighing : Weighing) (system : System) (nodes : List SheetNode) where
  -- the formula of a need that fits distinguishes the pair at which it fits, and fits itself
  fitting-formula : (table : Table) (z : Pair) (update : Price → Price) (e : Price) (y : Need) (k : ℕ) → Fits table z update e y
      → IsNodeFor weighing system nodes y k
      → Distinguishes system z.state z.set (unfolded nodes k) × IsAtMost (update (price weighing (unfolded nodes k))) e
  fitting-formula table z update e y k fits exact = (
    subst (λ (w : Pair). Distinguishes system w.state w.set (unfolded nodes k)) fits.pair exact.distinguishes,
    subst (λ f. IsAtMost (update f) e) (sym exact.paid) fits.low,
  )

  module _ (pairs : List Pair) (table : Table) (solved : IsSolvedOn weighing system pairs table) (x : Need) (here : IsListed pairs table x) (k : ℕ) where
    -- an observation of a lower node
    observation-node : (label : Label) (y : Need) (next : ℕ) → StandsAt nodes k (see_node label next) → next < k → IsObservation weighing system table x label y
        → IsNodeFor weighing system nodes y next
        → IsNodeFor weighing system nodes x k
    observation-node label y next at before is exact =
        let fits = fitting-formula table (record { state = is.target; set = post system x.pair.set label }) (inverse (observe (weight_of weighing label)))
        x.price y next is.fits exact in
        subst (IsOfPrice weighing system x.pair.state x.pair.set x.price) (sym (unfolded-see nodes k label next at before))
        (observation-exact weighing system x.pair.state x.pair.set (table x.pair.state x.pair.set) (solved.least x.pair.state x.pair.set here.reached) x.price
        here.listed
        label is.target (unfolded nodes next) is.step fits.0 fits.1)

    -- a split into clauses of lower nodes
    module _ (wanted : List ClauseNeed) (clauses : List Clause) (needs : List Need)
        (once : (i j : ℕ) (y : Need) → StandsAt needs i y → StandsAt needs j y → i ≡ j)
        (split : IsSplit table x wanted) (rise : ClausesRise clauses)
        (same : (clause : Clause) → Contains clauses clause ↔ ((one : ClauseNeed) × Contains wanted one × IsClauseFor needs one clause))
        (placed : (one : ClauseNeed) → Contains wanted one → (j : ℕ) × StandsAt needs j one.need)
        (exact : (one : ClauseNeed) → Contains wanted one → (j : ℕ) → StandsAt needs j one.need → IsNodeFor weighing system nodes one.need j) where
      abbrev p : ℕ
      p = x.pair.state

      abbrev e : Price
      e = x.price

      abbrev formulas : List Formula
      formulas = formulas_of nodes

      -- each wanted clause is one of the clauses of the node
      clause-there : (one : ClauseNeed) → Contains wanted one → (clause : Clause) × Contains clauses clause × IsClauseFor needs one clause
      clause-there one member =
          let (j, at) = placed one member in
          let clause : Clause = record { positive = one.positive; node = j } in
          (clause, (same clause).1 (one, member, (refl, at)), (refl, at))

      refutes_left : split.left ≢ [] → (formula : Formula) × HasPlus (clauses_of formulas clauses) formula × Distinguishes system p split.left formula
      refutes_left some =
          let (one, member, by) = split.each.for_left some in
          let (clause, inside, (sign, at)) = clause-there one member in
          let fits = fitting-formula table (record { state = p; set = split.left }) as_deepest e one.need clause.node by.fits
          (exact one member clause.node at) in
          (formula_at formulas clause.node, node-plus formulas clauses clause inside (sign ∙ by.positive), fits.0)

      refutes_right : (q : ℕ) → Contains split.right q
          → ((formula : Formula) × HasPlus (clauses_of formulas clauses) formula × Distinguishes system p (q ∷ []) formula)
          ⊎ ((formula : Formula) × HasMinus (clauses_of formulas clauses) formula × Distinguishes system q (p ∷ []) formula)
      refutes_right q right =
          let (one, member, refutes) = split.each.for_right q right in
          let (clause, inside, (sign, at)) = clause-there one member in
          elim refutes [
            | inl by ↦
                let fits = fitting-formula table (record { state = p; set = q ∷ [] }) as_positive e one.need clause.node by.fits
                (exact one member clause.node at) in
                inl (formula_at formulas clause.node, node-plus formulas clauses clause inside (sign ∙ by.positive), fits.0)
            | inr by ↦
                let fits = fitting-formula table (record { state = q; set = p ∷ [] }) as_negative e one.need clause.node by.fits
                (exact one member clause.node at) in
                inr (formula_at formulas clause.node, node-minus formulas clauses clause inside (sign ∙ by.negative), fits.0)
          ]

      plus_cost : (formula : Formula) → HasPlus (clauses_of formulas clauses) formula → Satisfies system p formula
          × IsAtMost (as_deepest (price weighing formula)) e
      plus_cost formula has =
          let (clause, inside, sign, is) = plus-node formulas clauses formula has in
          let (one, member, (signed, at)) = (same clause).0 inside in
          subst (λ f. Satisfies system p f × IsAtMost (as_deepest (price weighing f)) e) is (elim (split.each.from one member) [
            | inl (some, by) ↦
                let fits = fitting-formula table (record { state = p; set = split.left }) as_deepest e one.need clause.node by.fits
                (exact one member clause.node at) in (fits.0.satisfied, fits.1)
            | inr (q, right, inl by) ↦
                let fits = fitting-formula table (record { state = p; set = q ∷ [] }) as_positive e one.need clause.node by.fits
                (exact one member clause.node at) in
                let low = fits.1 in
                (fits.0.satisfied, omega arith)
            | inr (q, right, inr by) ↦ absurd (let sides : true ≡ false = sym sign ∙ (signed ∙ by.negative) in cc)
          ])

      minus_cost : (formula : Formula) → HasMinus (clauses_of formulas clauses) formula → ¬ Satisfies system p formula
          × IsAtMost (as_negative (price weighing formula)) e
      minus_cost formula has =
          let (clause, inside, sign, is) = minus-node formulas clauses formula has in
          let (one, member, (signed, at)) = (same clause).0 inside in
          subst (λ f. ¬ Satisfies system p f × IsAtMost (as_negative (price weighing f)) e) is (elim (split.each.from one member) [
            | inl (some, by) ↦ absurd (let sides : false ≡ true = sym sign ∙ (signed ∙ by.positive) in cc)
            | inr (q, right, inl by) ↦ absurd (let sides : false ≡ true = sym sign ∙ (signed ∙ by.positive) in cc)
            | inr (q, right, inr by) ↦
                let fits = fitting-formula table (record { state = q; set = p ∷ [] }) as_negative e one.need clause.node by.fits
                (exact one member clause.node at) in
                (fits.0.refuted p (Contains-first p []), fits.1)
          ])

      -- a positive clause is that of the left part, or no deeper than the others may be
      other-low : (only : ℕ) → ((one : ClauseNeed) → Contains wanted one → RefutesLeft table p e split.left one → StandsAt needs only one.need)
          → (clause : Clause) → Contains clauses clause
          → clause.positive ≡ true → clause.node ≢ only → (price weighing (formula_at formulas clause.node)).observations ≤ e.other_positive
      other-low only is_left clause inside sign apart =
          let (one, member, (signed, at)) = (same clause).0 inside in
          elim (split.each.from one member) [
            | inl (some, by) ↦ absurd (apart (once clause.node only one.need at (is_left one member by)))
            | inr (q, right, inl by) ↦
                let fits = fitting-formula table (record { state = p; set = q ∷ [] }) as_positive e one.need clause.node by.fits
                (exact one member clause.node at) in
                let low = fits.1 in
                omega arith
            | inr (q, right, inr by) ↦ absurd (let sides : true ≡ false = sym sign ∙ (signed ∙ by.negative) in cc)
          ]

      -- the node of the left part, where it has one
      left-node : (left : List ℕ) → (left ≢ [] → (one : ClauseNeed) × Contains wanted one × RefutesLeft table p e left one)
          → (only : ℕ) × ((one : ClauseNeed) → Contains wanted one → RefutesLeft table p e left one → StandsAt needs only one.need)
      left-node [] for_left = (0, λ one member by. absurd (nothing-left one by))
        where
          nothing-left : (one : ClauseNeed) → RefutesLeft table p e [] one → ⊥
          nothing-left one by = let (k, below, is) = by.value in omega arith
      left-node (q ∷ qs) for_left =
          let (one, member, by) = for_left (λ none. cc) in
          let (j, at) = placed one member in
          (j, λ other also too. subst (λ (c : ClauseNeed). StandsAt needs j c.need) (left_clause-one table p e (q ∷ qs) one other by.value too.value) at)

      split-at : IsSplitAt weighing system p x.pair.set e (clauses_of formulas clauses)
      split-at = record {
        left = split.left;
        right = split.right;
        divided = split.divided;
        refutes_left = refutes_left;
        refutes_right = refutes_right;
        plus_costs = plus_cost;
        others_cost =
            let (only, is_left) = left-node split.left split.each.for_left in
            one-above formulas weighing e.other_positive only clauses rise (other-low only is_left);
        minus_costs = minus_cost;
      }

      pub split-node : StandsAt nodes k (all_node clauses) → All (λ clause. clause.node < k) clauses → IsNodeFor weighing system nodes x k
      split-node at before = subst (IsOfPrice weighing system p x.pair.set e) (sym (unfolded-all nodes k clauses at before))
          (split-exact weighing system p x.pair.set (table p x.pair.set) (solved.least p x.pair.set here.reached) e here.listed (clauses_of formulas clauses)
          split-at)

module _ (weighing : Weighing) (system : System) (pairs : List Pair) (table : Table) (wanted : List Need) (nodes : List SheetNode) (numbers : List ℕ)
    (built : IsBuilt weighing system pairs table wanted nodes numbers) where
  -- what a choice takes has a place, and it is before
  pub taken-before : (k : ℕ) (x : Need) (choice : Choice) (y : Need) → StandsAt built.needs k x → choice_at weighing system table x ≡ Some choice
      → Contains (taken choice) y
      → (j : ℕ) → StandsAt built.needs j y → j < k
  taken-before k x choice y here is member j there =
      lower-before pairs built.needs built.order j k y x there here (taken-lower weighing system table x choice y is member)

  pub taken-placed : (k : ℕ) (x : Need) (choice : Choice) (y : Need) → StandsAt built.needs k x → choice_at weighing system table x ≡ Some choice
      → Contains (taken choice) y
      → (j : ℕ) × StandsAt built.needs j y
  taken-placed k x choice y here is member =
      StandsIn-member built.needs y ((built.needed y).1 (as_taken x choice y ((built.needed x).0 (Contains-stands built.needs x (k, here))) is member))

  module _ (solved : IsSolvedOn weighing system pairs table) (listed : All (IsListed pairs table) wanted) where
    needs-listed : (k : ℕ) (x : Need) → StandsAt built.needs k x → IsListed pairs table x
    needs-listed k x here =
        needed-listed weighing system pairs table solved.closed wanted (λ y member. All-contains (IsListed pairs table) wanted y listed member) x
        ((built.needed x).0 (Contains-stands built.needs x (k, here)))

    choice-node : (k : ℕ) (x : Need) (node : SheetNode) (choice : Choice) → StandsAt built.needs k x → StandsAt nodes k node
        → choice_at weighing system table x ≡ Some choice → IsNodeOf built.needs choice node
        → ((j : ℕ) (y : Need) → j < k → StandsAt built.needs j y → IsNodeFor weighing system nodes y j) → IsNodeFor weighing system nodes x k
    choice-node k x node (by_observation label y) here at is (next, there, made) exact =
        let before = taken-before k x (by_observation label y) y here is (Contains-first y []) next there in
        observation-node weighing system nodes pairs table solved x (needs-listed k x here) k label y next (subst (λ n. StandsAt nodes k n) made at) before
        (choice-is weighing system table x (by_observation label y) is) (exact next y before there)
    choice-node k x node (by_split each) here at is (clauses, rise, made, same) exact =
        split-node weighing system nodes pairs table solved x (needs-listed k x here) k each clauses built.needs (stands-once pairs built.needs built.order)
        (choice-is weighing system table x (by_split each) is) rise same
        (λ one member. taken-placed k x (by_split each) one.need here is (inside one member))
        (λ one member j there. exact j one.need (before one member j there) there)
        (subst (λ n. StandsAt nodes k n) made at)
        (all-before clauses (λ clause member. let (one, wanted_one, (sign, there)) = (same clause).0 member in before one wanted_one clause.node there))
      where
        inside : (one : ClauseNeed) → Contains each one → Contains (taken (by_split each)) one.need
        inside one member = Contains-map (λ (clause : ClauseNeed). clause.need) each one member

        before : (one : ClauseNeed) → Contains each one → (j : ℕ) → StandsAt built.needs j one.need → j < k
        before one member j there = taken-before k x (by_split each) one.need here is (inside one member) j there

        all-before : (clauses : List Clause) → ((clause : Clause) → Contains clauses clause → clause.node < k) → All (λ clause. clause.node < k) clauses
        all-before clauses below = All-weaker (Contains clauses) (λ clause. clause.node < k) below clauses (All-contains_itself clauses)

    -- by the nodes before
    exact-below : (n k : ℕ) (x : Need) → k < n → StandsAt built.needs k x → IsNodeFor weighing system nodes x k
    exact-below zero k x below here = absurd (omega arith)
    exact-below (suc n) k x below here =
        let within : k < length nodes = omega (arith, stands-below built.needs k x here, built.count) in
        let (node, at) = stands-some nodes k within in
        let (choice, is, made) = built.chosen k x node here at in
        choice-node k x node choice here at is made (λ j y before there. exact-below n j y (omega arith) there)

    pub needs-exact : (k : ℕ) (x : Need) → StandsAt built.needs k x → IsNodeFor weighing system nodes x k
    needs-exact k x here = exact-below (suc k) k x (omega arith) here

    -- so are those that are wanted
    pub wanted-exact : (i k : ℕ) (x : Need) → StandsAt wanted i x → StandsAt numbers i k → IsNodeFor weighing system nodes x k
    wanted-exact i k x here number =
        let found = stands-map (slice_get built.needs) numbers i k number in
        let want = stands-map Some wanted i x here in
        needs-exact k x (same_Some (slice_get built.needs k) (Some x) (sym found ∙ (ap (λ values. slice_get values i) built.numbered ∙ want)))
