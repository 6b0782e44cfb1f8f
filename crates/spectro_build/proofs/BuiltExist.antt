-- A sheet is built for each list of listed prices: the needed ones in order, each with the node of its choice.
use Rattle.std.proofs.Common.{◌≡◌, inl, inr, ℕ, zero, suc, List, [], ◌∷◌, length, map, refl, sym, subst, arith, Some, All, Contains}
use Rattle.std.specs.Prelude.{◌↔◌, slice_get}
use Rattle.std.proofs.lemmas.List.Elements.{All-contains}
use Rattle.std.proofs.lemmas.Option.{same_Some}
use Rattle.spectro_spec.specs.System.{System}
use Rattle.spectro_spec.specs.Weighing.{Weighing}
use Rattle.spectro_spec.proofs.Members.{Contains-first, Contains-later, Contains-cases, Contains-none}
use Rattle.spectro_spec.proofs.Membership.{Contains-first_is, Contains-map}
use Rattle.spectro_game.specs.Pairs.{Pair}
use Rattle.spectro_game.specs.Reached.{StandsAt}
use Rattle.spectro_game.specs.Generations.{Table}
use Rattle.spectro_hml.specs.declared.node.Clause.{Clause}
use Rattle.spectro_hml.specs.Clauses.{IsBeforeClause, ClausesRise}
use Rattle.spectro_hml.specs.Sheets.{SheetNode, see_node, all_node}
use Rattle.spectro_theory.proofs.Places.{StandsIn-member}
use Rattle.spectro_build.specs.Choices.{Need, ClauseNeed, Choice, by_observation, by_split, choice_at, taken}
use Rattle.spectro_build.specs.Needed.{IsNeeded, as_wanted, as_taken, IsBuiltBefore, AreInOrder}
use Rattle.spectro_build.specs.Built.{IsClauseFor, IsNodeOf, IsBuilt}
use Rattle.spectro_build.specs.LawsOfBuilding.{IsSolvedOn, IsListed}
use Rattle.spectro_build.proofs.Ascending.{Ascend}
use Rattle.spectro_build.proofs.Descents.{needed-listed}
use Rattle.spectro_build.proofs.Existence.{choice-exists}
use Rattle.spectro_build.proofs.NodeClauses.{before-trans, before-irrefl}
use Rattle.spectro_build.proofs.Orders.{IsBuiltBefore-irrefl, IsBuiltBefore-trans, stands-once}
use Rattle.spectro_build.proofs.Sortings.{sorting}
use Rattle.spectro_build.proofs.Comparisons.{compare_clauses}
use Rattle.spectro_build.proofs.NeededLists.{all_needed}

order-from : (pairs : List Pair) (xs : List Need) → Ascend (IsBuiltBefore pairs) (IsBuiltBefore-irrefl pairs) (IsBuiltBefore-trans pairs) xs
    → AreInOrder pairs xs
order-from pairs [] up = tt
order-from pairs (x ∷ xs) up = (up.0, order-from pairs xs up.1)

rise-from_ascend : (clauses : List Clause) → Ascend IsBeforeClause before-irrefl before-trans clauses → ClausesRise clauses
rise-from_ascend [] up = tt
rise-from_ascend (one ∷ []) up = tt
rise-from_ascend (one ∷ two ∷ clauses) up = (up.0 two (Contains-first two clauses), rise-from_ascend (two ∷ clauses) up.1)

-- one thing for each member
collect : {X Y : Type 0} (Q : X → Y → Type 0) (xs : List X) → ((x : X) → Contains xs x → (y : Y) × Q x y)
    → (ys : List Y) × (length ys ≡ length xs) × ((k : ℕ) (x : X) (y : Y) → StandsAt xs k x → StandsAt ys k y → Q x y)
collect Q [] each = ([], refl, λ k x y here there. absurd (cc))
collect {X} {Y} Q (z ∷ xs) each =
    let (y, made) = each z (Contains-first z xs) in
    let (ys, long, rest) = collect Q xs (λ x member. each x (Contains-later z xs x member)) in
    (y ∷ ys, (omega arith), λ k. at y ys made rest k)
  where
    at : (y : Y) (ys : List Y) → Q z y → ((k : ℕ) (x : X) (w : Y) → StandsAt xs k x → StandsAt ys k w → Q x w) → (k : ℕ) (x : X) (w : Y) → StandsAt (z ∷ xs) k x
        → StandsAt (y ∷ ys) k w → Q x w
    at y ys made rest zero x w here there = subst (λ v. Q v w) (same_Some z x here) (subst (Q z) (same_Some y w there) made)
    at y ys made rest (suc k) x w here there = rest k x w here there

abbrev clause_of : ClauseNeed → ℕ → Clause
clause_of one k = record { positive = one.positive; node = k }

module _ (needs : List Need) (once : (i j : ℕ) (x : Need) → StandsAt needs i x → StandsAt needs j x → i ≡ j) where
  abbrev AreClausesFor : List ClauseNeed → List Clause → Type 0
  AreClausesFor each clauses = (clause : Clause) → Contains clauses clause ↔ ((one : ClauseNeed) × Contains each one × IsClauseFor needs one clause)

  -- in the order of what is needed
  clauses_for : (each : List ClauseNeed) → ((one : ClauseNeed) → Contains each one → Contains needs one.need) → (clauses : List Clause)
      × AreClausesFor each clauses
  clauses_for [] there = ([], λ clause. ((λ member. absurd (Contains-none clause member)), (λ (one, member, made). absurd (Contains-none one member))))
  clauses_for (one ∷ each) there =
      go (StandsIn-member needs one.need (there one (Contains-first one each)))
      (clauses_for each (λ other member. there other (Contains-later one each other member)))
    where
      go : (k : ℕ) × StandsAt needs k one.need → (clauses : List Clause) × AreClausesFor each clauses → (clauses : List Clause)
          × AreClausesFor (one ∷ each) clauses
      go (k, stands) (clauses, rest) = (
        clause_of one k ∷ clauses,
        λ clause. (
          (λ member. elim (Contains-cases (clause_of one k) clauses clause member) [
            | inl same ↦ (one, Contains-first one each, subst (IsClauseFor needs one) same (refl, stands))
            | inr later ↦ let (other, inside, made) = (rest clause).0 later in (other, Contains-later one each other inside, made)
          ]),
          (λ (other, inside, made). elim (Contains-cases one each other inside) [
            | inl same ↦ Contains-first_is (clause_of one k) clauses clause (is_first clause (subst (λ c. IsClauseFor needs c clause) (sym same) made))
            | inr later ↦ Contains-later (clause_of one k) clauses clause ((rest clause).1 (other, later, made))
          ]),
        ),
      )
        where
          is_first : (clause : Clause) → IsClauseFor needs one clause → clause_of one k ≡ clause
          is_first clause (sign, at) = let place = once k clause.node one.need stands at in λ i. record { positive = sym sign i; node = place i }

  node_for : (choice : Choice) → ((y : Need) → Contains (taken choice) y → Contains needs y) → (node : SheetNode) × IsNodeOf needs choice node
  node_for (by_observation label y) there =
      let (next, stands) = StandsIn-member needs y (there y (Contains-first y [])) in (see_node label next, (next, stands, refl))
  node_for (by_split each) there =
      let (some, exact) = clauses_for each (λ one member. there one.need (Contains-map (λ (clause : ClauseNeed). clause.need) each one member)) in
      let (clauses, sorted) = sorting IsBeforeClause before-irrefl before-trans (λ (clause : Clause). Unit {0}) (λ one other h k. compare_clauses one other)
      some (λ clause member. tt) in (
        all_node clauses,
        (
          clauses,
          rise-from_ascend clauses sorted.ascends,
          refl,
          λ clause. (
            (λ member. (exact clause).0 ((sorted.members clause).1 member)),
            (λ made. (sorted.members clause).0 ((exact clause).1 made)),
          ),
        ),
      )

  numbers_for : (wanted : List Need) → ((x : Need) → Contains wanted x → Contains needs x) → (numbers : List ℕ)
      × (map (slice_get needs) numbers ≡ map Some wanted)
  numbers_for [] there = ([], refl)
  numbers_for (x ∷ wanted) there =
      let (k, stands) = StandsIn-member needs x (there x (Contains-first x wanted)) in
      let (numbers, rest) = numbers_for wanted (λ y member. there y (Contains-later x wanted y member)) in
      (k ∷ numbers, cc)

module _ (weighing : Weighing) (system : System) (pairs : List Pair) (table : Table) (solved : IsSolvedOn weighing system pairs table) (wanted : List Need)
    (listed : All (IsListed pairs table) wanted) where
  want : (x : Need) → Contains wanted x → IsListed pairs table x
  want x member = All-contains (IsListed pairs table) wanted x listed member

  from_needs : (needs : List Need) → AreInOrder pairs needs → ((x : Need) → Contains needs x ↔ IsNeeded weighing system table wanted x)
      → (nodes : List SheetNode) × (numbers : List ℕ) × IsBuilt weighing system pairs table wanted nodes numbers
  from_needs needs order exact =
      let (nodes, count, chosen) = collect (λ x node. (choice : Choice) × (choice_at weighing system table x ≡ Some choice) × IsNodeOf needs choice node) needs
      node_at in
      let (numbers, numbered) = numbers_for needs (stands-once pairs needs order) wanted (λ x member. (exact x).1 (as_wanted x member)) in (
        nodes,
        numbers,
        record {
          needs = needs;
          order = order;
          needed = exact;
          count = count;
          chosen = chosen;
          numbered = numbered;
        },
      )
    where
      node_at : (x : Need) → Contains needs x → (node : SheetNode)
          × ((choice : Choice) × (choice_at weighing system table x ≡ Some choice) × IsNodeOf needs choice node)
      node_at x member =
          let need = (exact x).0 member in
          let (choice, is) = choice-exists weighing system pairs table solved x (needed-listed weighing system pairs table solved.closed wanted want x need) in
          let (node, made) = node_for needs (stands-once pairs needs order) choice (λ y takes. (exact y).1 (as_taken x choice y need is takes)) in
          (node, (choice, is, made))

  pub built-exists : (nodes : List SheetNode) × (numbers : List ℕ) × IsBuilt weighing system pairs table wanted nodes numbers
  built-exists = let (needs, up, exact) = all_needed weighing system pairs table solved wanted want in from_needs needs (order-from pairs needs up) exact
