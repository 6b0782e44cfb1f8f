-- The nodes that are built are a sheet, and no other sheet is: what is in order and has the same members is one list, and the
-- clauses of a node rise, so they too are known by their members.
use Rattle.std.proofs.Common.{◌≡◌, ℕ, zero, suc, ◌<◌, List, [], ◌∷◌, length, map, refl, sym, ap, ◌∙◌, subst, arith, Some, All, Contains}
use Rattle.std.specs.Prelude.{slice_get}
use Rattle.std.proofs.lemmas.List.Elements.{All-contains, All-contains_itself, All-weaker}
use Rattle.std.proofs.lemmas.Option.{same_Some}
use Rattle.spectro_spec.specs.System.{Step, System, IsLabel}
use Rattle.spectro_spec.specs.Weighing.{Weighing}
use Rattle.spectro_spec.proofs.Members.{Contains-first}
use Rattle.spectro_spec.proofs.Membership.{Contains-map}
use Rattle.spectro_game.specs.Pairs.{Pair}
use Rattle.spectro_game.specs.Reached.{StandsAt}
use Rattle.spectro_game.specs.Generations.{Table}
use Rattle.spectro_hml.specs.declared.node.Clause.{Clause}
use Rattle.spectro_hml.specs.Clauses.{IsBeforeClause, ClausesRise}
use Rattle.spectro_hml.specs.Sheets.{SheetNode, see_node, all_node, IsNodeAt, IsSheet}
use Rattle.spectro_theory.proofs.Places.{stands-below, stands-some}
use Rattle.spectro_build.specs.Choices.{Need, ClauseNeed, Choice, by_observation, by_split, choice_at}
use Rattle.spectro_build.specs.Needed.{IsBuiltBefore}
use Rattle.spectro_build.specs.Built.{IsNodeOf, IsBuilt}
use Rattle.spectro_build.proofs.Ascending.{Ascend, same_by_members}
use Rattle.spectro_build.proofs.ChoiceCases.{choice-is}
use Rattle.spectro_build.proofs.Orders.{IsBuiltBefore-irrefl, IsBuiltBefore-trans, order-ascend, stands-once}
use Rattle.spectro_build.proofs.NodeClauses.{before-trans, before-irrefl, rise-later, rise-first}
use Rattle.spectro_build.proofs.BuiltNodes.{taken-before}

rise-ascend : (clauses : List Clause) → ClausesRise clauses → Ascend IsBeforeClause before-irrefl before-trans clauses
rise-ascend [] rise = tt
rise-ascend (clause ∷ clauses) rise = (rise-first clause clauses rise, rise-ascend clauses (rise-later clause clauses rise))

-- ---- lists that are equal place by place
same_by_places : {X : Type 0} (xs ys : List X) → length xs ≡ length ys → ((k : ℕ) (x y : X) → StandsAt xs k x → StandsAt ys k y → x ≡ y) → xs ≡ ys
same_by_places [] [] long same = refl
same_by_places [] (y ∷ ys) long same = absurd (omega arith)
same_by_places (x ∷ xs) [] long same = absurd (omega arith)
same_by_places (x ∷ xs) (y ∷ ys) long same =
    let first : x ≡ y = same zero x y refl refl in
    let later : xs ≡ ys = same_by_places xs ys (omega arith) (λ k z w here there. same (suc k) z w here there) in
    cc

-- ---- the node of a choice
module _ (needs : List Need) (once : (i j : ℕ) (x : Need) → StandsAt needs i x → StandsAt needs j x → i ≡ j) where
  node-one : (choice : Choice) (node other : SheetNode) → IsNodeOf needs choice node → IsNodeOf needs choice other → node ≡ other
  node-one (by_observation label x) node other (next, here, is) (also, there, too) = is ∙ (ap (see_node label) (once next also x here there) ∙ sym too)
  node-one (by_split wanted) node other (clauses, rise, is, each) (others, up, too, also) =
      let same = same_by_members IsBeforeClause before-irrefl before-trans clauses others (rise-ascend clauses rise) (rise-ascend others up)
      (λ clause member. (also clause).1 ((each clause).0 member))
      (λ clause member. (each clause).1 ((also clause).0 member)) in
      is ∙ (ap all_node same ∙ sym too)

numbers-one : (needs : List Need) → ((i j : ℕ) (x : Need) → StandsAt needs i x → StandsAt needs j x → i ≡ j) → (wanted : List Need) (numbers also : List ℕ)
    → map (slice_get needs) numbers ≡ map Some wanted → map (slice_get needs) also ≡ map Some wanted → numbers ≡ also
numbers-one needs once [] [] [] is too = refl
numbers-one needs once [] [] (m ∷ ms) is too = absurd (cc)
numbers-one needs once [] (n ∷ ns) ms is too = absurd (cc)
numbers-one needs once (x ∷ xs) [] ms is too = absurd (cc)
numbers-one needs once (x ∷ xs) (n ∷ ns) [] is too = absurd (cc)
numbers-one needs once (x ∷ xs) (n ∷ ns) (m ∷ ms) is too =
    let here : slice_get needs n ≡ Some x = cc in
    let there : slice_get needs m ≡ Some x = cc in
    let rest : map (slice_get needs) ns ≡ map Some xs = cc in
    let also : map (slice_get needs) ms ≡ map Some xs = cc in
    let first : n ≡ m = once n m x here there in
    let later : ns ≡ ms = numbers-one needs once xs ns ms rest also in
    cc

module _ (weighing : Weighing) (system : System) (pairs : List Pair) (table : Table) (wanted : List Need) where
  module _ (nodes others : List SheetNode) (numbers also : List ℕ) (one : IsBuilt weighing system pairs table wanted nodes numbers)
      (two : IsBuilt weighing system pairs table wanted others also) where
    -- both have the same needs in the same order
    same_needs : one.needs ≡ two.needs
    same_needs =
        same_by_members (IsBuiltBefore pairs) (IsBuiltBefore-irrefl pairs) (IsBuiltBefore-trans pairs) one.needs two.needs
        (order-ascend pairs one.needs one.order) (order-ascend pairs two.needs two.order)
        (λ x member. (two.needed x).1 ((one.needed x).0 member))
        (λ x member. (one.needed x).1 ((two.needed x).0 member))

    once : (i j : ℕ) (x : Need) → StandsAt one.needs i x → StandsAt one.needs j x → i ≡ j
    once = stands-once pairs one.needs one.order

    same_node : (k : ℕ) (node other : SheetNode) → StandsAt nodes k node → StandsAt others k other → node ≡ other
    same_node k node other here there =
        let (x, need) = stands-some one.needs k (omega (arith, stands-below nodes k node here, one.count)) in
        let (choice, is, made) = one.chosen k x node need here in
        let (again, too, so) = two.chosen k x other (subst (λ xs. StandsAt xs k x) same_needs need) there in
        let same : choice ≡ again = same_Some choice again (sym is ∙ too) in
        node-one one.needs once choice node other made
        (subst (λ c. IsNodeOf one.needs c other) (sym same) (subst (λ xs. IsNodeOf xs again other) (sym same_needs) so))

    pub sheet-one : (nodes ≡ others) × (numbers ≡ also)
    sheet-one = (
      same_by_places nodes others (one.count ∙ (ap length same_needs ∙ sym two.count)) same_node,
      numbers-one one.needs once wanted numbers also one.numbered (subst (λ xs. map (slice_get xs) also ≡ map Some wanted) (sym same_needs) two.numbered),
    )

  module _ (nodes : List SheetNode) (numbers : List ℕ) (labels : All (λ (step : Step). IsLabel step.label) system.steps)
      (built : IsBuilt weighing system pairs table wanted nodes numbers) where
    node-may : (k : ℕ) (x : Need) (node : SheetNode) (choice : Choice) → StandsAt built.needs k x → choice_at weighing system table x ≡ Some choice
        → IsNodeOf built.needs choice node → IsNodeAt k node
    node-may k x node (by_observation label y) here is (next, there, made) = subst (IsNodeAt k) (sym made) (
      All-contains (λ (step : Step). IsLabel step.label) system.steps _ labels (choice-is weighing system table x (by_observation label y) is).step,
      taken-before weighing system pairs table wanted nodes numbers built k x (by_observation label y) y here is (Contains-first y []) next there,
    )
    node-may k x node (by_split each) here is (clauses, rise, made, same) =
        subst (IsNodeAt k) (sym made) (rise, All-weaker (Contains clauses) (λ clause. clause.node < k) before clauses (All-contains_itself clauses))
      where
        before : (clause : Clause) → Contains clauses clause → clause.node < k
        before clause member =
            let (one, inside, (sign, there)) = (same clause).0 member in
            taken-before weighing system pairs table wanted nodes numbers built k x (by_split each) one.need here is
            (Contains-map (λ (clause : ClauseNeed). clause.need) each one inside) clause.node there

    pub built-sheet : IsSheet nodes
    built-sheet k node at =
        let (x, here) = stands-some built.needs k (omega (arith, stands-below nodes k node at, built.count)) in
        let (choice, is, made) = built.chosen k x node here at in
        node-may k x node choice here is made
