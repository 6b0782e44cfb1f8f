-- The split of a mask: it lacks a clause, or these are its clauses.
use Rattle.std.proofs.Common.{◌≡◌, ◌≢◌, ◌∙◌, ℕ, suc, ◌/◌, ◌%◌, ◌^◌, ◌<◌, ◌≤◌, Bool, true, false, eqb, cond, ◌+◌, List, [], ◌∷◌, ◌++◌, map, length, get_or, take, refl, sym, ap, subst, arith, Option, None, Some, Contains, append_assoc}
use Rattle.std.specs.Int.{bit_at}
use Rattle.std.specs.Option.{option_map}
use Rattle.std.proofs.lemmas.Bool.{eqb-false}
use Rattle.std.proofs.lemmas.List.{append-nil, length-map, length-take-le, take_more}
use Rattle.std.proofs.lemmas.List.Elements.{Contains-append_left, Contains-append_right}
use Rattle.std.proofs.lemmas.Nat.Bits.{bit_at-suc, bit_at_lowest}
use Rattle.spectro_spec.specs.Price.{Price}
use Rattle.spectro_spec.proofs.Members.{Contains-first}
use Rattle.spectro_spec.proofs.Membership.{Contains-map}
use Rattle.spectro_game.specs.Divisions.{Division, divisions}
use Rattle.spectro_game.specs.Pairs.{Pair}
use Rattle.spectro_game.specs.Reached.{StandsAt}
use Rattle.spectro_game.specs.Generations.{Table}
use Rattle.spectro_theory.proofs.Masks.{division_at, divisions-place, divisions-AreByMask, with_member}
use Rattle.spectro_theory.proofs.Places.{stands-map, stands-below, stands-one, stands-some}
use Rattle.spectro_solve.proofs.SubsetPairs.{left-some, left-zero}
use Rattle.spectro_build.specs.Choices.{by_split, all_there, first_fitting, as_deepest, with_sign, left_clause, right_clause, split_choice}
use Rattle.spectro_build.specs.Chosen.{clause_at, split_at}
use Rattle.spectro_build.specs.Keys.{need_at}
use Rattle.spectro_build.specs.Splits.{Lacks, clause_outside, clauses_of_split, clauses_outside, option_list}
use Rattle.spectro_build.specs.declared.clauses.SignedKey.{SignedKey}
use Rattle.spectro_build.specs.declared.key.Key.{Key}
use Rattle.spectro_build.proofs.Searches.{all_there-map, all_there-lacks}

-- a member whose bit is clear is on the right
bit-right : (qs : List ℕ) (mask : ℕ) → mask < 2 ^ length qs → (i q : ℕ) → StandsAt qs i q → bit_at mask i ≡ 0 → Contains (division_at mask qs).right q
bit-right qs mask below i q here clear =
    let (d, stands, by) = (divisions-AreByMask qs).place mask below in
    let same = stands-one (divisions qs) mask (division_at mask qs) d (divisions-place qs mask below) stands in
    subst (λ (z : Division). Contains z.right q) (sym same) ((by.right q).1 (i, here, clear))

left_clause-some : (table : Table) (p : ℕ) (e : Price) (left : List ℕ) → left ≢ []
    → left_clause table p e left ≡ option_map (with_sign true) (first_fitting table (record { state = p; set = left }) as_deepest e) ∷ []
left_clause-some table p e [] some = absurd (some refl)
left_clause-some table p e (q ∷ qs) some = refl

module _ (pairs : List Pair) (rows : List (List Price)) (table : Table) (p : ℕ) (e : Price) where
  -- for each member the clause that refutes it alone, where there is one
  abbrev pub AreClauses : List ℕ → List (Option SignedKey) → Type 0
  AreClauses qs others = map (right_clause table p e) qs ≡ map (option_map (clause_at pairs rows)) others

  -- the clauses of the right part are those of the members that are not in the mask
  right-there : (mask : ℕ) (qs : List ℕ) (others : List (Option SignedKey)) → AreClauses qs others → ¬ Lacks others mask
      → map (right_clause table p e) (division_at mask qs).right ≡ map Some (map (clause_at pairs rows) (clauses_outside mask others))
  unfolding division_at clauses_outside
  right-there mask [] [] each full = refl
  right-there mask [] (other ∷ others) each full = absurd (cc)
  right-there mask (q ∷ qs) [] each full = absurd (cc)
  right-there mask (q ∷ qs) (other ∷ others) each full = by
      (right-there (mask / 2) qs others (let rest : AreClauses qs others = cc in rest) (λ (i, none, clear). full (suc i, none, bit_at-suc mask i ∙ clear)))
      (eqb (mask % 2) 1) refl
    where
      later : Type 0
      later = map (right_clause table p e) (division_at (mask / 2) qs).right ≡ map Some (map (clause_at pairs rows) (clauses_outside (mask / 2) others))

      first : right_clause table p e q ≡ option_map (clause_at pairs rows) other
      first = cc

      named : later → (o : Option SignedKey) → other ≡ o → mask % 2 ≢ 1
          → map (right_clause table p e) (q ∷ (division_at (mask / 2) qs).right)
          ≡ map Some (map (clause_at pairs rows) (option_list o ++ clauses_outside (mask / 2) others))
      named rest None is even = absurd (full (0, ap Some is, bit_at_lowest mask ∙ (let zero : mask % 2 ≡ 0 = omega (arith, even) in zero)))
      named rest (Some signed) is even =
          ap (λ o. o ∷ map (right_clause table p e) (division_at (mask / 2) qs).right) (first ∙ ap (option_map (clause_at pairs rows)) is)
          ∙ ap (λ os. Some (clause_at pairs rows signed) ∷ os) rest

      by : later → (b : Bool) → eqb (mask % 2) 1 ≡ b
          → map (right_clause table p e) (with_member q b (division_at (mask / 2) qs)).right
          ≡ map Some (map (clause_at pairs rows) (cond b [] (option_list other) ++ clauses_outside (mask / 2) others))
      by rest true set = rest
      by rest false clear = named rest other refl (eqb-false (mask % 2) 1 clear)

  module _ (qs : List ℕ) (others : List (Option SignedKey)) (each : AreClauses qs others) (mask : ℕ) (below : mask < 2 ^ length qs) where
    abbrev d : Division
    d = division_at mask qs

    lacking : Contains (left_clause table p e d.left ++ map (right_clause table p e) d.right) None → split_choice table p e d ≡ None
    lacking member = ap (option_map by_split) (all_there-lacks (left_clause table p e d.left ++ map (right_clause table p e) d.right) member)

    -- a member of the right part has no clause
    pub split-lacks_right : Lacks others mask → split_choice table p e d ≡ None
    split-lacks_right (i, none, clear) =
        let many : length (map (right_clause table p e) qs) ≡ length (map (option_map (clause_at pairs rows)) others) = ap length each in
        let (q, member) = stands-some qs i (omega (
          arith,
          many,
          length-map qs (right_clause table p e),
          length-map others (option_map (clause_at pairs rows)),
          stands-below others i None none,
        )) in
        let made = subst (λ os. StandsAt os i (right_clause table p e q)) each (stands-map (right_clause table p e) qs i q member) in
        let is : right_clause table p e q ≡ None = stands-one (map (option_map (clause_at pairs rows)) others) i (right_clause table p e q) None made
        (stands-map (option_map (clause_at pairs rows)) others i None none) in
        lacking (Contains-append_right (left_clause table p e d.left) (map (right_clause table p e) d.right) None
        (subst (Contains (map (right_clause table p e) d.right)) is
        (Contains-map (right_clause table p e) d.right q (bit-right qs mask below i q member clear))))

    module _ (some : 1 ≤ mask) where
      left-one : left_clause table p e d.left ≡ option_map (with_sign true) (first_fitting table (record { state = p; set = d.left }) as_deepest e) ∷ []
      left-one = left_clause-some table p e d.left (left-some mask qs some below)

      -- the left part has no clause
      pub split-lacks_left : first_fitting table (record { state = p; set = d.left }) as_deepest e ≡ None → split_choice table p e d ≡ None
      split-lacks_left none = lacking (Contains-append_left (left_clause table p e d.left) (map (right_clause table p e) d.right) None
          (subst (λ values. Contains values None) (sym (left-one ∙ ap (λ o. option_map (with_sign true) o ∷ []) none)) (Contains-first None [])))

      pub split-there : (key : Key) → ¬ Lacks others mask → first_fitting table (record { state = p; set = d.left }) as_deepest e
          ≡ Some (need_at pairs rows key)
          → split_choice table p e d ≡ Some (split_at pairs rows (clauses_of_split others (record { mask = mask; left = Some key })))
      split-there key full fits =
          let ones = map (clause_at pairs rows) (clauses_outside mask others) in
          ap (λ values. option_map by_split (all_there (values ++ map (right_clause table p e) d.right)))
          (left-one ∙ ap (λ o. option_map (with_sign true) o ∷ []) fits)
          ∙ ap (λ values. option_map by_split (all_there (Some (with_sign true (need_at pairs rows key)) ∷ values))) (right-there mask qs others each full)
          ∙ ap (option_map by_split) (all_there-map (with_sign true (need_at pairs rows key) ∷ ones))

  -- nothing on the left
  pub split-of_none : (qs : List ℕ) (others : List (Option SignedKey)) → AreClauses qs others → ¬ Lacks others 0
      → split_choice table p e (division_at 0 qs) ≡ Some (split_at pairs rows (clauses_of_split others (record { mask = 0; left = None })))
  split-of_none qs others each full =
      ap (λ left. option_map by_split (all_there (left_clause table p e left ++ map (right_clause table p e) (division_at 0 qs).right))) (left-zero qs)
      ∙ ap (λ values. option_map by_split (all_there values)) (right-there 0 qs others each full)
      ∙ ap (option_map by_split) (all_there-map (map (clause_at pairs rows) (clauses_outside 0 others)))

-- one member more
pub clauses_outside-more : (mask : ℕ) (others : List (Option SignedKey)) (other : Option SignedKey)
    → clauses_outside mask (others ++ other ∷ []) ≡ clauses_outside mask others ++ cond (eqb (bit_at mask (length others)) 1) [] (option_list other)
unfolding clauses_outside
clauses_outside-more mask [] other = append-nil (cond (eqb (mask % 2) 1) [] (option_list other))
    ∙ ap (λ b. cond (eqb b 1) [] (option_list other)) (sym (bit_at_lowest mask))
clauses_outside-more mask (first ∷ others) other =
    ap (λ l. cond (eqb (mask % 2) 1) [] (option_list first) ++ l) (clauses_outside-more (mask / 2) others other)
    ∙ sym (append_assoc (cond (eqb (mask % 2) 1) [] (option_list first)) (clauses_outside (mask / 2) others)
    (cond (eqb (bit_at (mask / 2) (length others)) 1) [] (option_list other)))
    ∙ ap (λ b. (cond (eqb (mask % 2) 1) [] (option_list first) ++ clauses_outside (mask / 2) others) ++ cond (eqb b 1) [] (option_list other))
    (sym (bit_at-suc mask (length others)))

pub clauses_outside-none : (mask : ℕ) → clauses_outside mask [] ≡ []
unfolding clauses_outside
clauses_outside-none mask = refl

pub outside-next : (mask : ℕ) (others : List (Option SignedKey)) (i : ℕ) (d : Option SignedKey) → i < length others
    → clauses_outside mask (take (i + 1) others) ≡ clauses_outside mask (take i others) ++ clause_outside mask i (get_or others i d)
outside-next mask others i d below =
    ap (clauses_outside mask) (take_more others i d below) ∙ clauses_outside-more mask (take i others) (get_or others i d)
    ∙ ap (λ n. clauses_outside mask (take i others) ++ clause_outside mask n (get_or others i d)) (length-take-le i others (omega (arith, below)))
