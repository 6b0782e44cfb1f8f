-- Any two clauses, and any two needs, are the same or one comes before the other.
use Rattle.std.proofs.Common.{◌≡◌, ◌⊎◌, inl, inr, ℕ, suc, ◌+◌, ◌<◌, List, [], ◌∷◌, length, drop, cond, not, refl, sym, ap, ◌∙◌, subst, arith, Some, Contains}
use Rattle.std.specs.Prelude.{slice_index}
use Rattle.std.proofs.lemmas.Bool.{cases_lt, cases_eq, cases_Bool, true≢false}
use Rattle.spectro_spec.specs.Price.{Price, parts, IsFirstSmaller}
use Rattle.spectro_spec.proofs.FirstSmaller.{IsFirstSmaller-irrefl}
use Rattle.spectro_spec.proofs.Members.{Contains-cases, Contains-none}
use Rattle.spectro_spec.proofs.Membership.{decide_member}
use Rattle.spectro_game.specs.Pairs.{Pair}
use Rattle.spectro_game.specs.Reached.{StandsAt}
use Rattle.spectro_hml.specs.declared.node.Clause.{Clause}
use Rattle.spectro_hml.specs.Clauses.{IsBeforeClause}
use Rattle.spectro_theory.specs.Reaching.{is_same_pair}
use Rattle.spectro_theory.proofs.Places.{stands-one}
use Rattle.spectro_theory.proofs.Reaching.{same_pair-equal, same_pair-itself}
use Rattle.spectro_build.specs.Choices.{Need}
use Rattle.spectro_build.specs.Needed.{height, number_of, IsBuiltBefore}

compare_numbers : (n m : ℕ) → (n < m) ⊎ ((n ≡ m) ⊎ (m < n))
compare_numbers n m =
    elim (cases_lt n m) [
      | inl before ↦ inl before
      | inr after ↦
          elim (cases_eq n m) [ inl same ↦ inr (inl same) | inr apart ↦ inr (inr (omega (arith, after, apart))) ]
    ]

pub compare_clauses : (one other : Clause) → IsBeforeClause one other ⊎ ((one ≡ other) ⊎ IsBeforeClause other one)
compare_clauses one other = elim (compare_numbers one.node other.node) [
  | inl below ↦ inl (inl below)
  | inr (inr above) ↦ inr (inr (inl above))
  | inr (inl same) ↦ elim (cases_Bool one.positive) [
    | inl positive ↦ elim (cases_Bool other.positive) [
      | inl also ↦ inr (inl (λ i. record { positive = (positive ∙ sym also) i; node = same i }))
      | inr negative ↦ inl (inr (same, positive, negative))
    ]
    | inr negative ↦ elim (cases_Bool other.positive) [
      | inl positive ↦ inr (inr (inr (sym same, positive, negative)))
      | inr also ↦ inr (inl (λ i. record { positive = (negative ∙ sym also) i; node = same i }))
    ]
  ]
]

pub compare_rows : (ns ms : List ℕ) → length ns ≡ length ms → IsFirstSmaller ns ms ⊎ ((ns ≡ ms) ⊎ IsFirstSmaller ms ns)
compare_rows [] [] long = inr (inl refl)
compare_rows [] (m ∷ ms) long = absurd (omega arith)
compare_rows (n ∷ ns) [] long = absurd (omega arith)
compare_rows (n ∷ ns) (m ∷ ms) long = elim (compare_numbers n m) [
  | inl below ↦ inl (inl below)
  | inr (inr above) ↦ inr (inr (inl above))
  | inr (inl same) ↦ elim (compare_rows ns ms (omega arith)) [
    | inl before ↦ inl (inr (same, before))
    | inr (inl rest) ↦ inr (inl (cc))
    | inr (inr after) ↦ inr (inr (inr (sym same, after)))
  ]
]

-- a pair stands at its number
number_of-stands : (pairs : List Pair) (x : Pair) → Contains pairs x → StandsAt pairs (number_of pairs x) x
number_of-stands [] x member = absurd (Contains-none x member)
number_of-stands (y ∷ pairs) x member = elim (cases_Bool (is_same_pair x y)) [
  | inl same ↦ subst (λ k. StandsAt (y ∷ pairs) k x) (sym (ap (λ b. cond (not b) (1 + number_of pairs x) 0) same)) (ap Some (sym (same_pair-equal x y same)))
  | inr apart ↦
      subst (λ k. StandsAt (y ∷ pairs) k x) (sym (ap (λ b. cond (not b) (1 + number_of pairs x) 0) apart))
      (subst (λ k. StandsAt (y ∷ pairs) k x) (next (number_of pairs x))
      (number_of-stands pairs x (elim (Contains-cases y pairs x member) [
        | inl first ↦ absurd (true≢false (sym (same_pair-itself x) ∙ (ap (is_same_pair x) (sym first) ∙ apart)))
        | inr later ↦ later
      ])))
]
  where
    next : (n : ℕ) → suc n ≡ 1 + n
    next n = omega arith

same_price : (e f : Price) → parts e ≡ parts f → e ≡ f
same_price e f same =
    let observations : e.observations ≡ f.observations = ap (λ ns. slice_index ns 0) same in
    let conjunctions : e.conjunctions ≡ f.conjunctions = ap (λ ns. slice_index ns 1) same in
    let deepest_positive : e.deepest_positive ≡ f.deepest_positive = ap (λ ns. slice_index ns 2) same in
    let other_positive : e.other_positive ≡ f.other_positive = ap (λ ns. slice_index ns 3) same in
    let deepest_negative : e.deepest_negative ≡ f.deepest_negative = ap (λ ns. slice_index ns 4) same in
    let negations : e.negations ≡ f.negations = ap (λ ns. slice_index ns 5) same in
    let weighted_depth : e.weighted_depth ≡ f.weighted_depth = ap (λ ns. slice_index ns 6) same in
    λ i. record {
      observations = observations i;
      conjunctions = conjunctions i;
      deepest_positive = deepest_positive i;
      other_positive = other_positive i;
      deepest_negative = deepest_negative i;
      negations = negations i;
      weighted_depth = weighted_depth i;
    }

module _ (pairs : List Pair) where
  pub compare_needs : (x y : Need) → Contains pairs x.pair → Contains pairs y.pair → IsBuiltBefore pairs x y ⊎ ((x ≡ y) ⊎ IsBuiltBefore pairs y x)
  compare_needs x y here there =
      elim (compare_rows (height x ∷ number_of pairs x.pair ∷ parts x.price) (height y ∷ number_of pairs y.pair ∷ parts y.price) refl) [
        | inl before ↦ inl before
        | inr (inr after) ↦ inr (inr after)
        | inr (inl same) ↦
            let number : number_of pairs x.pair ≡ number_of pairs y.pair = ap (λ ns. slice_index ns 1) same in
            let pair : x.pair ≡ y.pair = stands-one pairs (number_of pairs y.pair) x.pair y.pair
            (subst (λ k. StandsAt pairs k x.pair) number (number_of-stands pairs x.pair here)) (number_of-stands pairs y.pair there) in
            let price : x.price ≡ y.price = same_price x.price y.price (ap (drop 2) same) in
            inr (inl (λ i. record { pair = pair i; price = price i }))
      ]

-- whether two needs are the same
decide_price : (e f : Price) → Dec (e ≡ f)
decide_price e f = elim (compare_rows (parts e) (parts f) refl) [
  | inl before ↦ no (λ same. IsFirstSmaller-irrefl (parts f) (subst (λ g. IsFirstSmaller (parts g) (parts f)) same before))
  | inr (inl same) ↦ yes (same_price e f same)
  | inr (inr after) ↦ no (λ same. IsFirstSmaller-irrefl (parts f) (subst (λ g. IsFirstSmaller (parts f) (parts g)) same after))
]

decide_need : (x y : Need) → Dec (x ≡ y)
decide_need x y = elim (cases_Bool (is_same_pair x.pair y.pair)) [
  | inr apart ↦ no (λ same. true≢false (sym (same_pair-itself x.pair) ∙ (ap (λ (z : Need). is_same_pair x.pair z.pair) same ∙ apart)))
  | inl one ↦ elim (decide_price x.price y.price) [
    | yes price ↦ let pair = same_pair-equal x.pair y.pair one in yes (λ i. record { pair = pair i; price = price i })
    | no differ ↦ no (λ same. differ (ap (λ (z : Need). z.price) same))
  ]
]

pub decide_among : (xs : List Need) (x : Need) → Dec (Contains xs x)
decide_among xs x = elim (decide_member (λ y. y ≡ x) (λ y. decide_need y x) xs) [
  | yes (y, member, same) ↦ yes (subst (λ z. Contains xs z) same member)
  | no none ↦ no (λ member. none (x, member, refl))
]
