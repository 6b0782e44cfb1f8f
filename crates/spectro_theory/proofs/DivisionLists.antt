-- The list of divisions has exactly the divisions, and only the first of them has an empty left part.
use Rattle.std.proofs.Common.{◌≡◌, ◌≢◌, inl, inr, ℕ, List, [], ◌∷◌, drop, refl, ap, sym, subst, Contains}
use Rattle.std.specs.List.{flat_map}
use Rattle.spectro_spec.proofs.Members.{Contains-first, Contains-later, Contains-cases, Contains-none}
use Rattle.spectro_game.specs.Divisions.{IsDivided, nothing, to_left, to_right, Division, both_ways, divisions}
use Rattle.spectro_spec.proofs.Membership.{Contains-flat_map, Contains-flat_map_cases}

-- the parts of the division
abbrev pub Divides : List ℕ → Division → Type 0
Divides qs d = IsDivided qs d.left d.right

both_ways-Divides : (q : ℕ) (qs : List ℕ) (d e : Division) → Divides qs d → Contains (both_ways q d) e → Divides (q ∷ qs) e
both_ways-Divides q qs d e divided member = elim (Contains-cases (record d { right = q ∷ d.right }) (record d { left = q ∷ d.left } ∷ []) e member) [
  | inl same ↦ subst (Divides (q ∷ qs)) same (to_right divided)
  | inr later ↦ elim (Contains-cases (record d { left = q ∷ d.left }) [] e later) [
    | inl same ↦ subst (Divides (q ∷ qs)) same (to_left divided)
    | inr none ↦ absurd (Contains-none e none)
  ]
]

pub divisions-Divides : (qs : List ℕ) (d : Division) → Contains (divisions qs) d → Divides qs d
divisions-Divides [] d member = elim (Contains-cases (record { left = []; right = [] }) [] d member) [
  | inl same ↦ subst (Divides []) same nothing
  | inr none ↦ absurd (Contains-none d none)
]
divisions-Divides (q ∷ qs) d member =
    let found = Contains-flat_map_cases (both_ways q) (divisions qs) d member in
    both_ways-Divides q qs found.0 d (divisions-Divides qs found.0 found.1) found.2

pub Contains-divisions : {qs left right : List ℕ} → IsDivided qs left right → Contains (divisions qs) (record { left = left; right = right })
Contains-divisions nothing = Contains-first (record { left = []; right = [] }) []
Contains-divisions (to_left {q = q} {qs = qs} {left = left} {right = right} divided) =
    Contains-flat_map (both_ways q) (divisions qs) (record { left = left; right = right }) (record { left = q ∷ left; right = right })
    (Contains-divisions divided)
    (Contains-later (record { left = left; right = q ∷ right }) (record { left = q ∷ left; right = right } ∷ []) (record { left = q ∷ left; right = right })
    (Contains-first (record { left = q ∷ left; right = right }) []))
Contains-divisions (to_right {q = q} {qs = qs} {left = left} {right = right} divided) =
    Contains-flat_map (both_ways q) (divisions qs) (record { left = left; right = right }) (record { left = left; right = q ∷ right })
    (Contains-divisions divided)
    (Contains-first (record { left = left; right = q ∷ right }) (record { left = q ∷ left; right = right } ∷ []))

-- all on the right
abbrev pub none_left : List ℕ → Division
none_left qs = record { left = []; right = qs }

divisions-first : (qs : List ℕ) → divisions qs ≡ none_left qs ∷ drop 1 (divisions qs)
divisions-first [] = refl
divisions-first (q ∷ qs) = again q qs (drop 1 (divisions qs)) (divisions qs) (divisions-first qs)
  where
    again : (q : ℕ) (qs : List ℕ) (others all : List Division) → all ≡ none_left qs ∷ others
        → flat_map (both_ways q) all ≡ none_left (q ∷ qs) ∷ drop 1 (flat_map (both_ways q) all)
    again q qs others all is = subst (λ ds. flat_map (both_ways q) ds ≡ none_left (q ∷ qs) ∷ drop 1 (flat_map (both_ways q) ds)) (sym is) refl

-- something on the left
abbrev TakesSome : Division → Type 0
TakesSome d = d.left ≢ []

both_ways-TakesSome : (q : ℕ) (d e : Division) → TakesSome d → Contains (both_ways q d) e → TakesSome e
both_ways-TakesSome q d e some member = elim (Contains-cases (record d { right = q ∷ d.right }) (record d { left = q ∷ d.left } ∷ []) e member) [
  | inl same ↦ subst TakesSome same some
  | inr later ↦ elim (Contains-cases (record d { left = q ∷ d.left }) [] e later) [
    | inl same ↦ subst TakesSome same (λ none. cc)
    | inr none ↦ absurd (Contains-none e none)
  ]
]

pub later_divisions-TakesSome : (qs : List ℕ) (d : Division) → Contains (drop 1 (divisions qs)) d → d.left ≢ []
later_divisions-TakesSome [] d member = absurd (Contains-none d member)
later_divisions-TakesSome (q ∷ qs) d member = again q qs (drop 1 (divisions qs)) (divisions qs) (divisions-first qs) (later_divisions-TakesSome qs) d member
  where
    again : (q : ℕ) (qs : List ℕ) (others all : List Division) → all ≡ none_left qs ∷ others → ((e : Division) → Contains others e → TakesSome e)
        → (d : Division) → Contains (drop 1 (flat_map (both_ways q) all)) d → TakesSome d
    again q qs others all is some d member =
        let h : Contains (record { left = q ∷ []; right = qs } ∷ flat_map (both_ways q) others) d = subst
        (λ ds. Contains (drop 1 (flat_map (both_ways q) ds)) d) is member in
        elim (Contains-cases (record { left = q ∷ []; right = qs }) (flat_map (both_ways q) others) d h) [
          | inl same ↦ subst TakesSome same (λ none. cc)
          | inr later ↦ let found = Contains-flat_map_cases (both_ways q) others d later in both_ways-TakesSome q found.0 d (some found.0 found.1) found.2
        ]

pub Contains-later_divisions : {qs left right : List ℕ} → left ≢ [] → IsDivided qs left right
    → Contains (drop 1 (divisions qs)) (record { left = left; right = right })
Contains-later_divisions {qs} {left} {right} some divided =
    elim (Contains-cases (none_left qs) (drop 1 (divisions qs)) (record { left = left; right = right })
    (subst (λ ds. Contains ds (record { left = left; right = right })) (divisions-first qs) (Contains-divisions divided))) [
      | inl same ↦ absurd (some (sym (ap (λ (d : Division). d.left) same)))
      | inr later ↦ later
    ]
