-- Members of mapped, joined and filtered lists, and searches for a member that passes a test.
use Rattle.std.proofs.Common.{◌≡◌, ◌⊎◌, inl, inr, List, [], ◌∷◌, map, filter, flat_map, refl, sym, ap, subst, Contains, Bool, true, false, cond, ◌||◌}
use Rattle.std.specs.List.{list_any}
use Rattle.std.proofs.lemmas.Bool.{or_left, or_right, true≢false}
use Rattle.std.proofs.lemmas.List.Elements.{Contains-append_left, Contains-append_right, Contains-append_cases}
use Rattle.spectro_spec.proofs.Members.{Contains-first, Contains-later, Contains-cases, Contains-none}

-- the first member, where it equals x
pub Contains-first_is : {X : Type 0} (y : X) (xs : List X) (x : X) → y ≡ x → Contains (y ∷ xs) x
Contains-first_is y xs x e = subst (λ z. Contains (y ∷ xs) z) e (Contains-first y xs)

pub Contains-map : {X Y : Type 0} (f : X → Y) (xs : List X) (x : X) → Contains xs x → Contains (map f xs) (f x)
Contains-map f [] x member = absurd (Contains-none x member)
Contains-map f (y ∷ xs) x member = elim (Contains-cases y xs x member) [
  | inl e ↦ Contains-first_is (f y) (map f xs) (f x) (ap f e)
  | inr h ↦ Contains-later (f y) (map f xs) (f x) (Contains-map f xs x h)
]

pub Contains-map_cases : {X Y : Type 0} (f : X → Y) (xs : List X) (y : Y) → Contains (map f xs) y → (x : X) × Contains xs x × (f x ≡ y)
Contains-map_cases f [] y member = absurd (Contains-none y member)
Contains-map_cases f (x ∷ xs) y member = elim (Contains-cases (f x) (map f xs) y member) [
  | inl e ↦ (x, Contains-first x xs, e)
  | inr h ↦ let found = Contains-map_cases f xs y h in (found.0, Contains-later x xs found.0 found.1, found.2)
]

pub Contains-flat_map : {X Y : Type 0} (f : X → List Y) (xs : List X) (x : X) (y : Y) → Contains xs x → Contains (f x) y → Contains (flat_map f xs) y
Contains-flat_map f [] x y member inner = absurd (Contains-none x member)
Contains-flat_map f (z ∷ xs) x y member inner = elim (Contains-cases z xs x member) [
  | inl e ↦ Contains-append_left (f z) (flat_map f xs) y (subst (λ w. Contains (f w) y) (sym e) inner)
  | inr h ↦ Contains-append_right (f z) (flat_map f xs) y (Contains-flat_map f xs x y h inner)
]

pub Contains-flat_map_cases : {X Y : Type 0} (f : X → List Y) (xs : List X) (y : Y) → Contains (flat_map f xs) y
    → (x : X) × Contains xs x × Contains (f x) y
Contains-flat_map_cases f [] y member = absurd (Contains-none y member)
Contains-flat_map_cases f (x ∷ xs) y member = elim (Contains-append_cases (f x) (flat_map f xs) y member) [
  | inl h ↦ (x, Contains-first x xs, h)
  | inr h ↦ let found = Contains-flat_map_cases f xs y h in (found.0, Contains-later x xs found.0 found.1, found.2)
]

pub Contains-filter : {X : Type 0} (test : X → Bool) (xs : List X) (x : X) → Contains xs x → test x ≡ true → Contains (filter test xs) x
Contains-filter test [] x member passes = absurd (Contains-none x member)
Contains-filter test (y ∷ xs) x member passes = go (test y) (λ e. subst (λ z. test z ≡ true) (sym e) passes) (Contains-filter test xs x)
    (Contains-cases y xs x member)
  where
    go : (kept : Bool) → (y ≡ x → kept ≡ true) → (Contains xs x → test x ≡ true → Contains (filter test xs) x) → (y ≡ x) ⊎ Contains xs x
        → Contains (cond kept (y ∷ filter test xs) (filter test xs)) x
    go true keeps rest (inl e) = Contains-first_is y (filter test xs) x e
    go true keeps rest (inr h) = Contains-later y (filter test xs) x (rest h passes)
    go false keeps rest (inl e) = absurd (true≢false (sym (keeps e)))
    go false keeps rest (inr h) = rest h passes

pub Contains-filter_cases : {X : Type 0} (test : X → Bool) (xs : List X) (x : X) → Contains (filter test xs) x → Contains xs x × (test x ≡ true)
Contains-filter_cases test [] x member = absurd (Contains-none x member)
Contains-filter_cases test (y ∷ xs) x member = go (test y) (λ e k. subst (λ z. test z ≡ true) e k) refl (Contains-filter_cases test xs x) member
  where
    go : (kept : Bool) → (y ≡ x → test y ≡ true → test x ≡ true) → test y ≡ kept → (Contains (filter test xs) x → Contains xs x × (test x ≡ true))
        → Contains (cond kept (y ∷ filter test xs) (filter test xs)) x → Contains (y ∷ xs) x × (test x ≡ true)
    go true moved is rest h = elim (Contains-cases y (filter test xs) x h) [
      | inl e ↦ (Contains-first_is y xs x e, moved e is)
      | inr later ↦ let found = rest later in (Contains-later y xs x found.0, found.1)
    ]
    go false moved is rest h = let found = rest h in (Contains-later y xs x found.0, found.1)

-- a member that passes is found, and what is found is a member that passes
pub list_any-has : {X : Type 0} (test : X → Bool) (xs : List X) (x : X) → Contains xs x → test x ≡ true → list_any test xs ≡ true
list_any-has test [] x member passes = absurd (Contains-none x member)
list_any-has test (y ∷ xs) x member passes = elim (Contains-cases y xs x member) [
  | inl e ↦ or_left (test y) (list_any test xs) (subst (λ z. test z ≡ true) (sym e) passes)
  | inr h ↦ or_right (test y) (list_any test xs) (list_any-has test xs x h passes)
]

pub list_any-cases : {X : Type 0} (test : X → Bool) (xs : List X) → list_any test xs ≡ true → (x : X) × Contains xs x × (test x ≡ true)
list_any-cases test [] found = cc
list_any-cases test (y ∷ xs) found = go (test y) refl (list_any-cases test xs) found
  where
    go : (here : Bool) → test y ≡ here → (list_any test xs ≡ true → (x : _) × Contains xs x × (test x ≡ true)) → (here || list_any test xs) ≡ true
        → (x : _) × Contains (y ∷ xs) x × (test x ≡ true)
    go true is rest e = (y, Contains-first y xs, is)
    go false is rest e = let later = rest e in (later.0, Contains-later y xs later.0 later.1, later.2)

-- a search for a member with a decided property
pub decide_member : {X : Type 0} (P : X → Type 0) → ((x : X) → Dec (P x)) → (xs : List X) → Dec ((x : X) × Contains xs x × P x)
decide_member P decided [] = no (λ h. Contains-none h.0 h.1)
decide_member P decided (y ∷ xs) = go (decided y) (decide_member P decided xs)
  where
    go : Dec (P y) → Dec ((x : _) × Contains xs x × P x) → Dec ((x : _) × Contains (y ∷ xs) x × P x)
    go (yes here) rest = yes (y, Contains-first y xs, here)
    go (no not_here) (yes (x, member, holds)) = yes (x, Contains-later y xs x member, holds)
    go (no not_here) (no not_later) = no (λ h. elim (Contains-cases y xs h.0 h.1) [
      | inl e ↦ not_here (subst P (sym e) h.2)
      | inr member ↦ not_later (h.0, member, h.2)
    ])
