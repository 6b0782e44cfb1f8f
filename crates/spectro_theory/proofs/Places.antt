-- Members of a list by their places.
use Rattle.std.proofs.Common.{ℕ, zero, suc, ◌<◌, ◌+◌, ◌≡◌, ◌⊎◌, inl, inr, sym, ap, ◌∙◌, subst, All, Contains, List, [], ◌∷◌, ◌++◌, length, map, take, Some, None, option_map, slice_get, Bool, true, false, cond, refl, arith}
use Rattle.std.specs.List.{filter}
use Rattle.std.proofs.lemmas.List.Elements.{All-get_or}
use Rattle.std.proofs.lemmas.Option.{slice_get_within, slice_get-get_or, slice_get-map, get_or_from_slice_get}
use Rattle.spectro_game.specs.Reached.{StandsAt, StandsIn}

pub stands-below : {X : Type 0} (xs : List X) (i : ℕ) (x : X) → StandsAt xs i x → i < length xs
stands-below xs i x here = slice_get_within xs i x here

pub stands-one : {X : Type 0} (xs : List X) (i : ℕ) (x y : X) → StandsAt xs i x → StandsAt xs i y → x ≡ y
stands-one xs i x y here also = cc

pub stands-some : {X : Type 0} (xs : List X) (i : ℕ) → i < length xs → (x : X) × StandsAt xs i x
stands-some [] i below = absurd (omega arith)
stands-some (x ∷ xs) zero below = (x, refl)
stands-some (x ∷ xs) (suc i) below = stands-some xs i (omega arith)

-- a list whose members stand at their places in another list begins it
pub begins_with : {X : Type 0} (xs ys : List X) → ((i : ℕ) (x : X) → StandsAt xs i x → StandsAt ys i x) → (rest : List X) × (ys ≡ xs ++ rest)
begins_with [] ys within = (ys, refl)
begins_with (x ∷ xs) [] within = absurd (let e : None ≡ Some x = within zero x refl in cc)
begins_with (x ∷ xs) (y ∷ ys) within = go (within zero x refl) (begins_with xs ys (λ i z here. within (suc i) z here))
  where
    go : Some y ≡ Some x → (rest : List _) × (ys ≡ xs ++ rest) → (rest : List _) × (y ∷ ys ≡ x ∷ xs ++ rest)
    go e (rest, is) = (rest, cc)

-- places in a longer list
pub stands-left : {X : Type 0} (xs ys : List X) (i : ℕ) (x : X) → StandsAt xs i x → StandsAt (xs ++ ys) i x
stands-left [] ys i x here = cc
stands-left (y ∷ xs) ys zero x here = here
stands-left (y ∷ xs) ys (suc i) x here = stands-left xs ys i x here

pub stands-right : {X : Type 0} (xs ys : List X) (i : ℕ) (x : X) → StandsAt ys i x → StandsAt (xs ++ ys) (length xs + i) x
stands-right [] ys i x here = let e : 0 + i ≡ i = omega arith in subst (λ n. StandsAt ys n x) (sym e) here
stands-right (y ∷ xs) ys i x here = let e : suc (length xs) + i ≡ suc (length xs + i) = omega arith in subst (λ n. StandsAt (y ∷ (xs ++ ys)) n x) (sym e)
    (stands-right xs ys i x here)

pub stands-last : {X : Type 0} (xs : List X) (y : X) (rest : List X) → StandsAt (xs ++ y ∷ rest) (length xs) y
stands-last [] y rest = refl
stands-last (x ∷ xs) y rest = stands-last xs y rest

-- with one member more, a member stands at its old place, or is the last
pub stands-cases : {X : Type 0} (xs : List X) (y : X) (i : ℕ) (x : X) → StandsAt (xs ++ y ∷ []) i x → StandsAt xs i x ⊎ ((i ≡ length xs) × (y ≡ x))
stands-cases [] y zero x here = inr (refl, cc)
stands-cases [] y (suc i) x here = cc
stands-cases (z ∷ xs) y zero x here = inl here
stands-cases (z ∷ xs) y (suc i) x here = elim (stands-cases xs y i x here) [ inl old ↦ inl old | inr last ↦ inr (ap suc last.0, last.1) ]

pub stands-old : {X : Type 0} (xs : List X) (y : X) (i : ℕ) (x : X) → i < length xs → StandsAt (xs ++ y ∷ []) i x → StandsAt xs i x
stands-old xs y i x below here = elim (stands-cases xs y i x here) [ inl old ↦ old | inr last ↦ absurd (let e : i ≡ length xs = last.0 in omega arith) ]

-- a member stands at a place, and the other way
pub StandsIn-member : {X : Type 0} (xs : List X) (x : X) → Contains xs x → StandsIn xs x
StandsIn-member xs x (i, below, is) = (i, slice_get-get_or xs i x below ∙ ap Some is)

pub Contains-stands : {X : Type 0} (xs : List X) (x : X) → StandsIn xs x → Contains xs x
Contains-stands xs x (i, here) = (i, slice_get_within xs i x here, get_or_from_slice_get xs i x x here)

-- what holds of all holds of the member at a place
pub holds-at : {X : Type 0} (P : X → Type 0) (xs : List X) (k : ℕ) (x : X) → All P xs → StandsAt xs k x → P x
holds-at P xs k x all here = subst P (get_or_from_slice_get xs k x x here) (All-get_or P xs k x (stands-below xs k x here) all)

-- places in lists that are made of others
pub stands-map : {X Y : Type 0} (f : X → Y) (xs : List X) (i : ℕ) (x : X) → StandsAt xs i x → StandsAt (map f xs) i (f x)
stands-map f xs i x here = slice_get-map f xs i ∙ ap (option_map f) here

-- a member that passes the test stands behind those before it that pass
pub stands-filter : {X : Type 0} (test : X → Bool) (xs : List X) (i : ℕ) (x : X) → StandsAt xs i x → test x ≡ true
    → StandsAt (filter test xs) (length (filter test (take i xs))) x
stands-filter test [] i x here pass = absurd (cc)
stands-filter test (y ∷ xs) zero x here pass =
    let e : y ≡ x = cc in
    let kept : test y ≡ true = ap test e ∙ pass in
    ap (λ b. slice_get (cond b (y ∷ filter test xs) (filter test xs)) 0) kept ∙ ap Some e
stands-filter {X} test (y ∷ xs) (suc i) x here pass = go (test y) (stands-filter test xs i x here pass)
  where
    go : (b : Bool) → StandsAt (filter test xs) (length (filter test (take i xs))) x
        → StandsAt (cond b (y ∷ filter test xs) (filter test xs)) (length (cond b (y ∷ filter test (take i xs)) (filter test (take i xs)))) x
    go true r = r
    go false r = r
