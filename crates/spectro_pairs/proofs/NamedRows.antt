-- Rows that name lists: the row at a place names the list at that place, number by number. How they are read, and how they grow.
use Rattle.std.proofs.Common.{ℕ, zero, suc, ◌+◌, ◌<◌, ◌≤◌, ◌≡◌, List, [], ◌∷◌, ◌++◌, length, get_or, map, take, All, refl, sym, ap, ◌∙◌, arith, slice_get, Some}
use Rattle.std.proofs.lemmas.List.{length-map, map-append, map_more, take-append-le}
use Rattle.std.proofs.lemmas.List.Elements.{All-cons}
use Rattle.std.proofs.lemmas.Option.{get_or_from_slice_get}
use Rattle.spectro_game.specs.Reached.{StandsAt}
use Rattle.spectro_theory.proofs.Places.{stands-below, stands-left, stands-map}
use Rattle.spectro_pairs.specs.Explored.{NameRows}
use Rattle.spectro_pairs.specs.Growth.{Name}

-- ---- one row
pub length-named : {X : Type 0} (members : List X) (row : List ℕ) (list : List X) → Name members row list → length row ≡ length list
length-named members row list named = sym (length-map row (slice_get members)) ∙ ap length named ∙ length-map list Some

pub named-place : {X : Type 0} (members : List X) (row : List ℕ) (list : List X) (i : ℕ) (x : X) → Name members row list → StandsAt list i x
    → StandsAt members (get_or row i 0) x
named-place members row [] i x named here = absurd (cc)
named-place members [] (y ∷ list) i x named here = absurd
    (let e : length {A = ℕ} [] ≡ length (y ∷ list) = length-named members [] (y ∷ list) named in omega (arith, e))
named-place members (n ∷ row) (y ∷ list) zero x named here =
    let first : slice_get members n ≡ Some y = cc in
    let e : y ≡ x = cc in
    first ∙ ap Some e
named-place members (n ∷ row) (y ∷ list) (suc i) x named here =
    let rest : map (slice_get members) row ≡ map Some list = cc in
    named-place members row list i x rest here

-- numbers keep their names in a longer list
pub name-grows : {X : Type 0} (xs rest : List X) (ns : List ℕ) (ys : List X) → Name xs ns ys → Name (xs ++ rest) ns ys
name-grows xs rest [] [] named = refl
name-grows xs rest [] (y ∷ ys) named = cc
name-grows xs rest (n ∷ ns) [] named = cc
name-grows xs rest (n ∷ ns) (y ∷ ys) named =
    let here : slice_get xs n ≡ Some y = cc in
    let later : Name xs ns ys = cc in
    let first = stands-left xs rest n y here in
    let others = name-grows xs rest ns ys later in
    λ i. first i ∷ others i

pub name-append : {X : Type 0} (xs : List X) (ms ns : List ℕ) (ys zs : List X) → Name xs ms ys → Name xs ns zs → Name xs (ms ++ ns) (ys ++ zs)
name-append xs ms ns ys zs first then = map-append (slice_get xs) ms ns ∙ (λ i. first i ++ then i) ∙ sym (map-append Some ys zs)

-- ---- all rows
named-row : {X : Type 0} (members : List X) (rows : List (List ℕ)) (lists : List (List X)) (k : ℕ) (row : List ℕ) (list : List X)
    → NameRows members rows lists → StandsAt rows k row → StandsAt lists k list → Name members row list
named-row members [] lists k row list named here there = absurd (cc)
named-row members (r ∷ rows) [] k row list named here there = absurd (cc)
named-row members (r ∷ rows) (l ∷ lists) zero row list named here there =
    let first : map (slice_get members) r ≡ map Some l = cc in
    let e : r ≡ row = cc in
    let f : l ≡ list = cc in
    ap (map (slice_get members)) (sym e) ∙ first ∙ ap (map Some) f
named-row members (r ∷ rows) (l ∷ lists) (suc k) row list named here there =
    let rest : map (map (slice_get members)) rows ≡ map (map Some) lists = cc in
    named-row members rows lists k row list rest here there

-- where the lists are those of a function at members ys
pub named-at : {X Y : Type 0} (members : List X) (rows : List (List ℕ)) (f : Y → List X) (ys : List Y) (k : ℕ) (row : List ℕ) (y : Y)
    → NameRows members rows (map f ys) → StandsAt rows k row → StandsAt ys k y → Name members row (f y)
named-at members rows f ys k row y named here there = named-row members rows (map f ys) k row (f y) named here (stands-map f ys k y there)

pub length-named_rows : {X Y : Type 0} (members : List X) (rows : List (List ℕ)) (f : Y → List X) (ys : List Y) → NameRows members rows (map f ys)
    → length rows ≡ length ys
length-named_rows members rows f ys named = sym (length-map rows (map (slice_get members))) ∙ ap length named ∙ length-map (map f ys) (map Some)
    ∙ length-map ys f

-- ---- as rows and members come to them
module _ {X : Type 0} where
  pub rows-grow : (xs rest : List X) (rows : List (List ℕ)) (lists : List (List X)) → NameRows xs rows lists → NameRows (xs ++ rest) rows lists
  rows-grow xs rest [] [] named = refl
  rows-grow xs rest [] (ys ∷ lists) named = cc
  rows-grow xs rest (ns ∷ rows) [] named = cc
  rows-grow xs rest (ns ∷ rows) (ys ∷ lists) named =
      let here : Name xs ns ys = cc in
      let later : NameRows xs rows lists = cc in
      let first = name-grows xs rest ns ys here in
      let others = rows-grow xs rest rows lists later in
      λ i. first i ∷ others i

  pub rows-more : (xs : List X) (rows : List (List ℕ)) (lists : List (List X)) (ns : List ℕ) (ys : List X) → NameRows xs rows lists → Name xs ns ys
      → NameRows xs (rows ++ ns ∷ []) (lists ++ ys ∷ [])
  rows-more xs rows lists ns ys named last =
      map-append (map (slice_get xs)) rows (ns ∷ []) ∙ (λ i. named i ++ last i ∷ []) ∙ sym (map-append (map Some) lists (ys ∷ []))

  name-below : (xs : List X) (ns : List ℕ) (ys : List X) → Name xs ns ys → All (λ n. n < length xs) ns
  name-below xs [] ys named = λ k d within. absurd (omega arith)
  name-below xs (n ∷ ns) [] named = cc
  name-below xs (n ∷ ns) (y ∷ ys) named =
      let here : StandsAt xs n y = cc in
      let later : Name xs ns ys = cc in
      All-cons (λ n. n < length xs) n ns (stands-below xs n y here) (name-below xs ns ys later)

  -- each number is a place
  pub rows-below : (xs : List X) (rows : List (List ℕ)) (lists : List (List X)) → NameRows xs rows lists → All (λ row. All (λ n. n < length xs) row) rows
  rows-below xs [] lists named = λ k d within. absurd (omega arith)
  rows-below xs (ns ∷ rows) [] named = cc
  rows-below xs (ns ∷ rows) (ys ∷ lists) named =
      let here : Name xs ns ys = cc in
      let later : NameRows xs rows lists = cc in
      All-cons (λ row. All (λ n. n < length xs) row) ns rows (name-below xs ns ys here) (rows-below xs rows lists later)

  -- what is made of the first k members, and of the next
  pub first-more : {Y : Type 0} (f : X → Y) (xs rest ys : List X) (k : ℕ) (x : X) → StandsAt xs k x → ys ≡ xs ++ rest
      → map f (take (k + 1) ys) ≡ map f (take k xs) ++ f x ∷ []
  first-more f xs rest ys k x here grown =
      let below : k < length xs = stands-below xs k x here in
      let within : k + 1 ≤ length xs = omega arith in
      ap (λ l. map f (take (k + 1) l)) grown ∙ ap (map f) (take-append-le (k + 1) xs rest within) ∙ map_more f xs k x below
      ∙ ap (λ y. map f (take k xs) ++ f y ∷ []) (get_or_from_slice_get xs k x x here)
