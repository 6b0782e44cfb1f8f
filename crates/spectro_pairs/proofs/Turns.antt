-- What the loops over followers make turn by turn: observations label by label, subsets mask by mask, swaps member by member.
use Rattle.std.proofs.Common.{ℕ, zero, suc, ◌+◌, ◌-◌, ◌^◌, ◌<◌, ◌≤◌, ◌≡◌, ◌≢◌, ◌==◌, List, [], ◌∷◌, ◌++◌, map, take, drop, filter, length, get_or, length-drop, All, not, cond, refl, sym, ap, ◌∙◌, arith}
use Rattle.std.specs.List.{flat_map}
use Rattle.std.proofs.lemmas.Bool.{eq-eqb, ne_eqb}
use Rattle.std.proofs.lemmas.Grind.{flat_map-append}
use Rattle.std.proofs.lemmas.List.{append-nil, get_or-drop, map-append, map_more, take_more, take_all, take-append-drop}
use Rattle.std.proofs.lemmas.List.Elements.{filter-append}
use Rattle.std.proofs.lemmas.Option.{get_or_from_slice_get, slice_get-get_or}
use Rattle.spectro_spec.specs.System.{Label}
use Rattle.spectro_game.specs.Divisions.{Division, divisions}
use Rattle.spectro_game.specs.Pairs.{Pair, subsets, swaps}
use Rattle.spectro_game.specs.Reached.{StandsAt}
use Rattle.spectro_theory.proofs.Masks.{divisions-AreByMask}
use Rattle.spectro_theory.proofs.Places.{stands-below}
use Rattle.spectro_pairs.specs.Growth.{Name, pair_of}
use Rattle.spectro_pairs.proofs.NamedRows.{name-append}

-- ---- a list, where what is made of it is made of its parts in turn
module _ {X Y : Type 0} (made : List X → List Y) (parts : (xs ys : List X) → made (xs ++ ys) ≡ made xs ++ made ys) (xs : List X) (i : ℕ) where
  -- one member more
  pub made-more : (d : X) → i < length xs → made (take (i + 1) xs) ≡ made (take i xs) ++ made (get_or xs i d ∷ [])
  made-more d within = ap made (take_more xs i d within) ∙ parts (take i xs) (get_or xs i d ∷ [])

  -- those before, this one, and the rest
  pub made-whole : (d : X) → i < length xs → made xs ≡ (made (take i xs) ++ made (get_or xs i d ∷ [])) ++ made (drop (i + 1) xs)
  made-whole d within =
      ap made (sym (take-append-drop (i + 1) xs)) ∙ parts (take (i + 1) xs) (drop (i + 1) xs)
      ∙ ap (λ l. l ++ made (drop (i + 1) xs)) (made-more d within)

module _ {X Y : Type 0} (f : X → Y) (xs : List X) (i : ℕ) where
  pub map-whole : (d : X) → i < length xs → map f xs ≡ (map f (take i xs) ++ f (get_or xs i d) ∷ []) ++ map f (drop (i + 1) xs)
  map-whole d within = made-whole (map f) (map-append f) xs i d within

module _ {X Y : Type 0} (f : X → List Y) (xs : List X) (i : ℕ) where
  pub flat_map-more : (d : X) → i < length xs → flat_map f (take (i + 1) xs) ≡ flat_map f (take i xs) ++ f (get_or xs i d)
  flat_map-more d within = made-more (flat_map f) (flat_map-append f) xs i d within ∙ ap (λ l. flat_map f (take i xs) ++ l) (append-nil (f (get_or xs i d)))

  pub flat_map-whole : (d : X) → i < length xs → flat_map f xs ≡ (flat_map f (take i xs) ++ f (get_or xs i d)) ++ flat_map f (drop (i + 1) xs)
  flat_map-whole d within =
      made-whole (flat_map f) (flat_map-append f) xs i d within
      ∙ ap (λ l. (flat_map f (take i xs) ++ l) ++ flat_map f (drop (i + 1) xs)) (append-nil (f (get_or xs i d)))

-- ---- the labels of what is observed, told by their numbers
module _ (labels : List Label) where
  -- a label that is told once for each target
  name-same : (label_no : ℕ) (targets : List ℕ) → label_no < length labels
      → Name labels (map (λ t. label_no) targets) (map (λ t. get_or labels label_no []) targets)
  name-same label_no [] below = refl
  name-same label_no (t ∷ targets) below =
      let first = slice_get-get_or labels label_no [] below in
      let others = name-same label_no targets below in
      λ i. first i ∷ others i

  -- the labels of all observations
  pub name-observed : (targets : Label → List ℕ) (nos : List ℕ) → All (λ label_no. label_no < length labels) nos
      → Name labels (flat_map (λ label_no. map (λ t. label_no) (targets (get_or labels label_no []))) nos)
      (flat_map (λ label. map (λ t. label) (targets label)) (map (λ label_no. get_or labels label_no []) nos))
  name-observed targets [] below = refl
  name-observed targets (label_no ∷ nos) below =
      name-append labels (map (λ t. label_no) (targets (get_or labels label_no [])))
      (flat_map (λ label_no. map (λ t. label_no) (targets (get_or labels label_no []))) nos)
      (map (λ t. get_or labels label_no []) (targets (get_or labels label_no [])))
      (flat_map (λ label. map (λ t. label) (targets label)) (map (λ label_no. get_or labels label_no []) nos))
      (name-same label_no (targets (get_or labels label_no [])) (below zero zero (omega arith)))
      (name-observed targets nos (λ k d within. below (suc k) d (omega arith)))

-- ---- subsets
module _ (state : ℕ) (set : List ℕ) where
  -- the subsets of the masks from 1 up to this one
  abbrev pub subsets_to : ℕ → List Pair
  subsets_to mask = map (λ (d : Division). pair_of state d.left) (take (mask - 1) (drop 1 (divisions set)))

  at-mask : (mask : ℕ) (d : Division) → 1 ≤ mask → StandsAt (divisions set) mask d → get_or (drop 1 (divisions set)) (mask - 1) d ≡ d
  at-mask mask d some here =
      get_or-drop 1 (divisions set) (mask - 1) d ∙ ap (λ n. get_or (divisions set) n d) (let e : 1 + (mask - 1) ≡ mask = omega arith in e)
      ∙ get_or_from_slice_get (divisions set) mask d d here

  below-mask : (mask : ℕ) (d : Division) → 1 ≤ mask → StandsAt (divisions set) mask d → mask - 1 < length (drop 1 (divisions set))
  below-mask mask d some here = omega (arith, stands-below (divisions set) mask d here, length-drop 1 (divisions set))

  pub subsets-more : (mask : ℕ) (d : Division) → 1 ≤ mask → StandsAt (divisions set) mask d
      → subsets_to (mask + 1) ≡ subsets_to mask ++ pair_of state d.left ∷ []
  subsets-more mask d some here =
      ap (λ n. map (λ (d : Division). pair_of state d.left) (take n (drop 1 (divisions set)))) (let e : mask + 1 - 1 ≡ mask - 1 + 1 = omega arith in e)
      ∙ map_more (λ (d : Division). pair_of state d.left) (drop 1 (divisions set)) (mask - 1) d (below-mask mask d some here)
      ∙ ap (λ (e : Division). subsets_to mask ++ pair_of state e.left ∷ []) (at-mask mask d some here)

  pub subsets-whole : (mask : ℕ) (d : Division) → 1 ≤ mask → StandsAt (divisions set) mask d
      → subsets (pair_of state set) ≡ (subsets_to mask ++ pair_of state d.left ∷ []) ++ map (λ (d : Division). pair_of state d.left)
      (drop (mask - 1 + 1) (drop 1 (divisions set)))
  subsets-whole mask d some here =
      map-whole (λ (d : Division). pair_of state d.left) (drop 1 (divisions set)) (mask - 1) d (below-mask mask d some here)
      ∙ ap (λ (e : Division). (subsets_to mask ++ pair_of state e.left ∷ []) ++ map (λ (d : Division). pair_of state d.left)
      (drop (mask - 1 + 1) (drop 1 (divisions set))))
      (at-mask mask d some here)

  pub subsets-all : (mask : ℕ) → 2 ^ length set ≤ mask → subsets_to mask ≡ subsets (pair_of state set)
  subsets-all mask past =
      let count : length (divisions set) ≡ 2 ^ length set = (divisions-AreByMask set).count in
      ap (map (λ (d : Division). pair_of state d.left)) (take_all (mask - 1) (drop 1 (divisions set)) (omega (arith, count, length-drop 1 (divisions set))))

-- ---- swaps
module _ (state : ℕ) where
  -- the swaps with the members of a list
  abbrev pub swaps_with : List ℕ → List Pair
  swaps_with qs = swaps (pair_of state qs)

  pub swaps-append : (qs rest : List ℕ) → swaps_with (qs ++ rest) ≡ swaps_with qs ++ swaps_with rest
  swaps-append qs rest =
      ap (map (λ q. pair_of q (state ∷ []))) (filter-append (λ q. not (q == state)) qs rest)
      ∙ map-append (λ q. pair_of q (state ∷ [])) (filter (λ q. not (q == state)) qs) (filter (λ q. not (q == state)) rest)

  pub swaps-own : (q : ℕ) → q ≡ state → swaps_with (q ∷ []) ≡ []
  swaps-own q is = ap (λ b. map (λ q. pair_of q (state ∷ [])) (cond (not b) (q ∷ []) [])) (eq-eqb q state is)

  pub swaps-other : (q : ℕ) → q ≢ state → swaps_with (q ∷ []) ≡ pair_of q (state ∷ []) ∷ []
  swaps-other q apart = ap (λ b. map (λ q. pair_of q (state ∷ [])) (cond (not b) (q ∷ []) [])) (ne_eqb q state apart)
