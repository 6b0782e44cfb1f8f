-- What the rows of an explored arena name: observations, subsets and swaps by place.
use Rattle.std.proofs.Common.{ℕ, ◌+◌, ◌-◌, ◌*◌, ◌^◌, ◌%◌, ◌<◌, ◌≤◌, ◌≡◌, ◌≢◌, List, [], ◌∷◌, length, get_or, map, take, refl, sym, ap, ◌∙◌, subst, arith, not, eqb, Some}
use Rattle.std.proofs.Math.Nat.{pow-le-pow_right}
use Rattle.std.proofs.Math.Nat.{one-le-pow}
use Rattle.std.proofs.lemmas.List.{length-map}
use Rattle.std.specs.Prelude.{sum_by}
use Rattle.std.specs.List.{filter}
use Rattle.std.proofs.lemmas.List.Concat.{length-flat_map}
use Rattle.std.specs.Option.{option_map_or}
use Rattle.std.proofs.lemmas.Option.{get_or_from_slice_get, slice_get-get_or}
use Rattle.spectro_spec.specs.System.{Label, System, post}
use Rattle.spectro_spec.specs.LabelOrder.{labels_from}
use Rattle.spectro_spec.specs.Weighing.{Weighing, weight_of}
use Rattle.spectro_game.specs.Pairs.{Pair, followers, observed, observed_under, subsets}
use Rattle.spectro_game.specs.Reached.{StandsAt}
use Rattle.spectro_theory.proofs.Places.{stands-below, stands-map, stands-one, stands-some}
use Rattle.spectro_theory.proofs.FollowerPlaces.{length-subsets, stands-observed, stands-subset, stands-swap, swap-at}
use Rattle.spectro_lts.specs.Labels.{labels_of}
use Rattle.spectro_rows.specs.Rows.{row_at}
use Rattle.spectro_pairs.specs.Explored.{Explored, IsExploredFrom, observed_labels}
use Rattle.spectro_pairs.specs.Growth.{Name}
use Rattle.spectro_pairs.specs.Interned.{IsPairAt}
use Rattle.spectro_pairs.specs.Arenas.{set_at, IsObservation, IsSubset, IsSwap}
use Rattle.spectro_pairs.proofs.NamedRows.{length-named, named-place, named-at}

-- each observed pair has its label
length-observed : (system : System) (x : Pair) → length (observed_labels system x) ≡ length (observed system x)
unfolding observed_labels
length-observed system x =
    let told = λ (label : Label). map {A = ℕ} {B = Label} (λ t. label) (post system (x.state ∷ []) label) in
    let same = λ (label : Label). length-map (post system (x.state ∷ []) label) (λ t. label)
    ∙ sym (length-map {B = Pair} (post system (x.state ∷ []) label) (λ t. record { state = t; set = post system x.set label })) in
    let labels = labels_from system.steps x.state in
    length-flat_map told labels ∙ (λ i. sum_by (λ label. same label i) labels) ∙ sym (length-flat_map (observed_under system x) labels)

-- the observation of pair k at place i, where the row has the followers of the pair and labels the labels of its observations
pub record IsObservedAt (system : System) (weighing : Weighing) (explored : Explored) (k : ℕ) (row labels : List ℕ) (i : ℕ) : Type 0 where
  pub from : Pair
  pub here : StandsAt explored.pairs k from
  pub to : Pair
  pub within : i < length row
  pub there : StandsAt explored.pairs (get_or row i 0) to
  pub follows : StandsAt (observed system from) i to
  pub label : Label
  pub labelled : StandsAt (observed_labels system from) i label
  pub numbered : StandsAt (labels_of system.steps) (get_or labels i 0) label
  pub weighed : StandsAt explored.weights (get_or labels i 0) (weight_of weighing label)

pub is_observation : (system : System) (weighing : Weighing) (explored : Explored) (k : ℕ) (row labels : List ℕ) (i weight : ℕ)
    → IsObservedAt system weighing explored k row labels i
    → weight ≡ get_or explored.weights (get_or labels i 0) weight → IsObservation system weighing explored.pairs k i (get_or labels i 0) (get_or row i 0) weight
is_observation system weighing explored k row labels i weight found is = record {
  from = found.from;
  to = found.to;
  label = found.label;
  here = found.here;
  there = found.there;
  follows = found.follows;
  labelled = found.labelled;
  numbered = found.numbered;
  weighed = is ∙ get_or_from_slice_get explored.weights (get_or labels i 0) (weight_of weighing found.label) weight found.weighed;
}

-- ---- the rows of one pair
module _ (system : System) (weighing : Weighing) (starts : List (ℕ × ℕ)) (explored : Explored) (source : IsExploredFrom system weighing starts explored)
    (k : ℕ) (x : Pair) (here : StandsAt explored.pairs k x) where
  pub follower-row : (row : List ℕ) → StandsAt explored.followers k row → Name explored.pairs row (followers system x)
  follower-row row at = named-at explored.pairs explored.followers (followers system) explored.pairs k row x source.followers at here

  label-row : (row : List ℕ) → StandsAt explored.labels k row → Name (labels_of system.steps) row (observed_labels system x)
  label-row row at = named-at (labels_of system.steps) explored.labels (observed_labels system) explored.pairs k row x source.labels at here

  pub label-count : (row : List ℕ) → StandsAt explored.labels k row → length row ≡ length (observed system x)
  label-count row at = length-named (labels_of system.steps) row (observed_labels system x) (label-row row at) ∙ length-observed system x

  -- a follower by its place
  follower-at : (row : List ℕ) → StandsAt explored.followers k row → (i : ℕ) (y : Pair) → StandsAt (followers system x) i y
      → (i < length row) × StandsAt explored.pairs (get_or row i 0) y
  follower-at row at i y follows =
      let named = follower-row row at in
      let within : i < length (followers system x) = stands-below (followers system x) i y follows in
      (omega (arith, length-named explored.pairs row (followers system x) named), named-place explored.pairs row (followers system x) i y named follows)

  pub observed-at : (row labels : List ℕ) → StandsAt explored.followers k row → StandsAt explored.labels k labels → (i : ℕ)
      → i < length (row_at explored.labels k)
      → IsObservedAt system weighing explored k row labels i
  observed-at row labels at numbered i below =
      let count = ap length (get_or_from_slice_get explored.labels k labels [] numbered) ∙ label-count labels numbered in
      let to = stands-some (observed system x) i (omega (arith, count)) in
      let label = stands-some (observed_labels system x) i (omega (arith, count, length-observed system x)) in
      let found = follower-at row at i to.0 (stands-observed system x i to.0 to.1) in
      let label_no = named-place (labels_of system.steps) labels (observed_labels system x) i label.0 (label-row labels numbered) label.1 in
      record {
        from = x;
        here = here;
        to = to.0;
        within = found.0;
        there = found.1;
        follows = to.1;
        label = label.0;
        labelled = label.1;
        numbered = label_no;
        weighed =
            subst (λ l. StandsAt l (get_or labels i 0) (weight_of weighing label.0)) (sym source.weights)
            (stands-map (weight_of weighing) (labels_of system.steps) (get_or labels i 0) label.0 label_no);
      }

  pub set-is : set_at explored.pairs k ≡ x.set
  set-is = ap (λ o. option_map_or (λ (y : Pair). y.set) o []) here

  pub subset-at : (row : List ℕ) → StandsAt explored.followers k row → (mask place : ℕ) → 1 ≤ mask → mask < 2 ^ length (set_at explored.pairs k)
      → place ≡ length (observed system x) + (mask - 1)
      → (place < length row) × IsSubset explored.pairs k mask (get_or row place 0)
  subset-at row at mask place some below is =
      let within : mask < 2 ^ length x.set = subst (λ s. mask < 2 ^ length s) set-is below in
      let to = stands-some (subsets x) (mask - 1) (omega (arith, length-subsets x)) in
      let found = follower-at row at place to.0 (subst (λ n. StandsAt (followers system x) n to.0) (sym is) (stands-subset system x (mask - 1) to.0 to.1)) in
      (found.0, record { from = x; to = to.0; here = here; there = found.1; follows = to.1 })

  swapped-at : (row : List ℕ) → StandsAt explored.followers k row → (i q place : ℕ) → StandsAt x.set i q → q ≢ x.state
      → place ≡ length (observed system x) + (2 ^ length x.set - 1 + length (filter (λ p. not (eqb p x.state)) (take i x.set)))
      → (place < length row) × IsSwap explored.pairs k i (Some (get_or row place 0))
  swapped-at row at i q place member differ is =
      let found = follower-at row at place (record { state = q; set = x.state ∷ [] })
      (subst (λ n. StandsAt (followers system x) n (record { state = q; set = x.state ∷ [] })) (sym is)
      (stands-swap system x _ _ (swap-at x i q member differ))) in
      (found.0, record { from = x; q = q; here = here; member = member; own = λ e. absurd (differ e); other = λ ne. (get_or row place 0, refl, found.1) })

  -- the swap where the state, the set and the number of observations go by other names
  pub swap-found : (row : List ℕ) → StandsAt explored.followers k row → (i place count state others : ℕ) (set : List ℕ) → x.state ≡ state → x.set ≡ set
      → i < length set → get_or set i 0 ≢ state
      → length set ≤ 19 → count ≡ length (observed system x) → others ≡ length (filter (λ p. not (eqb p state)) (take i set))
      → place ≡ count + (1 * 2 ^ length set) % 18446744073709551616 - 1 + others → (place < length row) × IsSwap explored.pairs k i (Some (get_or row place 0))
  swap-found row at i place count state others set same_state same_set below differ few counted others_are is =
      let power : 2 ^ length set ≤ 2 ^ 19 = pow-le-pow_right {n = 2} (omega arith) few in
      let some : 1 ≤ 2 ^ length set = one-le-pow (length set) 2 (omega arith) in
      let numeral : 2 ^ 19 ≡ 524288 = refl in
      let whole : (1 * 2 ^ length set) % 18446744073709551616 ≡ 2 ^ length set = omega arith in
      let power_is : 2 ^ length x.set ≡ 2 ^ length set = ap (λ s. 2 ^ length s) same_set in
      let filtered : length (filter (λ p. not (eqb p x.state)) (take i x.set)) ≡ length (filter (λ p. not (eqb p state)) (take i set)) =
      ap (λ s. length (filter (λ p. not (eqb p s)) (take i x.set))) same_state ∙ ap (λ s. length (filter (λ p. not (eqb p state)) (take i s))) same_set in
      swapped-at row at i (get_or x.set i 0) place (slice_get-get_or x.set i 0 (omega (arith, ap length same_set)))
      (λ e. differ (ap (λ s. get_or s i 0) (sym same_set) ∙ e ∙ same_state))
      (let total : place ≡ length (observed system x) +
      (2 ^ length x.set - 1 + length (filter (λ p. not (eqb p x.state)) (take i x.set))) = omega arith in total)

-- the same from what is known of the pair of the number
pub swap-from : (system : System) (weighing : Weighing) (starts : List (ℕ × ℕ)) (explored : Explored) (k i : ℕ) (row : List ℕ) (count state others : ℕ)
    (set : List ℕ)
    → IsExploredFrom system weighing starts explored → StandsAt explored.followers k row
    → IsPairAt explored.pairs k (λ x. count ≡ length (observed system x)) → IsPairAt explored.pairs k (λ x. x.state ≡ state)
    → IsPairAt explored.pairs k (λ x. x.set ≡ set)
    → i < length (set_at explored.pairs k) → get_or set i 0 ≢ state → length set ≤ 19 → others ≡ length (filter (λ p. not (eqb p state)) (take i set))
    → (count + (1 * 2 ^ length set) % 18446744073709551616 - 1 + others < length row)
    × IsSwap explored.pairs k i (Some (get_or row (count + (1 * 2 ^ length set) % 18446744073709551616 - 1 + others) 0))
swap-from system weighing starts explored k i row count state others set source at (x, here, counted) (y, there, state_is)
    (z, also, set_is) below differ few others_are =
    let same_state : x.state ≡ state = ap (λ (p : Pair). p.state) (stands-one explored.pairs k x y here there) ∙ state_is in
    let same_set : x.set ≡ set = ap (λ (p : Pair). p.set) (stands-one explored.pairs k x z here also) ∙ set_is in
    swap-found system weighing starts explored source k x here row at i
    (count + (1 * 2 ^ length set) % 18446744073709551616 - 1 + others) count state others set same_state same_set
    (omega (arith, below, ap length (set-is system weighing starts explored source k x here), ap length same_set)) differ few counted others_are refl
