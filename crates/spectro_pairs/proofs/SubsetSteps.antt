-- The loops over the subsets of a set, mask by mask.
use Rattle.std.proofs.Common.{ℕ, ◌+◌, ◌-◌, ◌*◌, ◌^◌, ◌%◌, ◌<◌, ◌≤◌, ◌≡◌, ◌⊎◌, List, [], ◌∷◌, ◌++◌, zero, suc, length, length-append, append_assoc, map, drop, get_or, refl, sym, ap, ◌∙◌, subst, arith, lit<, inl, inr, Vec}
use Rattle.std.proofs.Math.Nat.{one-le-pow, pow-le-pow_right}
use Rattle.spectro_game.specs.Divisions.{Division, divisions}
use Rattle.std.proofs.Math.ListN.{get_or-append}
use Rattle.std.proofs.lemmas.Bool.{cases_lt}
use Rattle.std.proofs.lemmas.Option.{get_or_from_slice_get}
use Rattle.std.specs.declared.alloc.Global.{Global}
use Rattle.spectro_game.specs.Pairs.{Pair, subsets}
use Rattle.spectro_game.specs.Reached.{StandsAt}
use Rattle.spectro_theory.specs.Reaching.{is_same_pair, with_all}
use Rattle.spectro_theory.proofs.Places.{stands-last, stands-one}
use Rattle.spectro_theory.proofs.PutLast.{stands-with_all}
use Rattle.spectro_theory.proofs.Reaching.{same_pair-equal, same_pair-itself}
use Rattle.spectro_pairs.specs.Lattices.{AreLattices, HasPlace, IsEntry, IsFilled, IsNewPlace, IsPlaced, numbers_to, submask}
use Rattle.spectro_rows.specs.Rows.{RowList}
use Rattle.spectro_pairs.specs.declared.lattices.Lattices.{Lattices}
use Rattle.spectro_pairs.specs.declared.lattices.Place.{Place}
use Rattle.spectro_theory.proofs.Masks.{division_at, divisions-place}
use Rattle.spectro_pairs.specs.declared.error.ExploreError.{ExploreError}
use Rattle.spectro_pairs.specs.declared.exploration.Exploration.{Exploration}
use Rattle.spectro_pairs.specs.Growth.{HasReached, IsPastWith, pair_of}
use Rattle.spectro_pairs.specs.Subsets.{subset_at}
use Rattle.spectro_pairs.proofs.Growths.{has-known, has-next, has-none, opened, opened-none, past-whole}
use Rattle.spectro_pairs.proofs.Submasks.{submask-some, submask-within, subset_at-division, subset_at-submask}
use Rattle.spectro_pairs.proofs.Turns.{subsets_to, subsets-all, subsets-more, subsets-whole}

-- the masks end before the power as the code computes it
pub mask-below : (mask : ℕ) (set : List ℕ) → length set ≤ 19 → mask < (1 * 2 ^ length set) % 4294967296 → mask < 2 ^ length set
mask-below mask set few below =
    let power : 2 ^ length set ≤ 2 ^ 19 = pow-le-pow_right (lit< tt) few in
    omega (arith, power)

-- one subset more
pub reached-subset : (a b d : Exploration) (state : ℕ) (set : List ℕ) (mask : ℕ) → 1 ≤ mask → mask < 2 ^ length set
    → HasReached a b (subsets_to state set mask) [] → HasReached b d (pair_of state (subset_at set mask) ∷ []) []
    → HasReached a d (subsets_to state set (mask + 1)) []
reached-subset a b d state set mask some below done now =
    let last = subst (λ s. HasReached b d (pair_of state s ∷ []) []) (subset_at-division set mask below) now in
    has-next a b d (subsets_to state set mask) (pair_of state (division_at mask set).left ∷ []) (subsets_to state set (mask + 1)) [] [] [] done last
    (subsets-more state set mask (division_at mask set) some (divisions-place set mask below)) refl

-- what is past the limit with it is so with all
pub past-subsets : (e : ExploreError) (a b : Exploration) (state : ℕ) (set : List ℕ) (mask : ℕ) → 1 ≤ mask → mask < 2 ^ length set
    → HasReached a b (subsets_to state set mask) [] → IsPastWith e b (pair_of state (subset_at set mask) ∷ []) → IsPastWith e a (subsets (pair_of state set))
past-subsets e a b state set mask some below done past =
    let last = subst (λ s. IsPastWith e b (pair_of state s ∷ [])) (subset_at-division set mask below) past in
    past-whole e a b (subsets_to state set mask) (pair_of state (division_at mask set).left ∷ [])
    (map (λ (d : Division). pair_of state d.left) (drop (mask - 1 + 1) (drop 1 (divisions set)))) (subsets (pair_of state set)) done.limit done.pairs last
    (subsets-whole state set mask (division_at mask set) some (divisions-place set mask below))

-- ---- tables
pub filled-none : (pairs : List Pair) (table : List ℕ) (state : ℕ) (set : List ℕ) → length table ≡ 1 → IsFilled pairs table state set 1
filled-none pairs table state set count = record { count = count; numbers = λ i some below. absurd (omega arith) }

pub filled-more : (old new : List Pair) (table more : List ℕ) (state : ℕ) (set : List ℕ) (mask k : ℕ) → IsFilled old table state set mask
    → new ≡ with_all is_same_pair old (pair_of state (subset_at set mask) ∷ []) → StandsAt new k (pair_of state (subset_at set mask))
    → more ≡ table ++ k ∷ [] → IsFilled new more state set (mask + 1)
filled-more old new table more state set mask k filled grown here pushed = record {
  count = omega (arith, filled.count, ap length pushed, length-append table (k ∷ []));
  numbers = λ i some below. elim (cases_lt i mask) [
    | inl before ↦
        let read : get_or more i 0 ≡ get_or table i 0 = ap (λ l. get_or l i 0) pushed ∙ get_or-append table (k ∷ []) 0 i (omega (arith, filled.count)) in
        subst (λ n. StandsAt new n (pair_of state (subset_at set i))) (sym read)
        (subst (λ l. StandsAt l (get_or table i 0) (pair_of state (subset_at set i))) (sym grown)
        (stands-with_all is_same_pair same_pair-equal same_pair-itself (pair_of state (subset_at set mask) ∷ []) old (get_or table i 0) _
        (filled.numbers i some before)))
    | inr past ↦
        let last : i ≡ mask = omega arith in
        let place : StandsAt (table ++ k ∷ []) (length table) k = stands-last table k [] in
        let read : get_or more i 0 ≡ k = ap (λ l. get_or l i 0) pushed ∙ ap (λ n. get_or (table ++ k ∷ []) n 0) (last ∙ sym filled.count)
        ∙ get_or_from_slice_get (table ++ k ∷ []) (length table) k 0 place in
        subst (λ n. StandsAt new n (pair_of state (subset_at set i))) (sym read)
        (subst (λ n. StandsAt new k (pair_of state (subset_at set n))) (sym last) here)
  ];
}

-- the pairs of a whole table are placed in it
pub placed-new : (pairs : List Pair) (lattices : Lattices) (table : Vec ℕ Global) (state : ℕ) (set : List ℕ) (k : ℕ) (place : Place) → length set ≤ 19
    → IsFilled pairs table.items state set (2 ^ length set) → IsNewPlace lattices table k place → IsPlaced pairs lattices.tables.items k place
placed-new pairs lattices table state set k place few filled new =
    let power : 2 ^ length set ≤ 2 ^ 19 = pow-le-pow_right (lit< tt) few in
    let numeral : 2 ^ 19 ≡ 524288 = refl in
    let within : place.mask < 2 ^ length set = omega (arith, new.at_mask.within, filled.count) in
    record {
      x = pair_of state (subset_at set place.mask);
      here = subst (λ n. StandsAt pairs n (pair_of state (subset_at set place.mask))) new.at_mask.number
          (filled.numbers place.mask new.at_mask.some within);
      table = table;
      kept = new.kept;
      small = omega (arith, within, power, numeral);
      entries = λ i some below.
          let sub = submask place.mask i in
          let above : 1 ≤ submask place.mask i = submask-some set place.mask i few within some below in
          let under : submask place.mask i < 2 ^ length set = omega (arith, within, submask-within place.mask i) in
          record {
            within = omega (arith, under, filled.count);
            there = subst (λ s. StandsAt pairs (get_or table.items (submask place.mask i) 0) (pair_of state s))
                (subset_at-submask set place.mask i few within below) (filled.numbers (submask place.mask i) above under);
          };
    }

-- ---- what is read from a table
-- the entries of the pair of the number
pub entry-of : (pairs : List Pair) (tables : List (Vec ℕ Global)) (k : ℕ) (place : Place) (x : Pair) (placed : IsPlaced pairs tables k place)
    → StandsAt pairs k x → (i : ℕ) → 1 ≤ i → i < 2 ^ length x.set → IsEntry pairs placed.table.items (submask place.mask i) x i
entry-of pairs tables k place x placed here =
    subst (λ (y : Pair). (i : ℕ) → 1 ≤ i → i < 2 ^ length y.set → IsEntry pairs placed.table.items (submask place.mask i) y i)
    (stands-one pairs k placed.x x placed.here here) placed.entries

-- the first n subsets are reached where they stand
kept-first : (a : Exploration) (state : ℕ) (set : List ℕ) (table : List ℕ) (mask : ℕ)
    → ((i : ℕ) → 1 ≤ i → i < 2 ^ length set → IsEntry a.pairs.pairs table (submask mask i) (pair_of state set) i)
    → (n : ℕ) → n < 2 ^ length set
    → HasReached a (record a { followers = opened a.followers (numbers_to table mask n) }) (subsets_to state set (n + 1)) []
unfolding numbers_to
kept-first a state set table mask entries zero below =
    subst (λ (rows : RowList ℕ). HasReached a (record a { followers = rows }) [] []) (opened-none a.followers) (has-none a)
kept-first a state set table mask entries (suc n) below =
    let b = record a { followers = opened a.followers (numbers_to table mask n) } in
    let more : suc n ≡ n + 1 = omega arith in
    let entry = entries (suc n) (omega arith) below in
    let k = get_or table (submask mask (suc n)) 0 in
    let part = pair_of state (subset_at set (suc n)) in
    let pushed : opened a.followers (numbers_to table mask n ++ k ∷ []) ≡ opened (opened a.followers (numbers_to table mask n)) (k ∷ []) =
    ap (λ l. record a.followers { last = l }) (sym (append_assoc a.followers.last (numbers_to table mask n) (k ∷ []))) in
    let done = subst (λ m. HasReached a b (subsets_to state set m) []) (sym more) (kept-first a state set table mask entries n (omega arith)) in
    reached-subset a b (record a { followers = opened a.followers (numbers_to table mask n ++ k ∷ []) }) state set (suc n) (omega arith) below done
    (has-known b (opened a.followers (numbers_to table mask n ++ k ∷ [])) k part entry.there pushed)

-- so all of them are
pub kept-subsets : (a : Exploration) (state : ℕ) (set : List ℕ) (table : List ℕ) (mask : ℕ) (followers : RowList ℕ)
    → ((i : ℕ) → 1 ≤ i → i < 2 ^ length set → IsEntry a.pairs.pairs table (submask mask i) (pair_of state set) i)
    → followers ≡ opened a.followers (numbers_to table mask (2 ^ length set - 1))
    → HasReached a (record a { followers = followers }) (subsets (pair_of state set)) []
kept-subsets a state set table mask followers entries pushed =
    let some : 1 ≤ 2 ^ length set = one-le-pow (length set) 2 (omega arith) in
    subst (λ (rows : RowList ℕ). HasReached a (record a { followers = rows }) (subsets (pair_of state set)) []) (sym pushed)
    (subst (λ l. HasReached a (record a { followers = opened a.followers (numbers_to table mask (2 ^ length set - 1)) }) l [])
    (subsets-all state set (2 ^ length set - 1 + 1) (omega arith))
    (kept-first a state set table mask entries (2 ^ length set - 1) (omega arith)))

-- a table more is kept
pub kept-more : (pairs : List Pair) (old new : Lattices) (table : Vec ℕ Global) (state : ℕ) (set : List ℕ) → length set ≤ 19
    → IsFilled pairs table.items state set (2 ^ length set)
    → ((k : ℕ) (place : Place) → HasPlace new k place → HasPlace old k place ⊎ IsNewPlace new table k place)
    → ((n : ℕ) (other : Vec ℕ Global) → StandsAt old.tables.items n other → StandsAt new.tables.items n other) → AreLattices pairs old → AreLattices pairs new
kept-more pairs old new table state set few filled places tables kept k place has = elim (places k place has) [
  | inl before ↦
      let is = kept k place before in
      record { x = is.x; here = is.here; table = is.table; kept = tables place.table is.table is.kept; small = is.small; entries = is.entries }
  | inr after ↦ placed-new pairs new table state set k place few filled after
]
