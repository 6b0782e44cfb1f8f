-- Pairs that are kept as keys: a state and the number of a set.
use Rattle.std.proofs.Common.{ℕ, ◌+◌, ◌<◌, ◌≡◌, List, [], ◌∷◌, ◌++◌, length, slice_get, slice_index_or, get_or, position, Some, None, refl, sym, ap, ◌∙◌, subst, arith, Bool, true, false, cond, not, ◌||◌, ◌&&◌, nat_eq, nat_lt, All}
use Rattle.std.specs.List.{list_any, position_or_len}
use Rattle.std.specs.Str.{bytes_eq}
use Rattle.std.proofs.lemmas.List.{length-map}
use Rattle.std.proofs.lemmas.List.Elements.{All-head, All-tail}
use Rattle.std.proofs.lemmas.List.Quantifiers.{position-Some}
use Rattle.std.proofs.lemmas.Option.{slice_get-get_or, get_or_from_slice_get}
use Rattle.std.proofs.lemmas.Bool.{eqb-true, eqb-false, eq-eqb, and_parts, and_from, le-ltb, true≢false}
use Rattle.std.proofs.Math.ListN.{get_or-append}
use Rattle.spectro_game.specs.Pairs.{Pair}
use Rattle.spectro_game.specs.Reached.{StandsAt}
use Rattle.spectro_theory.specs.Reaching.{StandOnce, with_last, is_same_pair}
use Rattle.spectro_theory.proofs.Places.{holds-at, stands-below, stands-map, stands-one, stands-some}
use Rattle.spectro_theory.proofs.PutLast.{stands-any, with_last-cases}
use Rattle.spectro_theory.proofs.Reaching.{same_pair-itself}
use Rattle.spectro_pairs.specs.declared.pairs.Key.{Key}
use Rattle.spectro_pairs.specs.Explored.{IsPairWithin, IsSetWithin}
use Rattle.spectro_pairs.specs.Growth.{pair_of}
use Rattle.spectro_pairs.specs.Interned.{IsPairAt, pair_at, pairs_of}
use Rattle.spectro_pairs.proofs.Sets.{set-equal, set-itself}

-- whether the keys have the same state and the same number
abbrev pub is_same_key : Key → Key → Bool
is_same_key x y = nat_eq x.state y.state && nat_eq x.set y.set

pub same_key-equal : (x y : Key) → is_same_key x y ≡ true → x ≡ y
same_key-equal x y same =
    let parts = and_parts (nat_eq x.state y.state) (nat_eq x.set y.set) same in
    let state : x.state ≡ y.state = eqb-true x.state y.state parts.0 in
    let set : x.set ≡ y.set = eqb-true x.set y.set parts.1 in
    λ i. record { state = state i; set = set i }

pub same_key-itself : (x : Key) → is_same_key x x ≡ true
same_key-itself x = and_from (nat_eq x.state x.state) (nat_eq x.set x.set) (eq-eqb x.state x.state refl) (eq-eqb x.set x.set refl)

-- where the search of a key finds one, it stands there
pub found-key : (key : Key) (keys : List Key) (k : ℕ) → position (is_same_key key) keys ≡ Some k → StandsAt keys k key
found-key key keys k found =
    let at = position-Some (is_same_key key) keys k key found in
    let e : key ≡ get_or keys k key = same_key-equal key (get_or keys k key) at.1 in
    subst (λ x. slice_get keys k ≡ Some x) (sym e) (slice_get-get_or keys k key at.0)

-- each key has a number below n
abbrev pub AreNumbered : ℕ → List Key → Type 0
AreNumbered n keys = All (λ (key : Key). key.set < n) keys

-- ---- a pair by its number
pub length-pairs_of : (lists : List (List ℕ)) (keys : List Key) → length (pairs_of lists keys) ≡ length keys
unfolding pairs_of
length-pairs_of lists keys = length-map keys (λ (key : Key). pair_at lists key.state key.set)

pub stands-pairs : (lists : List (List ℕ)) (keys : List Key) (k : ℕ) (key : Key) → StandsAt keys k key
    → StandsAt (pairs_of lists keys) k (pair_at lists key.state key.set)
unfolding pairs_of
stands-pairs lists keys k key here = stands-map (λ (key : Key). pair_at lists key.state key.set) keys k key here

-- a state and a set that stand at one number
pub pair-here : (pairs : List Pair) (k state : ℕ) (set : List ℕ) → IsPairAt pairs k (λ x. x.state ≡ state) → IsPairAt pairs k (λ x. x.set ≡ set)
    → StandsAt pairs k (pair_of state set)
pair-here pairs k state set (x, here, same_state) (y, also, same_set) =
    let e : y ≡ x = stands-one pairs k y x also here in
    subst (StandsAt pairs k) (λ i. record { state = same_state i; set = (sym (ap (λ (z : Pair). z.set) e) ∙ same_set) i }) here

-- they are within what all pairs are within
pub state-within : (states : ℕ) (pairs : List Pair) (k state : ℕ) → All (IsPairWithin states) pairs → IsPairAt pairs k (λ x. x.state ≡ state) → state < states
state-within states pairs k state all (x, here, same) = subst (λ q. q < states) same (holds-at (IsPairWithin states) pairs k x all here).state

pub set-within : (states : ℕ) (pairs : List Pair) (k : ℕ) (set : List ℕ) → All (IsPairWithin states) pairs → IsPairAt pairs k (λ x. x.set ≡ set)
    → IsSetWithin states set
set-within states pairs k set all (x, here, same) = subst (IsSetWithin states) same (holds-at (IsPairWithin states) pairs k x all here).set

-- ---- the sets of the numbers
pub pair_at-set : (lists : List (List ℕ)) (state n : ℕ) (set : List ℕ) → StandsAt lists n set → pair_at lists state n ≡ record { state = state; set = set }
unfolding pair_at
pair_at-set lists state n set here = let e : slice_index_or lists n [] ≡ set = get_or_from_slice_get lists n set [] here in λ i. record
    { state = state; set = e i }

-- a number names the same set where there are more
pair_at-append : (lists more : List (List ℕ)) (state n : ℕ) → n < length lists → pair_at (lists ++ more) state n ≡ pair_at lists state n
unfolding pair_at
pair_at-append lists more state n below = let e : slice_index_or
    (lists ++ more) n [] ≡ slice_index_or lists n [] = get_or-append lists more [] n below in λ i. record { state = state; set = e i }

pairs_of-append : (lists more : List (List ℕ)) (keys : List Key) → AreNumbered (length lists) keys → pairs_of (lists ++ more) keys ≡ pairs_of lists keys
unfolding pairs_of
pairs_of-append lists more [] numbered = refl
pairs_of-append lists more (key ∷ keys) numbered =
    let first = pair_at-append lists more key.state key.set (All-head (λ (key : Key). key.set < length lists) key keys numbered) in
    let rest = pairs_of-append lists more keys (All-tail (λ (key : Key). key.set < length lists) key keys numbered) in
    λ i. first i ∷ rest i

-- one set more leaves all pairs
pub pairs_of-with_last : (lists : List (List ℕ)) (set : List ℕ) (keys : List Key) → AreNumbered (length lists) keys
    → pairs_of (with_last bytes_eq lists set) keys ≡ pairs_of lists keys
pairs_of-with_last lists set keys numbered =
    with_last-cases bytes_eq set-equal set-itself (λ l. pairs_of l keys ≡ pairs_of lists keys) lists set (λ known. refl)
    (λ new. pairs_of-append lists (set ∷ []) keys numbered)

pairs_of-push : (lists : List (List ℕ)) (keys : List Key) (key : Key)
    → pairs_of lists (keys ++ key ∷ []) ≡ pairs_of lists keys ++ pair_at lists key.state key.set ∷ []
unfolding pairs_of
pairs_of-push lists [] key = refl
pairs_of-push lists (first ∷ keys) key = ap (λ pairs. pair_at lists first.state first.set ∷ pairs) (pairs_of-push lists keys key)

-- ---- keys and their pairs are found alike, where the sets differ
module _ (lists : List (List ℕ)) (once : StandOnce lists) where
  same-set : (n m : ℕ) → n < length lists → m < length lists → nat_eq n m ≡ bytes_eq (slice_index_or lists n []) (slice_index_or lists m [])
  same-set n m n-below m-below = go (nat_eq n m) (bytes_eq (slice_index_or lists n []) (slice_index_or lists m [])) refl refl
    where
      go : (a b : Bool) → nat_eq n m ≡ a → bytes_eq (slice_index_or lists n []) (slice_index_or lists m []) ≡ b → a ≡ b
      go true true e f = refl
      go false false e f = refl
      go true false e f =
          let number : n ≡ m = eqb-true n m e in
          let set : bytes_eq (slice_index_or lists n []) (slice_index_or lists m []) ≡ true =
          subst (λ k. bytes_eq (slice_index_or lists n []) (slice_index_or lists k []) ≡ true) number (set-itself (slice_index_or lists n [])) in
          sym set ∙ f
      go false true e f =
          let set : slice_index_or lists n [] ≡ slice_index_or lists m [] = set-equal (slice_index_or lists n []) (slice_index_or lists m []) f in
          let here : StandsAt lists n (slice_index_or lists m []) = subst (StandsAt lists n) set (slice_get-get_or lists n [] n-below) in
          absurd (eqb-false n m e (once n m (slice_index_or lists m []) here (slice_get-get_or lists m [] m-below)))

  same-pair : (x y : Key) → x.set < length lists → y.set < length lists
      → is_same_key x y ≡ is_same_pair (pair_at lists x.state x.set) (pair_at lists y.state y.set)
  unfolding is_same_pair pair_at
  same-pair x y x-below y-below = ap (λ b. nat_eq x.state y.state && b) (same-set x.set y.set x-below y-below)

  pub any-pairs : (key : Key) (keys : List Key) → key.set < length lists → AreNumbered (length lists) keys
      → list_any (is_same_key key) keys ≡ list_any (is_same_pair (pair_at lists key.state key.set)) (pairs_of lists keys)
  unfolding pairs_of
  any-pairs key [] below numbered = refl
  any-pairs key (first ∷ keys) below numbered =
      let test = same-pair key first below (All-head (λ (key : Key). key.set < length lists) first keys numbered) in
      let rest = any-pairs key keys below (All-tail (λ (key : Key). key.set < length lists) first keys numbered) in
      λ i. test i || rest i

  place-pairs : (key : Key) (keys : List Key) → key.set < length lists → AreNumbered (length lists) keys
      → position_or_len (is_same_key key) keys ≡ position_or_len (is_same_pair (pair_at lists key.state key.set)) (pairs_of lists keys)
  unfolding pairs_of
  place-pairs key [] below numbered = refl
  place-pairs key (first ∷ keys) below numbered =
      let test = same-pair key first below (All-head (λ (key : Key). key.set < length lists) first keys numbered) in
      let rest = place-pairs key keys below (All-tail (λ (key : Key). key.set < length lists) first keys numbered) in
      λ i. cond (not (test i)) (1 + rest i) 0

  position-pairs : (key : Key) (keys : List Key) → key.set < length lists → AreNumbered (length lists) keys
      → position (is_same_key key) keys ≡ position (is_same_pair (pair_at lists key.state key.set)) (pairs_of lists keys)
  position-pairs key keys below numbered =
      let place = place-pairs key keys below numbered in
      let len : length keys ≡ length (pairs_of lists keys) = sym (length-pairs_of lists keys) in
      λ i. cond (nat_lt (place i) (len i)) (Some (place i)) None

  -- the number of a pair is that of its key
  pub position-set : (key : Key) (set : List ℕ) (keys : List Key) → StandsAt lists key.set set → AreNumbered (length lists) keys
      → position (is_same_key key) keys ≡ position (is_same_pair (record { state = key.state; set = set })) (pairs_of lists keys)
  position-set key set keys here numbered =
      subst (λ x. position (is_same_key key) keys ≡ position (is_same_pair x) (pairs_of lists keys)) (pair_at-set lists key.state key.set set here)
      (position-pairs key keys (stands-below lists key.set set here) numbered)

  -- where the pair of a key stands, the key does
  pub key-here : (keys : List Key) (k : ℕ) (key : Key) → key.set < length lists → AreNumbered (length lists) keys
      → StandsAt (pairs_of lists keys) k (pair_at lists key.state key.set) → StandsAt keys k key
  key-here keys k key below numbered here =
      let at = stands-some keys k (omega (arith, stands-below (pairs_of lists keys) k (pair_at lists key.state key.set) here, length-pairs_of lists keys)) in
      let there = stands-pairs lists keys k at.0 at.1 in
      let same : pair_at lists key.state key.set ≡ pair_at lists at.0.state at.0.set = stands-one (pairs_of lists keys) k (pair_at lists key.state key.set)
      (pair_at lists at.0.state at.0.set) here there in
      let test : is_same_key key at.0 ≡ true =
      same-pair key at.0 below (holds-at (λ (key : Key). key.set < length lists) keys k at.0 numbered at.1)
      ∙ ap (is_same_pair (pair_at lists key.state key.set)) (sym same) ∙ same_pair-itself (pair_at lists key.state key.set) in
      subst (StandsAt keys k) (sym (same_key-equal key at.0 test)) at.1

  -- one key more adds its pair
  pub pairs_of-with_key : (keys : List Key) (key : Key) → key.set < length lists → AreNumbered (length lists) keys
      → pairs_of lists (with_last is_same_key keys key) ≡ with_last is_same_pair (pairs_of lists keys) (pair_at lists key.state key.set)
  unfolding with_last
  pairs_of-with_key keys key below numbered = go (list_any (is_same_key key) keys)
      (list_any (is_same_pair (pair_at lists key.state key.set)) (pairs_of lists keys)) (any-pairs key keys below numbered)
    where
      go : (a b : Bool) → a ≡ b
          → pairs_of lists (cond a keys (keys ++ key ∷ [])) ≡ cond b (pairs_of lists keys) (pairs_of lists keys ++ pair_at lists key.state key.set ∷ [])
      go true true e = refl
      go true false e = cc
      go false true e = cc
      go false false e = pairs_of-push lists keys key

-- a set that is not there is in no pair
module _ (lists : List (List ℕ)) (state : ℕ) (set : List ℕ) (none : list_any (bytes_eq set) lists ≡ false) where
  other-set : (n : ℕ) → n < length lists → bytes_eq set (slice_index_or lists n []) ≡ false
  other-set n below = go (bytes_eq set (slice_index_or lists n [])) refl
    where
      go : (b : Bool) → bytes_eq set (slice_index_or lists n []) ≡ b → b ≡ false
      go false e = refl
      go true e =
          let here : StandsAt lists n set = subst (StandsAt lists n) (sym (set-equal set (slice_index_or lists n []) e)) (slice_get-get_or lists n [] below) in
          absurd (true≢false (sym (stands-any bytes_eq set-equal set-itself set lists n here) ∙ none))

  place-no_set : (keys : List Key) → AreNumbered (length lists) keys
      → position_or_len (is_same_pair (record { state = state; set = set })) (pairs_of lists keys) ≡ length keys
  unfolding pairs_of is_same_pair pair_at
  place-no_set [] numbered = refl
  place-no_set (key ∷ keys) numbered =
      let other = other-set key.set (All-head (λ (key : Key). key.set < length lists) key keys numbered) in
      let rest = place-no_set keys (All-tail (λ (key : Key). key.set < length lists) key keys numbered) in
      let test : (nat_eq state key.state && bytes_eq set (slice_index_or lists key.set [])) ≡ false = ap (λ b. nat_eq state key.state && b) other
      ∙ and_false (nat_eq state key.state) in
      ap (λ b. cond (not b) (1 + position_or_len (is_same_pair (record { state = state; set = set })) (pairs_of lists keys)) 0) test ∙ omega (arith, rest)
    where
      and_false : (a : Bool) → (a && false) ≡ false
      and_false true = refl
      and_false false = refl

  pub position-no_set : (keys : List Key) → AreNumbered (length lists) keys
      → position (is_same_pair (record { state = state; set = set })) (pairs_of lists keys) ≡ None
  position-no_set keys numbered =
      let place : position_or_len (is_same_pair (record { state = state; set = set })) (pairs_of lists keys) ≡ length
      (pairs_of lists keys) = place-no_set keys numbered ∙ sym (length-pairs_of lists keys) in
      let past : nat_lt (position_or_len (is_same_pair (record { state = state; set = set })) (pairs_of lists keys))
      (length (pairs_of lists keys)) ≡ false = le-ltb (position_or_len (is_same_pair (record { state = state; set = set })) (pairs_of lists keys))
      (length (pairs_of lists keys)) (omega (arith, place)) in
      ap (λ b. cond b (Some (position_or_len (is_same_pair (record { state = state; set = set })) (pairs_of lists keys))) None) past
