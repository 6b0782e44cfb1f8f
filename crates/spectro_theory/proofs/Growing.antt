-- One follower more keeps what is reached up to its place.
-- A follower that is a member changes nothing. A new one goes last: it is found where it is added, since each earlier place has
-- members alone, and all old members were found before.
use Rattle.std.proofs.Common.{ℕ, suc, ◌<◌, ◌≤◌, ◌≡◌, ◌⊎◌, inl, inr, List, [], ◌∷◌, ◌++◌, length, refl, sym, ◌∙◌, subst, arith}
use Rattle.std.proofs.lemmas.Bool.{cases_lt}
use Rattle.spectro_game.specs.Reached.{StandsAt, StandsIn, IsFoundBefore, Follows, IsFoundAt}
use Rattle.spectro_theory.specs.Reaching.{StandOnce, AreReachedTo}
use Rattle.spectro_theory.proofs.Places.{stands-below, stands-cases, stands-last, stands-left, stands-old, stands-one}
use Rattle.spectro_theory.proofs.ReachedLists.{StandAlike, found-alike}

-- where the last is new, none stands twice
pub once-new : {X : Type 0} (xs : List X) (y : X) → StandOnce xs → (StandsIn xs y → ⊥) → StandOnce (xs ++ y ∷ [])
once-new {X} xs y once new i j z one other = go (stands-cases xs y i z one) (stands-cases xs y j z other)
  where
    go : StandsAt xs i z ⊎ ((i ≡ length xs) × (y ≡ z)) → StandsAt xs j z ⊎ ((j ≡ length xs) × (y ≡ z)) → i ≡ j
    go (inl a) (inl b) = once i j z a b
    go (inl a) (inr b) = absurd (new (subst (StandsIn xs) (sym b.1) (i, a)))
    go (inr a) (inl b) = absurd (new (subst (StandsIn xs) (sym a.1) (j, b)))
    go (inr a) (inr b) = a.0 ∙ sym b.0

module _ {X : Type 0} (follow : X → List X) where
  -- there is one place where something is found
  found-one : (xs : List X) (y : X) (i s h t : ℕ) → IsFoundAt follow xs i s y → IsFoundAt follow xs h t y → (i ≡ h) × (s ≡ t)
  found-one xs y i s h t one other = (same, ranks)
    where
      same : i ≡ h
      same = elim (cases_lt i h) [
        | inl l ↦ absurd (other.finder i s l one.follows)
        | inr l ↦ elim (cases_lt h i) [ inl m ↦ absurd (one.finder h t m other.follows) | inr m ↦ omega arith ]
      ]

      at : (k : ℕ) → k ≡ h → Follows follow xs k s y → Follows follow xs h s y
      at k e f = subst (λ j. Follows follow xs j s y) e f

      back : (k : ℕ) → k ≡ i → Follows follow xs k t y → Follows follow xs i t y
      back k e f = subst (λ j. Follows follow xs j t y) e f

      ranks : s ≡ t
      ranks = elim (cases_lt s t) [
        | inl l ↦ absurd (other.rank s l (at i same one.follows))
        | inr l ↦ elim (cases_lt t s) [ inl m ↦ absurd (one.rank t m (back h (sym same) other.follows)) | inr m ↦ omega arith ]
      ]

  alike-longer : (xs : List X) (y : X) → StandAlike follow xs (xs ++ y ∷ []) (length xs)
  alike-longer xs y = record { there = λ i x below here. stands-left xs (y ∷ []) i x here; back = λ i x below here. stands-old xs y i x below here }

  -- the follower at a place is one
  same_follower : (xs : List X) (k r i s : ℕ) (x y z : X) → StandsAt xs k x → StandsAt (follow x) r y → Follows follow xs i s z → i ≡ k → s ≡ r → y ≡ z
  same_follower xs k r i s x y z here f (u, at, g) e d =
      let same : u ≡ x = stands-one xs k u x (subst (λ j. StandsAt xs j u) e at) here in
      let moved : StandsAt (follow u) r z = subst (λ j. StandsAt (follow u) j z) d g in
      stands-one (follow x) r y z f (subst (λ v. StandsAt (follow v) r z) same moved)

  module _ (starts : List X) where
    -- the starts are reached up to the first place
    pub reached-starts : StandOnce starts → AreReachedTo follow starts starts 0 0
    reached-starts once = record {
      distinct = once;
      begins = λ i x here. here;
      closed = λ i s y f early. elim early [ inl l ↦ absurd (omega arith) | inr p ↦ absurd (let l : s < 0 = p.1 in omega arith) ];
      found = λ j y past here. absurd (let m : j < length starts = stands-below starts j y here in omega arith);
      rising = λ j l y z i s h t past later one other v w. absurd (let m : l < length starts = stands-below starts l z other in omega arith);
    }

    -- a follower that is a member
    pub reached-known : (xs : List X) (k r : ℕ) (x y : X) → AreReachedTo follow starts xs k r → StandsAt xs k x → StandsAt (follow x) r y → StandsIn xs y
        → AreReachedTo follow starts xs k (suc r)
    reached-known xs k r x y to here f known = record {
      distinct = to.distinct;
      begins = to.begins;
      closed = closed_at;
      found = λ j z past at. let v = to.found j z past at in (v.0, v.1, v.2, v.3, later v.0 v.1 v.4);
      rising = to.rising;
    }
      where
        later : (i s : ℕ) → IsFoundBefore i s k r → IsFoundBefore i s k (suc r)
        later i s early = grind arith

        at_k : (i s : ℕ) (z : X) → Follows follow xs i s z → i ≡ k → s < suc r → StandsIn xs z
        at_k i s z g e l = elim (cases_lt s r) [
          | inl m ↦ to.closed i s z g (inr (e, m))
          | inr m ↦ subst (StandsIn xs) (same_follower xs k r i s x y z here f g e (omega arith)) known
        ]

        closed_at : (i s : ℕ) (z : X) → Follows follow xs i s z → IsFoundBefore i s k (suc r) → StandsIn xs z
        closed_at i s z g (inl l) = to.closed i s z g (inl l)
        closed_at i s z g (inr p) = at_k i s z g p.0 p.1

    -- all followers of the member at place k are there
    pub reached-next : (xs : List X) (k r : ℕ) (x : X) → AreReachedTo follow starts xs k r → StandsAt xs k x → length (follow x) ≤ r
        → AreReachedTo follow starts xs (suc k) 0
    reached-next xs k r x to here long = record {
      distinct = to.distinct;
      begins = to.begins;
      closed = closed_at;
      found = λ j z past at. let v = to.found j z past at in (v.0, v.1, v.2, v.3, later v.0 v.1 v.4);
      rising = to.rising;
    }
      where
        later : (i s : ℕ) → IsFoundBefore i s k r → IsFoundBefore i s (suc k) 0
        later i s early = grind arith

        short : (i s : ℕ) (z : X) → Follows follow xs i s z → i ≡ k → s < r
        short i s z (u, at, g) e =
            let same : u ≡ x = stands-one xs k u x (subst (λ j. StandsAt xs j u) e at) here in
            let l : s < length (follow x) = stands-below (follow x) s z (subst (λ v. StandsAt (follow v) s z) same g) in
            omega arith

        closed_at : (i s : ℕ) (z : X) → Follows follow xs i s z → IsFoundBefore i s (suc k) 0 → StandsIn xs z
        closed_at i s z g (inr p) = absurd (let l : s < 0 = p.1 in omega arith)
        closed_at i s z g (inl l) = elim (cases_lt i k) [
          | inl m ↦ to.closed i s z g (inl m)
          | inr m ↦ let e : i ≡ k = omega arith in to.closed i s z g (inr (e, short i s z g e))
        ]

    -- a follower that is new goes last
    pub reached-new : (xs : List X) (k r : ℕ) (x y : X) → AreReachedTo follow starts xs k r → StandsAt xs k x → StandsAt (follow x) r y → (StandsIn xs y → ⊥)
        → AreReachedTo follow starts (xs ++ y ∷ []) k (suc r)
    reached-new xs k r x y to here f new = record {
      distinct = once-new xs y to.distinct new;
      begins = λ i z at. stands-left xs (y ∷ []) i z (to.begins i z at);
      closed = closed_at;
      found = found_at;
      rising = rising_at;
    }
      where
        inside : k < length xs
        inside = stands-below xs k x here

        later : (i s : ℕ) → IsFoundBefore i s k r → IsFoundBefore i s k (suc r)
        later i s early = grind arith

        up : (i s : ℕ) (z : X) → Follows follow xs i s z → Follows follow (xs ++ y ∷ []) i s z
        up i s z (u, at, g) = (u, stands-left xs (y ∷ []) i u at, g)

        down : (i s : ℕ) (z : X) → i < length xs → Follows follow (xs ++ y ∷ []) i s z → Follows follow xs i s z
        down i s z below (u, at, g) = (u, stands-old xs y i u below at, g)

        keep : (z : X) → StandsIn xs z → StandsIn (xs ++ y ∷ []) z
        keep z (i, at) = (i, stands-left xs (y ∷ []) i z at)

        at_k : (i s : ℕ) (z : X) → Follows follow xs i s z → i ≡ k → s < suc r → StandsIn (xs ++ y ∷ []) z
        at_k i s z g e l = elim (cases_lt s r) [
          | inl m ↦ keep z (to.closed i s z g (inr (e, m)))
          | inr m ↦ subst (StandsIn (xs ++ y ∷ [])) (same_follower xs k r i s x y z here f g e (omega arith)) (length xs, stands-last xs y [])
        ]

        closed_at : (i s : ℕ) (z : X) → Follows follow (xs ++ y ∷ []) i s z → IsFoundBefore i s k (suc r) → StandsIn (xs ++ y ∷ []) z
        closed_at i s z g (inl l) = keep z (to.closed i s z (down i s z (omega (arith, inside)) g) (inl l))
        closed_at i s z g (inr p) = let e : i ≡ k = p.0 in at_k i s z (down i s z (omega (arith, inside)) g) p.0 p.1

        -- the new member is found at (k, r)
        found_new : IsFoundAt follow (xs ++ y ∷ []) k r y
        found_new = record {
          follows = up k r y (x, here, f);
          finder = λ h t l g. new (to.closed h t y (down h t y (omega (arith, inside)) g) (inl l));
          rank = λ t l g. new (to.closed k t y (down k t y inside g) (inr (refl, l)));
        }

        found_at : (j : ℕ) (z : X) → length starts ≤ j → StandsAt (xs ++ y ∷ []) j z
            → (i : ℕ) × (s : ℕ) × (i < j) × IsFoundAt follow (xs ++ y ∷ []) i s z × IsFoundBefore i s k (suc r)
        found_at j z past at = go (stands-cases xs y j z at)
          where
            go : StandsAt xs j z ⊎ ((j ≡ length xs) × (y ≡ z))
                → (i : ℕ) × (s : ℕ) × (i < j) × IsFoundAt follow (xs ++ y ∷ []) i s z × IsFoundBefore i s k (suc r)
            go (inl old) =
                let v = to.found j z past old in
                let m : j < length xs = stands-below xs j z old in
                let n : v.0 < j = v.2 in
                (v.0, v.1, v.2, found-alike follow xs (xs ++ y ∷ []) (length xs) v.0 v.1 z (alike-longer xs y) (omega arith) v.3, later v.0 v.1 v.4)
            go (inr last) = let e : j ≡ length xs = last.0 in
                (k, r, omega (arith, inside), subst (IsFoundAt follow (xs ++ y ∷ []) k r) last.1 found_new, inr (refl, omega arith))

        -- an old member was found in the old list, where it is found in the new one
        found_old : (j : ℕ) (u : X) (i s : ℕ) → length starts ≤ j → StandsAt xs j u → IsFoundAt follow (xs ++ y ∷ []) i s u
            → IsFoundAt follow xs i s u × IsFoundBefore i s k r
        found_old j u i s past at found =
            let v = to.found j u past at in
            let m : j < length xs = stands-below xs j u at in
            let n : v.0 < j = v.2 in
            let now : IsFoundAt follow (xs ++ y ∷ []) v.0 v.1 u = found-alike follow xs (xs ++ y ∷ []) (length xs) v.0 v.1 u (alike-longer xs y)
            (omega arith) v.3 in
            let e : (v.0 ≡ i) × (v.1 ≡ s) = found-one (xs ++ y ∷ []) u v.0 v.1 i s now found in
            let one : IsFoundAt follow xs i v.1 u
            × IsFoundBefore i v.1 k r = subst (λ n. IsFoundAt follow xs n v.1 u × IsFoundBefore n v.1 k r) e.0 (v.3, v.4) in
            subst (λ n. IsFoundAt follow xs i n u × IsFoundBefore i n k r) e.1 one

        rising_at : (j l : ℕ) (u z : X) (i s h t : ℕ) → length starts ≤ j → j < l → StandsAt (xs ++ y ∷ []) j u → StandsAt (xs ++ y ∷ []) l z
            → IsFoundAt follow (xs ++ y ∷ []) i s u → IsFoundAt follow (xs ++ y ∷ []) h t z → IsFoundBefore i s h t
        rising_at j l u z i s h t past beyond at_j at_l found_u found_z = go (stands-cases xs y j u at_j) (stands-cases xs y l z at_l)
          where
            go : StandsAt xs j u ⊎ ((j ≡ length xs) × (y ≡ u)) → StandsAt xs l z ⊎ ((l ≡ length xs) × (y ≡ z)) → IsFoundBefore i s h t
            go (inl m) (inl n) = to.rising j l u z i s h t past beyond m n (found_old j u i s past m found_u).0 (found_old l z h t (omega arith) n found_z).0
            go (inl m) (inr n) =
                let early : IsFoundBefore i s k r = (found_old j u i s past m found_u).1 in
                let e : (k ≡ h) × (r ≡ t) = found-one (xs ++ y ∷ []) y k r h t found_new (subst (IsFoundAt follow (xs ++ y ∷ []) h t) (sym n.1) found_z) in
                subst (λ v. IsFoundBefore i s h v) e.1 (subst (λ v. IsFoundBefore i s v r) e.0 early)
            go (inr m) (inl n) = absurd (let g : l < length xs = stands-below xs l z n in let e : j ≡ length xs = m.0 in omega arith)
            go (inr m) (inr n) = absurd (let e : j ≡ length xs = m.0 in let g : l ≡ length xs = n.0 in omega arith)
