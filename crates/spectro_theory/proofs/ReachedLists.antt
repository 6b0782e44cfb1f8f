-- The list of what is reached is one: what is reached up to a place begins each such list.
-- The first n members of two such lists are the same, by induction on n: the next one is found at the same place in both, and
-- members stand in the order in which they are found.
use Rattle.std.proofs.Common.{ℕ, zero, suc, ◌+◌, ◌<◌, ◌≤◌, ◌≡◌, inl, inr, List, [], ◌∷◌, ◌++◌, length, sym, ap, ◌∙◌, subst, arith, length-append, append-nil}
use Rattle.std.proofs.lemmas.Bool.{cases_lt}
use Rattle.spectro_game.specs.Reached.{StandsAt, StandsIn, IsFoundBefore, Follows, IsFoundAt, AreReached}
use Rattle.spectro_theory.specs.Reaching.{AreReachedTo}
use Rattle.spectro_theory.proofs.Places.{stands-below, stands-one, stands-some, begins_with}

module _ {X : Type 0} (follow : X → List X) where
  -- the first n members of two lists are the same
  pub record StandAlike (xs ys : List X) (n : ℕ) : Type 0 where
    pub there : (i : ℕ) (x : X) → i < n → StandsAt xs i x → StandsAt ys i x
    pub back : (i : ℕ) (x : X) → i < n → StandsAt ys i x → StandsAt xs i x

  pub alike-back : (xs ys : List X) (n : ℕ) → StandAlike xs ys n → StandAlike ys xs n
  alike-back xs ys n alike = record { there = alike.back; back = alike.there }

  pub follows-alike : (xs ys : List X) (n i s : ℕ) (y : X) → StandAlike xs ys n → i < n → Follows follow xs i s y → Follows follow ys i s y
  follows-alike xs ys n i s y alike below (x, here, f) = (x, alike.there i x below here, f)

  -- where something is found depends on the members up to the finder
  pub found-alike : (xs ys : List X) (n i s : ℕ) (y : X) → StandAlike xs ys n → i < n → IsFoundAt follow xs i s y → IsFoundAt follow ys i s y
  found-alike xs ys n i s y alike below found = record {
    follows = follows-alike xs ys n i s y alike below found.follows;
    finder = λ h t early f. found.finder h t early (follows-alike ys xs n h t y (alike-back xs ys n alike) (omega arith) f);
    rank = λ t early f. found.rank t early (follows-alike ys xs n i t y (alike-back xs ys n alike) below f);
  }

  module _ (starts xs ys : List X) (k r : ℕ) (to : AreReachedTo follow starts xs k r) (whole : AreReached follow starts ys) where
    not_both_before : (i s h t : ℕ) → IsFoundBefore i s h t → IsFoundBefore h t i s → ⊥
    not_both_before i s h t before after = grind arith

    before_through : (i s h t l u : ℕ) → IsFoundBefore i s h t → IsFoundBefore h t l u → IsFoundBefore i s l u
    before_through i s h t l u first second = grind arith

    -- y at place n of the whole list, where x is at place n of the other and stands later in the whole one
    none_between : (n i s m : ℕ) (x y : X) → StandAlike xs ys n → length starts ≤ n → StandsAt xs n x → i < n → IsFoundAt follow xs i s x
        → IsFoundBefore i s k r
        → StandsAt ys m x → n < m → StandsAt ys n y → ⊥
    none_between n i s m x y alike past here below found_x early later beyond instead = go (whole.found n y past instead)
      where
        meets : (h t p : ℕ) → h < n → IsFoundAt follow ys h t y → IsFoundBefore h t i s → StandsAt xs p y → ⊥
        meets h t p under found_y before at_p = elim (cases_lt p n) [
          | inl c ↦ let e : p ≡ n = whole.distinct p n y (alike.there p y c at_p) instead in omega arith
          | inr c ↦ elim (cases_lt n p) [
            | inl d ↦ not_both_before h t i s before
                (to.rising n p x y i s h t past d here at_p found_x (found-alike ys xs n h t y (alike-back xs ys n alike) under found_y))
            | inr d ↦
                let e : p ≡ n = omega arith in
                let same : x ≡ y = stands-one xs n x y here (subst (λ j. StandsAt xs j y) e at_p) in
                let twice : n ≡ m = whole.distinct n m y instead (subst (λ u. StandsAt ys m u) same later) in
                omega arith
          ]
        ]

        go : (h : ℕ) × (t : ℕ) × (h < n) × IsFoundAt follow ys h t y → ⊥
        go (h, t, under, found_y) =
            let before : IsFoundBefore h t i s = whole.rising n m y x h t i s past beyond instead later found_y
            (found-alike xs ys n i s x alike below found_x) in
            let f : Follows follow xs h t y = follows-alike ys xs n h t y (alike-back xs ys n alike) under found_y.follows in
            let inside : StandsIn xs y = to.closed h t y f (before_through h t i s k r before early) in
            meets h t inside.0 under found_y before inside.1

    next_alike : (n : ℕ) (x : X) → StandAlike xs ys n → StandsAt xs n x → StandsAt ys n x
    next_alike n x alike here = elim (cases_lt n (length starts)) [ inl below ↦ start below | inr past ↦ later past (to.found n x past here) ]
      where
        start : n < length starts → StandsAt ys n x
        start below =
            let first = stands-some starts n below in
            let same : first.0 ≡ x = stands-one xs n first.0 x (to.begins n first.0 first.1) here in
            subst (λ u. StandsAt ys n u) same (whole.begins n first.0 first.1)

        later : length starts ≤ n → (i : ℕ) × (s : ℕ) × (i < n) × IsFoundAt follow xs i s x × IsFoundBefore i s k r → StandsAt ys n x
        later past (i, s, below, found_x, early) = placed (whole.closed i s x (follows-alike xs ys n i s x alike below found_x.follows))
          where
            placed : StandsIn ys x → StandsAt ys n x
            placed (m, at_m) = elim (cases_lt m n) [
              | inl c ↦ absurd (let e : m ≡ n = to.distinct m n x (alike.back m x c at_m) here in omega arith)
              | inr c ↦ elim (cases_lt n m) [
                | inl d ↦
                    let within : m < length ys = stands-below ys m x at_m in
                    let y = stands-some ys n (omega arith) in
                    absurd (none_between n i s m x y.0 alike past here below found_x early at_m d y.1)
                | inr d ↦ let e : m ≡ n = omega arith in subst (λ j. StandsAt ys j x) e at_m
              ]
            ]

    stand_alike : (n : ℕ) → n ≤ length xs → StandAlike xs ys n
    stand_alike zero below = record { there = λ i x early. absurd (omega arith); back = λ i x early. absurd (omega arith) }
    stand_alike (suc n) below = go (stand_alike n (omega arith)) (stands-some xs n (omega arith))
      where
        go : StandAlike xs ys n → (x : X) × StandsAt xs n x → StandAlike xs ys (suc n)
        go alike (x, here) = record {
          there = λ i z early h. elim (cases_lt i n) [
            | inl c ↦ alike.there i z c h
            | inr c ↦
                let e : i ≡ n = omega arith in
                let same : x ≡ z = stands-one xs n x z here (subst (λ j. StandsAt xs j z) e h) in
                subst (λ j. StandsAt ys j z) (sym e) (subst (λ u. StandsAt ys n u) same (next_alike n x alike here))
          ];
          back = λ i z early h. elim (cases_lt i n) [
            | inl c ↦ alike.back i z c h
            | inr c ↦
                let e : i ≡ n = omega arith in
                let same : x ≡ z = stands-one ys n x z (next_alike n x alike here) (subst (λ j. StandsAt ys j z) e h) in
                subst (λ j. StandsAt xs j z) (sym e) (subst (λ u. StandsAt xs n u) same here)
          ];
        }

    -- what is reached up to a place begins each list of what is reached
    pub reached_begins : (rest : List X) × (ys ≡ xs ++ rest)
    reached_begins = begins_with xs ys (λ i x here. (stand_alike (length xs) (omega arith)).there i x (stands-below xs i x here) here)

  -- what is reached is reached up to the end
  pub reached-to_end : (starts xs : List X) → AreReached follow starts xs → AreReachedTo follow starts xs (length xs) 0
  reached-to_end starts xs whole = record {
    distinct = whole.distinct;
    begins = whole.begins;
    closed = λ i s y f early. whole.closed i s y f;
    found = λ j y past here.
        let (i, s, below, at) = whole.found j y past here in
        let within : j < length xs = stands-below xs j y here in
        (i, s, below, at, inl (omega arith));
    rising = whole.rising;
  }

  -- what is reached up to the end is what is reached
  pub reached-from_end : (starts xs : List X) → AreReachedTo follow starts xs (length xs) 0 → AreReached follow starts xs
  reached-from_end starts xs to = record {
    distinct = to.distinct;
    begins = to.begins;
    closed = λ i s y f. to.closed i s y f (inl (stands-below xs i f.0 f.1));
    found = λ j y past here. let (i, s, below, at, early) = to.found j y past here in (i, s, below, at);
    rising = to.rising;
  }

  -- there is at most one list of what is reached
  pub one_reached : (starts xs ys : List X) → AreReached follow starts xs → AreReached follow starts ys → xs ≡ ys
  one_reached starts xs ys one other =
      go (reached_begins starts xs ys (length xs) 0 (reached-to_end starts xs one) other)
      (reached_begins starts ys xs (length ys) 0 (reached-to_end starts ys other) one)
    where
      go : (rest : List X) × (ys ≡ xs ++ rest) → (more : List X) × (xs ≡ ys ++ more) → xs ≡ ys
      go (rest, p) (more, q) =
          let e : length ys ≡ length xs + length rest = ap length p ∙ length-append xs rest in
          let f : length xs ≡ length ys + length more = ap length q ∙ length-append ys more in
          none more (omega arith) q
        where
          none : (more : List X) → length more ≡ 0 → xs ≡ ys ++ more → xs ≡ ys
          none [] l q = q ∙ append-nil ys
          none (x ∷ more) l q = absurd (omega arith)
