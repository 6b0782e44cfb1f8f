-- What is kept of sets and pairs, and what one set or one pair more makes of it.
use Rattle.std.proofs.Common.{ℕ, ◌+◌, ◌*◌, ◌^◌, ◌<◌, ◌≤◌, ◌≡◌, ◌==◌, ◌⊎◌, inl, inr, List, [], ◌∷◌, length, refl, sym, ap, ◌∙◌, subst, arith, lit<, true, false, if◌then◌else◌, All, Vec, Some, slice_get, vec_len}
use Rattle.std.specs.List.{list_any}
use Rattle.std.specs.Str.{bytes_eq}
use Rattle.std.specs.declared.alloc.Global.{Global}
use Rattle.std.proofs.lemmas.List.Elements.{All-nil, All-weaker}
use Rattle.std.proofs.lemmas.Bool.{cases_lt}
use Rattle.std.proofs.lemmas.Option.{get_or_from_slice_get}
use Rattle.std.proofs.Math.Nat.{pow-le-pow_right}
use Rattle.spectro_game.specs.Pairs.{Pair, positions, size}
use Rattle.spectro_game.specs.Reached.{StandsAt}
use Rattle.spectro_theory.specs.Reaching.{StandOnce, with_last, is_same_pair}
use Rattle.spectro_theory.proofs.Places.{holds-at, stands-some}
use Rattle.spectro_theory.proofs.PutLast.{All-with_last, length-with_all, once-with_last, stands-with_last, with_all-one, with_last-known, with_last-new}
use Rattle.spectro_theory.proofs.Sizes.{few_members, half-size, size-append, size-one}
use Rattle.spectro_pairs.specs.declared.pairs.Key.{Key}
use Rattle.spectro_pairs.specs.Explored.{IsSetWithin, IsPairWithin}
use Rattle.spectro_pairs.specs.Interned.{AreInterned, lists_of, pair_at, pairs_of}
use Rattle.spectro_pairs.specs.Known.{Knows}
use Rattle.spectro_pairs.specs.declared.known.Known.{Known}
use Rattle.spectro_pairs.proofs.Sets.{set-equal, set-itself, stands-lists}
use Rattle.spectro_pairs.proofs.Interning.{any-pairs, is_same_key, length-pairs_of, pair_at-set, pairs_of-with_key, pairs_of-with_last, same_key-equal, same_key-itself, stands-pairs}

-- nothing is kept at first
pub interned-nil : (states limit : ℕ) (known singletons : Known) (sets : List (Vec ℕ Global)) (keys : List Key) → sets ≡ [] → keys ≡ []
    → limit ≤ 1000000 → known.width ≡ states → ((set state n : ℕ) → Knows known set state n → ⊥) → singletons.width ≡ 1
    → ((q column n : ℕ) → Knows singletons q column n → ⊥) → AreInterned states limit 0 known singletons sets keys
unfolding lists_of pairs_of
interned-nil states limit known singletons sets keys no-sets no-keys bound wide none narrow none_alone =
    subst (λ l. AreInterned states limit 0 known singletons l keys) (sym no-sets)
    (subst (AreInterned states limit 0 known singletons []) (sym no-keys) empty)
  where
    empty : AreInterned states limit 0 known singletons [] []
    empty = record {
      once = λ i j x here also. cc;
      within = All-nil (IsSetWithin states);
      in_range = All-nil (λ (key : Key). key.state < states);
      numbered = All-nil (λ (key : Key). key.set < 0);
      apart = λ i j x here also. cc;
      sized = refl;
      small = omega arith;
      bound = bound;
      few = omega arith;
      wide = wide;
      exact = λ set state n knows. absurd (none set state n knows);
      narrow = narrow;
      alone = λ q column n knows. absurd (none_alone q column n knows);
    }

-- the number that stands for the positions of a pair is at most theirs, and is theirs where it is at most a million
positions-low : (x : Pair) (n r : ℕ) → n ≡ length x.set → (n < 20 → r ≡ 1 + 2 ^ n + (if n == 1 then 1 else 0)) → (20 ≤ n → r ≡ 1048577)
    → (r ≤ positions x) × (r ≤ 1000000 → r ≡ positions x)
positions-low x n r members few many = elim (cases_lt n 20) [ inl below ↦ exact (few below) | inr past ↦ large past (many past) ]
  where
    same : 1 + 2 ^ n + (if n == 1 then 1 else 0) ≡ positions x
    same = ap (λ m. 1 + 2 ^ m + (if m == 1 then 1 else 0)) members

    exact : r ≡ 1 + 2 ^ n + (if n == 1 then 1 else 0) → (r ≤ positions x) × (r ≤ 1000000 → r ≡ positions x)
    exact e = let whole : r ≡ positions x = e ∙ same in (omega arith, λ _. whole)

    large : 20 ≤ n → r ≡ 1048577 → (r ≤ positions x) × (r ≤ 1000000 → r ≡ positions x)
    large past e =
        let power : 2 ^ 20 ≤ 2 ^ n = pow-le-pow_right (lit< tt) past in
        let whole = same in
        (omega arith, λ m. absurd (omega arith))

-- each pair is within the states
pub pairs-within : (states limit n : ℕ) (known singletons : Known) (sets : List (Vec ℕ Global)) (keys : List Key)
    → AreInterned states limit n known singletons sets keys → All (IsPairWithin states) (pairs_of (lists_of sets) keys)
unfolding pair_at
pairs-within states limit n known singletons sets keys well k d within =
    let lists = lists_of sets in
    let at = stands-some keys k (omega (arith, length-pairs_of lists keys, within)) in
    let here = stands-pairs lists keys k at.0 at.1 in
    let set_below = holds-at (λ (key : Key). key.set < length lists) keys k at.0 well.numbered at.1 in
    let one : IsPairWithin states (pair_at lists at.0.state at.0.set) = record {
      state = holds-at (λ (key : Key). key.state < states) keys k at.0 well.in_range at.1;
      set = well.within at.0.set [] set_below;
    } in
    subst (IsPairWithin states) (sym (get_or_from_slice_get (pairs_of lists keys) k (pair_at lists at.0.state at.0.set) d here)) one

module _ {states limit n : ℕ} {known singletons : Known} {sets : List (Vec ℕ Global)} {keys : List Key}
    (well : AreInterned states limit n known singletons sets keys) where
  pub half-limit : 2 * length keys ≤ limit
  half-limit =
      let sized = well.sized in
      let small = well.small in
      omega (arith, half-size (pairs_of (lists_of sets) keys), length-pairs_of (lists_of sets) keys, sized, small)

  pub few-members : (k : ℕ) (x : Pair) → StandsAt (pairs_of (lists_of sets) keys) k x → length x.set ≤ 19
  few-members k x here =
      let sized = well.sized in
      let small = well.small in
      let bound = well.bound in
      few_members (pairs_of (lists_of sets) keys) x (omega (arith, sized, small, bound)) (k, here)

  -- ---- one set more
  module _ (more : List (Vec ℕ Global)) (set : List ℕ) (put : lists_of more ≡ with_last bytes_eq (lists_of sets) set) where
    pub same-pairs : pairs_of (lists_of more) keys ≡ pairs_of (lists_of sets) keys
    same-pairs = ap (λ lists. pairs_of lists keys) put ∙ pairs_of-with_last (lists_of sets) set keys well.numbered

    no-fewer : length (lists_of sets) ≤ length (lists_of more)
    no-fewer = omega (arith, ap length put, length-with_all bytes_eq (set ∷ []) (lists_of sets), ap length (with_all-one bytes_eq (lists_of sets) set))

    pub interned-set : IsSetWithin states set → length (lists_of more) ≤ 4294967295
        → AreInterned states limit n known singletons more keys
    interned-set within few = record {
      once = subst StandOnce (sym put) (once-with_last bytes_eq set-equal set-itself (lists_of sets) set well.once);
      within = subst (All (IsSetWithin states)) (sym put) (All-with_last (IsSetWithin states) bytes_eq (lists_of sets) set well.within within);
      in_range = well.in_range;
      numbered = All-weaker (λ (key : Key). key.set < length (lists_of sets)) (λ (key : Key). key.set < length (lists_of more))
          (λ key below. omega (arith, no-fewer)) keys well.numbered;
      apart = well.apart;
      sized = well.sized ∙ sym (ap size same-pairs);
      small = well.small;
      bound = well.bound;
      few = few;
      wide = well.wide;
      exact = well.exact;
      narrow = well.narrow;
      alone = λ q column m knows. subst (λ l. StandsAt l m (q ∷ [])) (sym put)
          (stands-with_last bytes_eq set-equal set-itself (lists_of sets) set m (q ∷ []) (well.alone q column m knows));
    }

  -- ---- a number that is kept
  pub interned-known : (set state k : ℕ) (more : Known) → more.width ≡ known.width → StandsAt keys k (record { state = state; set = set })
      → ((p q m : ℕ) → Knows more p q m → Knows known p q m ⊎ ((p ≡ set) × (q ≡ state) × (m ≡ k)))
      → AreInterned states limit n more singletons sets keys
  interned-known set state k more same here cases = record {
    once = well.once;
    within = well.within;
    in_range = well.in_range;
    numbered = well.numbered;
    apart = well.apart;
    sized = well.sized;
    small = well.small;
    bound = well.bound;
    few = well.few;
    wide = same ∙ well.wide;
    exact = λ p q m knows. elim (cases p q m knows) [
      | inl old ↦ well.exact p q m old
      | inr (one, other, last) ↦ subst (λ j. StandsAt keys j (record { state = q; set = p })) (sym last)
          (subst (StandsAt keys k) (λ i. record { state = sym other i; set = sym one i }) here)
    ];
    narrow = well.narrow;
    alone = well.alone;
  }

  -- the number of the set of one state
  pub interned-singleton : (q k : ℕ) (more : Known) → more.width ≡ singletons.width → StandsAt (lists_of sets) k (q ∷ [])
      → ((p column m : ℕ) → Knows more p column m → Knows singletons p column m ⊎ ((p ≡ q) × (column ≡ 0) × (m ≡ k)))
      → AreInterned states limit n known more sets keys
  interned-singleton q k more same here cases = record {
    once = well.once;
    within = well.within;
    in_range = well.in_range;
    numbered = well.numbered;
    apart = well.apart;
    sized = well.sized;
    small = well.small;
    bound = well.bound;
    few = well.few;
    wide = well.wide;
    exact = well.exact;
    narrow = same ∙ well.narrow;
    alone = λ p column m knows. elim (cases p column m knows) [
      | inl old ↦ well.alone p column m old
      | inr (one, first, last) ↦ subst (λ j. StandsAt (lists_of sets) j (p ∷ [])) (sym last)
          (subst (λ s. StandsAt (lists_of sets) k (s ∷ [])) (sym one) here)
    ];
  }

  -- ---- one pair more
  module _ (key : Key) (below : key.set < length (lists_of sets)) where
    abbrev pairs : List Pair
    pairs = pairs_of (lists_of sets) keys

    abbrev new : Pair
    new = pair_at (lists_of sets) key.state key.set

    pub put-pair : pairs_of (lists_of sets) (with_last is_same_key keys key) ≡ with_last is_same_pair (pairs_of (lists_of sets) keys)
        (pair_at (lists_of sets) key.state key.set)
    put-pair = pairs_of-with_key (lists_of sets) well.once keys key below well.numbered

    pub known-pair : list_any (is_same_key key) keys ≡ true
        → with_last is_same_pair (pairs_of (lists_of sets) keys) (pair_at (lists_of sets) key.state key.set) ≡ pairs_of (lists_of sets) keys
    known-pair known = with_last-known is_same_pair pairs new (sym (any-pairs (lists_of sets) well.once key keys below well.numbered) ∙ known)

    pub new-size : list_any (is_same_key key) keys ≡ false
        → size (with_last is_same_pair (pairs_of (lists_of sets) keys) (pair_at (lists_of sets) key.state key.set)) ≡ n + positions
        (pair_at (lists_of sets) key.state key.set)
    new-size none =
        let put = with_last-new is_same_pair pairs new (sym (any-pairs (lists_of sets) well.once key keys below well.numbered) ∙ none) in
        let sized = well.sized in
        omega (arith, ap size put, size-append pairs (new ∷ []), size-one new, sized)

    pub interned-key : (m : ℕ) (more : List Key) → more ≡ with_last is_same_key keys key → key.state < states
        → m ≡ size (with_last is_same_pair (pairs_of (lists_of sets) keys) (pair_at (lists_of sets) key.state key.set)) → m ≤ limit
        → AreInterned states limit m known singletons sets more
    interned-key m more put in_range sized small = record {
      once = well.once;
      within = well.within;
      in_range = subst (All (λ (key : Key). key.state < states)) (sym put)
          (All-with_last (λ (key : Key). key.state < states) is_same_key keys key well.in_range in_range);
      numbered = subst (All (λ (key : Key). key.set < length (lists_of sets))) (sym put)
          (All-with_last (λ (key : Key). key.set < length (lists_of sets)) is_same_key keys key well.numbered below);
      apart = subst StandOnce (sym put) (once-with_last is_same_key same_key-equal same_key-itself keys key well.apart);
      sized = sized ∙ ap size (sym put-pair ∙ ap (pairs_of (lists_of sets)) (sym put));
      small = small;
      bound = well.bound;
      few = well.few;
      wide = well.wide;
      exact = λ p q m knows. subst (λ l. StandsAt l m (record { state = q; set = p })) (sym put)
          (stands-with_last is_same_key same_key-equal same_key-itself keys key m (record { state = q; set = p }) (well.exact p q m knows));
      narrow = well.narrow;
      alone = well.alone;
    }

    -- the positions of the pair, by the members of its set
    pub positions-new : (set : Vec ℕ Global) (m r : ℕ) → slice_get sets key.set ≡ Some set → m ≡ vec_len set
        → (m < 20 → r ≡ 1 + 2 ^ m + (if m == 1 then 1 else 0)) → (20 ≤ m → r ≡ 1048577)
        → (r ≤ positions (pair_at (lists_of sets) key.state key.set)) × (r ≤ 1000000 → r ≡ positions (pair_at (lists_of sets) key.state key.set))
    positions-new set m r here members =
        positions-low new m r (members ∙ set.ok.0
        ∙ sym (ap (λ (x : Pair). length x.set) (pair_at-set (lists_of sets) key.state key.set set.items (stands-lists sets key.set set here))))
