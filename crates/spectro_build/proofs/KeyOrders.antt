-- Keys that differ and are sorted rise.
use Rattle.std.proofs.Common.{◌≡◌, ◌≢◌, ◌∙◌, inl, inr, ℕ, zero, suc, ◌+◌, ◌-◌, ◌<◌, ◌≤◌, List, [], ◌∷◌, length, get_or, refl, sym, ap, subst, arith, Bool, true, false, nat_cmp, is_lt, Less, Equal}
use Rattle.std.specs.Ordering.{ordering_then}
use Rattle.std.specs.Cmp.{nat_cmp_is}
use Rattle.std.specs.List.{AllByRecursion, IsDistinct}
use Rattle.std.specs.declared.cmp.Ordering.{Ordering}
use Rattle.std.proofs.lemmas.Bool.{true≢false}
use Rattle.std.proofs.lemmas.Map.Keys.{IsDistinct-head, IsDistinct-tail}
use Rattle.std.proofs.lemmas.Option.{get_or_from_slice_get}
use Rattle.spectro_spec.specs.Price.{IsFirstSmaller}
use Rattle.spectro_spec.proofs.FirstSmaller.{IsFirstSmaller-trans}
use Rattle.spectro_game.specs.Reached.{StandsAt}
use Rattle.spectro_theory.specs.Reaching.{StandOnce}
use Rattle.spectro_theory.proofs.Places.{stands-below, stands-some}
use Rattle.spectro_build.specs.Needs.{DoKeysRise, row_of}
use Rattle.spectro_build.specs.declared.key.Key.{Key}
use Rattle.spectro_build.proofs.Comparisons.{compare_rows}

-- ---- a list in which each is unlike all later ones has no member twice
apart-at : {X : Type 0} (P : X → Type 0) (xs : List X) (j : ℕ) (x : X) → AllByRecursion P xs → StandsAt xs j x → P x
apart-at P [] j x all there = absurd (cc)
apart-at P (y ∷ xs) zero x all there = let same : y ≡ x = cc in subst P same all.0
apart-at P (y ∷ xs) (suc j) x all there = apart-at P xs j x all.1 there

module _ {X : Type 0} (like : X → X → Bool) (itself : (x : X) → like x x ≡ true) where
  never : (y x : X) (xs : List X) (j : ℕ) → AllByRecursion (λ z. like y z ≡ false) xs → y ≡ x → StandsAt xs j x → ⊥
  never y x xs j all same there =
      true≢false (sym (itself x) ∙ subst (λ z. like z x ≡ false) same (apart-at (λ z. like y z ≡ false) xs j x all there))

  pub distinct-once : (xs : List X) → IsDistinct like xs → StandOnce xs
  distinct-once [] apart i j x here there = absurd (cc)
  distinct-once (y ∷ xs) apart zero zero x here there = refl
  distinct-once (y ∷ xs) apart zero (suc j) x here there =
      absurd (never y x xs j (IsDistinct-head like y xs apart) (let same : y ≡ x = cc in same) there)
  distinct-once (y ∷ xs) apart (suc i) zero x here there =
      absurd (never y x xs i (IsDistinct-head like y xs apart) (let same : y ≡ x = cc in same) here)
  distinct-once (y ∷ xs) apart (suc i) (suc j) x here there = ap suc (distinct-once xs (IsDistinct-tail like y xs apart) i j x here there)

-- ---- how the machine compares two keys
abbrev comes : Key → Key → Ordering
comes one other = ordering_then (nat_cmp one.height other.height) (ordering_then (nat_cmp one.pair other.pair) (nat_cmp one.place other.place))

compare-less : (n m : ℕ) → n < m → nat_cmp n m ≡ Less
compare-less n m h = sym (nat_cmp_is n m Less h)

compare-equal : (n m : ℕ) → n ≡ m → nat_cmp n m ≡ Equal
compare-equal n m h = sym (nat_cmp_is n m Equal h)

smaller-less : (one other : Key) → IsFirstSmaller (row_of one) (row_of other) → is_lt (comes one other) ≡ true
smaller-less one other (inl h) = rw (compare-less one.height other.height h) refl
smaller-less one other (inr (a, inl h)) = rw (compare-equal one.height other.height a, compare-less one.pair other.pair h) refl
smaller-less one other (inr (a, inr (b, inl h))) =
    rw (compare-equal one.height other.height a, compare-equal one.pair other.pair b, compare-less one.place other.place h) refl
smaller-less one other (inr (a, inr (b, inr (c, none)))) = absurd none

row-same : (one other : Key) → row_of one ≡ row_of other → one ≡ other
row-same one other same =
    let height : one.height ≡ other.height = cc in
    let pair : one.pair ≡ other.pair = cc in
    let place : one.place ≡ other.place = cc in
    (λ i. record { height = height i; pair = pair i; place = place i })

-- a key that comes next and is another one comes later
next-up : (one next : Key) → one ≢ next → is_lt (comes next one) ≡ false → IsFirstSmaller (row_of one) (row_of next)
next-up one next apart is = elim (compare_rows (row_of one) (row_of next) refl) [
  | inl before ↦ before
  | inr (inl same) ↦ absurd (apart (row-same one next same))
  | inr (inr after) ↦ absurd (true≢false (sym (smaller-less next one after) ∙ is))
]

module _ (keys : List Key) (next : (k : ℕ) (one other : Key) → StandsAt keys k one → StandsAt keys (suc k) other → IsFirstSmaller (row_of one) (row_of other))
  where
    later-up : (n i : ℕ) (one other : Key) → StandsAt keys i one → StandsAt keys (suc i + n) other → IsFirstSmaller (row_of one) (row_of other)
    later-up zero i one other here there =
        let same : suc i + 0 ≡ suc i = omega arith in
        next i one other here (subst (λ k. StandsAt keys k other) same there)
    later-up (suc n) i one other here there =
        let end = stands-below keys (suc i + suc n) other there in
        let (middle, stands) = stands-some keys (suc i + n) (omega arith) in
        let same : suc i + suc n ≡ suc (suc i + n) = omega arith in
        IsFirstSmaller-trans (row_of one) (row_of middle) (row_of other) (later-up n i one middle here stands)
        (next (suc i + n) middle other stands (subst (λ k. StandsAt keys k other) same there))

    keys-up : DoKeysRise keys
    keys-up i j one other before here there =
        let same : j ≡ suc i + (j - suc i) = omega arith in
        later-up (j - suc i) i one other here (subst (λ k. StandsAt keys k other) same there)

-- sorted keys, none of which stands twice
pub sorted-up : (keys : List Key) → StandOnce keys
    → ((k : ℕ) (d : Key) → 0 ≤ k → k + 1 < length keys → is_lt (comes (get_or keys (k + 1) d) (get_or keys k d)) ≡ false) → DoKeysRise keys
sorted-up keys once sorted = keys-up keys (λ k one other here there.
    let place : suc k ≡ k + 1 = omega arith in
    let at = subst (λ n. StandsAt keys n other) place there in
    let below = stands-below keys (k + 1) other at in
    let is = sorted k one (omega arith) below in
    next-up one other (λ same. let twice : k ≡ suc k = once k (suc k) other (subst (StandsAt keys k) same here) there in absurd (omega arith))
    (subst (λ z. is_lt (comes other z) ≡ false) (get_or_from_slice_get keys k one one here)
    (subst (λ z. is_lt (comes z (get_or keys k one)) ≡ false) (get_or_from_slice_get keys (k + 1) other one at) is)))
