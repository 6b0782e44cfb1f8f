-- Lists of prices by place.
use Rattle.std.proofs.Common.{ℕ, ◌≡◌, ◌+◌, ◌-◌, ◌<◌, ◌≤◌, List, [], ◌∷◌, ◌++◌, length, length-append, map, refl, sym, ap, ◌∙◌}
use Rattle.std.proofs.Common.{subst, inl, inr, suc, zero, arith, Bool, true, false, cond, get_or, not, ltb, max, Some, None, IsTrue}
use Rattle.std.specs.Bool.{Decides}
use Rattle.std.specs.Prelude.{◌↔◌}
use Rattle.std.specs.List.{insert, range_with_len, position, prefix_len}
use Rattle.std.proofs.lemmas.Bool.{cases_lt}
use Rattle.std.proofs.lemmas.Bool.Decides.{Decides-ltb, same_from_decides}
use Rattle.std.proofs.lemmas.Simd.{map-map}
use Rattle.std.proofs.lemmas.List.Sums.{prefix_len_is}
use Rattle.std.proofs.lemmas.List.{get_or_append_left, get_or-append_right}
use Rattle.std.proofs.lemmas.List.Edits.{get_or-insert_at, get_or-insert_below, get_or-insert_above, length-insert}
use Rattle.std.proofs.lemmas.List.FromFn.{fill_by_all, length-map-range_with_len, get_or-map-range_with_len, map-range_with_len_more}
use Rattle.spectro_spec.specs.Price.{Price, IsAtMost, ComesBefore, parts}
use Rattle.spectro_game.specs.MinimalElements.{is_at_most, precedes, not_above, placed_price}
use Rattle.spectro_game.specs.Sup.{sup, zero_price}
use Rattle.spectro_spec.specs.LeastPrices.{Covers}
use Rattle.spectro_theory.proofs.MinimalElements.{by_test, is_at_most-Decides, precedes-Decides}
use Rattle.spectro_lanes.specs.Columns.{IsFirst}

-- the first n values of f
abbrev pub firsts : (ℕ → Price) → ℕ → List Price
firsts f n = map f (range_with_len 0 n)

pub get_or-firsts : (f : ℕ → Price) (n i : ℕ) (d : Price) → i < n → get_or (firsts f n) i d ≡ f i
get_or-firsts f n i d low = get_or-map-range_with_len f 0 n i i d low (omega arith)

pub firsts-same : (f g : ℕ → Price) (n : ℕ) → ((i : ℕ) → i < n → f i ≡ g i) → firsts f n ≡ firsts g n
firsts-same f g n same =
    fill_by_all g (firsts f n) n zero_price (length-map-range_with_len f 0 n) (λ k low. get_or-firsts f n k zero_price low ∙ same k low)

pub firsts-more : (f : ℕ → Price) (n : ℕ) → firsts f (n + 1) ≡ firsts f n ++ f n ∷ []
firsts-more f n = map-range_with_len_more f 0 n n (omega arith)

pub length-firsts : (f : ℕ → Price) (n : ℕ) → length (firsts f n) ≡ n
length-firsts f n = length-map-range_with_len f 0 n

-- where g goes on from f by one
pub firsts-push : (f g : ℕ → Price) (n : ℕ) (e : Price) → ((i : ℕ) → i < n → g i ≡ f i) → g n ≡ e → firsts g (n + 1) ≡ firsts f n ++ e ∷ []
firsts-push f g n e same here = firsts-more g n ∙ ap (λ ps. ps ++ g n ∷ []) (firsts-same g f n same) ∙ ap (λ p. firsts f n ++ p ∷ []) here

-- where g goes on from f by h
pub firsts-append : (f g h : ℕ → Price) (n m : ℕ) → ((i : ℕ) → i < n → g i ≡ f i) → ((i : ℕ) → i < m → g (n + i) ≡ h i)
    → firsts g (n + m) ≡ firsts f n ++ firsts h m
firsts-append f g h n m left right =
    let long = length-map-range_with_len f 0 n in
    let all : length (firsts f n ++ firsts h m) ≡ n + m = omega (arith, length-append (firsts f n) (firsts h m), long, length-map-range_with_len h 0 m) in
    sym (fill_by_all g (firsts f n ++ firsts h m) (n + m) zero_price all (λ k low. elim (cases_lt k n) [
      | inl below ↦ get_or_append_left (firsts f n) (firsts h m) zero_price k (omega (arith, long)) ∙ get_or-firsts f n k zero_price below ∙ sym (left k below)
      | inr above ↦
          let back : n + (k - n) ≡ k = omega arith in
          get_or-append_right (firsts f n) (firsts h m) n k zero_price long above ∙ get_or-firsts h m (k - n) zero_price (omega arith)
          ∙ sym (right (k - n) (omega arith)) ∙ ap g back
    ]))

-- where g is f with one more at place p
pub firsts-insert : (f g : ℕ → Price) (n p : ℕ) (e : Price) → p ≤ n → ((i : ℕ) → i < p → g i ≡ f i) → g p ≡ e
    → ((i : ℕ) → p ≤ i → i < n → g (i + 1) ≡ f i) → firsts g (n + 1) ≡ insert (firsts f n) p e
firsts-insert f g n p e room before here after =
    let long = length-map-range_with_len f 0 n in
    let fits : p ≤ length (firsts f n) = omega (arith, long) in
    let all : length (insert (firsts f n) p e) ≡ n + 1 = omega (arith, length-insert (firsts f n) p e fits, long) in
    sym (fill_by_all g (insert (firsts f n) p e) (n + 1) zero_price all (λ k low. elim (cases_lt k p) [
      | inl below ↦ get_or-insert_below (firsts f n) p e zero_price k below fits ∙ get_or-firsts f n k zero_price (omega arith) ∙ sym (before k below)
      | inr from ↦ elim (cases_lt p k) [
        | inl above ↦
            let back : (k - 1) + 1 ≡ k = omega arith in
            ap (λ j. get_or (insert (firsts f n) p e) j zero_price) (sym back) ∙ get_or-insert_above (firsts f n) p e zero_price (k - 1) (omega arith) fits
            ∙ get_or-firsts f n (k - 1) zero_price (omega arith) ∙ sym (after (k - 1) (omega arith) (omega arith)) ∙ ap g back
        | inr at ↦
            let same : k ≡ p = omega arith in
            ap (λ j. get_or (insert (firsts f n) p e) j zero_price) same ∙ get_or-insert_at (firsts f n) p e zero_price fits ∙ sym here ∙ ap g (sym same)
      ]
    ]))

-- what is left of two lists together
pub not_above-append : (e : Price) (es fs : List Price) → not_above e (es ++ fs) ≡ not_above e es ++ not_above e fs
not_above-append e [] fs = refl
not_above-append e (g ∷ gs) fs = by (is_at_most e g) (not_above-append e gs fs)
  where
    by : (above : Bool) → not_above e (gs ++ fs) ≡ not_above e gs ++ not_above e fs
        → cond above (not_above e (gs ++ fs)) (g ∷ not_above e (gs ++ fs)) ≡ cond above (not_above e gs) (g ∷ not_above e gs) ++ not_above e fs
    by true rest = rest
    by false rest = ap (λ ps. g ∷ ps) rest

-- nothing is dropped where e is at most none of the first n
pub not_above-none : (e : Price) (f : ℕ → Price) (n : ℕ) → ((i : ℕ) → i < n → ¬ IsAtMost e (f i)) → not_above e (firsts f n) ≡ firsts f n
not_above-none e f n none = whole e (firsts f n) (λ i low above.
    none i (omega (arith, length-map-range_with_len f 0 n))
    (subst (λ p. IsAtMost e p) (get_or-firsts f n i zero_price (omega (arith, length-map-range_with_len f 0 n))) above))
  where
    whole : (e : Price) (es : List Price) → ((i : ℕ) → i < length es → ¬ IsAtMost e (get_or es i zero_price)) → not_above e es ≡ es
    whole e [] none = refl
    whole e (g ∷ gs) none = by_test (λ b. cond b (not_above e gs) (g ∷ not_above e gs) ≡ g ∷ gs) (is_at_most e g) (is_at_most-Decides e g)
        (λ above. absurd (none 0 (omega arith) above))
        (λ _. ap (λ ps. g ∷ ps) (whole e gs (λ i low. none (suc i) (omega arith))))

-- one that is kept, and one that is dropped
pub not_above-kept : (e f : Price) → ¬ IsAtMost e f → not_above e (f ∷ []) ≡ f ∷ []
not_above-kept e f apart = by_test (λ b. cond b [] (f ∷ []) ≡ f ∷ []) (is_at_most e f) (is_at_most-Decides e f) (λ above. absurd (apart above)) (λ _. refl)

pub not_above-dropped : (e f : Price) → IsAtMost e f → not_above e (f ∷ []) ≡ []
not_above-dropped e f above = by_test (λ b. cond b [] (f ∷ []) ≡ []) (is_at_most e f) (is_at_most-Decides e f) (λ _. refl) (λ apart. absurd (apart above))

-- what is put before the first that it comes before is in its place
placed_first : (e : Price) (es : List Price) (p : ℕ) → IsFirst (λ i. ComesBefore e (get_or es i zero_price)) (length es) p → insert es p e ≡ placed_price e es
placed_first e [] zero first = refl
placed_first e [] (suc p) first = absurd (omega (arith, first.bound))
placed_first e (f ∷ fs) zero first = by_test (λ b. e ∷ f ∷ fs ≡ cond b (e ∷ f ∷ fs) (f ∷ placed_price e fs)) (precedes (parts e) (parts f))
    (precedes-Decides (parts e) (parts f)) (λ _. refl) (λ after. absurd (after (first.at (omega arith))))
placed_first e (f ∷ fs) (suc p) first = by_test (λ b. f ∷ insert fs p e ≡ cond b (e ∷ f ∷ fs) (f ∷ placed_price e fs)) (precedes (parts e) (parts f))
    (precedes-Decides (parts e) (parts f)) (λ before. absurd (first.before 0 (omega arith) before))
    (λ _. ap (λ ps. f ∷ ps) (placed_first e fs p (record {
      bound = omega (arith, first.bound);
      before = λ i low. first.before (suc i) (omega arith);
      at = λ short. first.at (omega arith);
    })))

-- what holds at the same places is first at the same place
pub IsFirst-like : (P Q : ℕ → Type 0) (n k : ℕ) → ((i : ℕ) → i < n → P i → Q i) → ((i : ℕ) → i < n → Q i → P i) → IsFirst P n k → IsFirst Q n k
IsFirst-like P Q n k there back first = record {
  bound = first.bound;
  before = λ i low here. first.before i low (back i (omega (arith, first.bound)) here);
  at = λ short. there k short (first.at short);
}

-- the same in a list of the first n values
pub IsFirst-firsts : (P : Price → Type 0) (f : ℕ → Price) (n k : ℕ) → IsFirst (λ i. P (f i)) n k
    → IsFirst (λ i. P (get_or (firsts f n) i zero_price)) (length (firsts f n)) k
IsFirst-firsts P f n k first = subst (λ m. IsFirst (λ i. P (get_or (firsts f n) i zero_price)) m k) (sym (length-map-range_with_len f 0 n))
    (IsFirst-like (λ i. P (f i)) (λ i. P (get_or (firsts f n) i zero_price)) n k
    (λ i low. subst P (sym (get_or-firsts f n i zero_price low))) (λ i low. subst P (get_or-firsts f n i zero_price low)) first)

pub placed-firsts : (e : Price) (f : ℕ → Price) (n p : ℕ) → IsFirst (λ i. ComesBefore e (f i)) n p → insert (firsts f n) p e ≡ placed_price e (firsts f n)
placed-firsts e f n p first = placed_first e (firsts f n) p (IsFirst-firsts (ComesBefore e) f n p first)

-- whether some of the first n is at most e, by the place of the first
pub covers_first : (e : Price) (f : ℕ → Price) (n k : ℕ) → IsFirst (λ i. IsAtMost (f i) e) n k → (k < n) ↔ Covers (firsts f n) e
covers_first e f n k first = (there, back)
  where
    there : k < n → Covers (firsts f n) e
    there low = (f k, (k, omega (arith, length-firsts f n), get_or-firsts f n k (f k) low), first.at low)

    back : Covers (firsts f n) e → k < n
    back (x, (i, low, at), below) = elim (cases_lt k n) [
      | inl short ↦ short
      | inr all ↦
          let here : i < n = omega (arith, length-firsts f n) in
          absurd (first.before i (omega arith) (subst (λ y. IsAtMost y e) (sym at ∙ get_or-firsts f n i x here) below))
    ]

-- the place of the first that is at most e
position_first : (e : Price) (f : ℕ → Price) (n k : ℕ) → IsFirst (λ i. IsAtMost (f i) e) n k
    → position (λ p. is_at_most p e) (firsts f n) ≡ cond (ltb k n) (Some k) None
position_first e f n k first =
    let p = λ (x : Price). not (is_at_most x e) in
    let found : prefix_len p (firsts f n) ≡ k = prefix_len_is p (firsts f n) k zero_price (omega (arith, first.bound, length-firsts f n))
    (λ i low. ap (λ x. not (is_at_most x e)) (get_or-firsts f n i zero_price (omega (arith, first.bound)))
    ∙ ap not (false_from_not (is_at_most (f i) e) (is_at_most-Decides (f i) e) (first.before i low)))
    (λ short. let low : k < n = omega (arith, length-firsts f n) in ap (λ x. not (is_at_most x e)) (get_or-firsts f n k zero_price low)
    ∙ ap not ((is_at_most-Decides (f k) e).1 (first.at low))) in
    ap (λ m. cond (ltb m (length (firsts f n))) (Some m) None) found ∙ ap (λ m. cond (ltb k m) (Some k) None) (length-firsts f n)
  where
    false_from_not : {P : Type 0} (b : Bool) → Decides b P → ¬ P → b ≡ false
    false_from_not true told none = absurd (none (told.0 refl))
    false_from_not false told none = refl

pub position_some : (e : Price) (f : ℕ → Price) (n k : ℕ) → IsFirst (λ i. IsAtMost (f i) e) n k → k < n → Some k ≡ position (λ p. is_at_most p e) (firsts f n)
position_some e f n k first low =
    sym (position_first e f n k first
    ∙ by_test (λ b. cond b (Some k) None ≡ Some k) (ltb k n) (Decides-ltb k n) (λ _. refl) (λ no. absurd (no low)))

pub position_none : (e : Price) (f : ℕ → Price) (n k : ℕ) → IsFirst (λ i. IsAtMost (f i) e) n k → ¬ (k < n) → None ≡ position (λ p. is_at_most p e) (firsts f n)
position_none e f n k first all =
    sym (position_first e f n k first
    ∙ by_test (λ b. cond b (Some k) None ≡ None) (ltb k n) (Decides-ltb k n) (λ low. absurd (all low)) (λ _. refl))

-- marks of each of the first n
pub marks_are : (e : Price) (f : ℕ → Price) (n : ℕ) (marks : List Bool) → length marks ≡ n
    → ((i : ℕ) → i < length marks → IsTrue (get_or marks i false) ↔ IsAtMost e (f i)) → marks ≡ map (is_at_most e) (firsts f n)
marks_are e f n marks long told =
    fill_by_all (λ i. is_at_most e (f i)) marks n false long
    (λ k low. same_from_decides (get_or marks k false) (is_at_most e (f k)) (told k (omega (arith, long))) (is_at_most-Decides e (f k)))
    ∙ sym (map-map (is_at_most e) f (range_with_len 0 n))

-- the sup with nothing is the energy itself
pub sup-zero : (e : Price) → sup e zero_price ≡ e
sup-zero e = λ i. record {
  observations = nothing e.observations i;
  conjunctions = nothing e.conjunctions i;
  deepest_positive = nothing e.deepest_positive i;
  other_positive = nothing e.other_positive i;
  deepest_negative = nothing e.deepest_negative i;
  negations = nothing e.negations i;
  weighted_depth = nothing e.weighted_depth i;
}
  where
    nothing : (n : ℕ) → max n 0 ≡ n
    nothing n = omega arith

-- so for each of a list
pub sups-zero : (es : List Price) → map (λ e. sup e zero_price) es ≡ es
sups-zero [] = refl
sups-zero (e ∷ es) = λ i. sup-zero e i ∷ sups-zero es i
