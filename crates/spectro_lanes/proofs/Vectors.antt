-- What a vector of eight numbers holds after a comparison with a bound.
use Rattle.std.proofs.Common.{ℕ, ◌≡◌, ◌+◌, ◌-◌, ◌^◌, ◌<◌, ◌≤◌, List, length, refl, sym, ap, ◌∙◌, Bool, true, false}
use Rattle.std.proofs.Common.{cond, get_or, replicate, arith, w32, map, below_more, ◌%◌, eqb, subst, not, lit≤, ◌≢◌, ltb, max}
use Rattle.std.specs.Prelude.{◌↔◌}
use Rattle.std.specs.Bool.{Decides}
use Rattle.std.specs.Int.Count.{count_trailing_zeros}
use Rattle.std.specs.List.{prefix_len}
use Rattle.std.specs.Simd.Lanes.{zip2, sel_l, mask_l, top, chunk}
use Rattle.std.proofs.lemmas.Bool.{true≢false, not-false, not-true}
use Rattle.std.proofs.lemmas.Bool.Decides.{Decides-eqb, Decides-not, nat_tests}
use Rattle.std.proofs.lemmas.List.Sums.{prefix_len-le-length, prefix_len_passes, prefix_len_stops}
use Rattle.spectro_lanes.specs.Columns.{IsFirst}
use Rattle.std.proofs.lemmas.Simd.{bitmask_splat, first_set_mask_l, tops_compared, get_or-sel_l, length-sel_l}
use Rattle.std.proofs.lemmas.Simd.{get_or-zip2, get_or-chunk, length-chunk, length-zip2, get_or-replicate}

-- the lane of the one list where the test holds, and of the other where it does not
selected : (t : ℕ → ℕ → Bool) (xs ys us vs : List ℕ) (i : ℕ) → length xs ≡ 8 → length ys ≡ 8 → length us ≡ 8 → length vs ≡ 8 → i < 8
    → get_or (sel_l (map (top 31) (zip2 (λ a b. cond (t a b) (2 ^ 32 - 1) 0) xs ys)) us vs) i 0
    ≡ cond (t (get_or xs i 0) (get_or ys i 0)) (get_or us i 0) (get_or vs i 0)
selected t xs ys us vs i left right chosen other low =
    let tests = zip2 t xs ys in
    let long : length tests ≡ 8 = length-zip2 t xs ys (omega arith) ∙ left in
    let test : get_or tests i false ≡ t (get_or xs i 0) (get_or ys i 0) = get_or-zip2 t xs ys i 0 0 false (omega arith) (omega arith) in
    ap (λ ms. get_or (sel_l ms us vs) i 0) (tops_compared w32 t xs ys)
    ∙ get_or-sel_l tests us vs i 0 (omega arith) (omega arith) (omega arith)
    ∙ ap (λ b. cond b (get_or us i 0) (get_or vs i 0)) test

-- eight numbers of a list under a test of each with one bound, on either side
pub selected_left : (t : ℕ → ℕ → Bool) (kept numbers : List ℕ) (at bound i : ℕ) → length kept ≡ 8 → at + 8 ≤ length numbers → i < 8
    → get_or (sel_l (map (top 31) (zip2 (λ a b. cond (t a b) (2 ^ 32 - 1) 0) (chunk at 8 numbers) (replicate 8 bound))) kept (replicate 8 0)) i 0
    ≡ cond (t (get_or numbers (at + i) 0) bound) (get_or kept i 0) 0
selected_left t kept numbers at bound i eight room low =
    selected t (chunk at 8 numbers) (replicate 8 bound) kept (replicate 8 0) i (length-chunk at 8 numbers room) refl eight refl low
    ∙ ap (λ x. cond (t x (get_or (replicate 8 bound) i 0)) (get_or kept i 0) (get_or (replicate 8 0) i 0)) (get_or-chunk at 8 numbers i 0 low)
    ∙ ap (λ y. cond (t (get_or numbers (at + i) 0) y) (get_or kept i 0) (get_or (replicate 8 0) i 0)) (get_or-replicate 8 i bound 0 low)
    ∙ ap (cond (t (get_or numbers (at + i) 0) bound) (get_or kept i 0)) (get_or-replicate 8 i 0 0 low)

pub selected_right : (t : ℕ → ℕ → Bool) (kept numbers : List ℕ) (at bound i : ℕ) → length kept ≡ 8 → at + 8 ≤ length numbers → i < 8
    → get_or (sel_l (map (top 31) (zip2 (λ a b. cond (t a b) (2 ^ 32 - 1) 0) (replicate 8 bound) (chunk at 8 numbers))) kept (replicate 8 0)) i 0
    ≡ cond (t bound (get_or numbers (at + i) 0)) (get_or kept i 0) 0
selected_right t kept numbers at bound i eight room low =
    selected t (replicate 8 bound) (chunk at 8 numbers) kept (replicate 8 0) i refl (length-chunk at 8 numbers room) eight refl low
    ∙ ap (λ y. cond (t (get_or (replicate 8 bound) i 0) y) (get_or kept i 0) (get_or (replicate 8 0) i 0)) (get_or-chunk at 8 numbers i 0 low)
    ∙ ap (λ x. cond (t x (get_or numbers (at + i) 0)) (get_or kept i 0) (get_or (replicate 8 0) i 0)) (get_or-replicate 8 i bound 0 low)
    ∙ ap (cond (t bound (get_or numbers (at + i) 0)) (get_or kept i 0)) (get_or-replicate 8 i 0 0 low)

-- the greater of each of eight numbers of a list and a bound
abbrev pub greater_lanes : List ℕ → ℕ → ℕ → List ℕ
greater_lanes numbers at bound =
    sel_l (map (top 31) (zip2 (λ a b. cond (ltb a b) (2 ^ 32 - 1) 0) (chunk at 8 numbers) (replicate 8 bound))) (replicate 8 bound) (chunk at 8 numbers)

greater_of : (x y : ℕ) → cond (ltb x y) y x ≡ max x y
greater_of x y = grind (arith, nat_tests)

pub length-greater_lanes : (numbers : List ℕ) (at bound : ℕ) → at + 8 ≤ length numbers → length (greater_lanes numbers at bound) ≡ 8
length-greater_lanes numbers at bound room =
    let loaded = length-chunk at 8 numbers room in
    let tests = zip2 ltb (chunk at 8 numbers) (replicate 8 bound) in
    let long : length tests ≡ 8 = length-zip2 ltb (chunk at 8 numbers) (replicate 8 bound) loaded ∙ loaded in
    ap (λ ms. length (sel_l ms (replicate 8 bound) (chunk at 8 numbers))) (tops_compared w32 ltb (chunk at 8 numbers) (replicate 8 bound))
    ∙ length-sel_l tests (replicate 8 bound) (chunk at 8 numbers) long (omega arith) ∙ long

pub get_or-greater_lanes : (numbers : List ℕ) (at bound i : ℕ) → at + 8 ≤ length numbers → i < 8
    → get_or (greater_lanes numbers at bound) i 0 ≡ max (get_or numbers (at + i) 0) bound
get_or-greater_lanes numbers at bound i room low =
    let loaded = length-chunk at 8 numbers room in
    selected ltb (chunk at 8 numbers) (replicate 8 bound) (replicate 8 bound) (chunk at 8 numbers) i loaded refl refl loaded low
    ∙ greater_of (get_or (chunk at 8 numbers) i 0) (get_or (replicate 8 bound) i 0)
    ∙ ap (λ x. max x (get_or (replicate 8 bound) i 0)) (get_or-chunk at 8 numbers i 0 low)
    ∙ ap (max (get_or numbers (at + i) 0)) (get_or-replicate 8 i bound 0 low)

-- a lane that was kept under a test is 1 exactly where it was and the test holds
pub one_where : (answer : Bool) (holds : Type 0) (lane kept : ℕ) → Decides answer holds → lane ≡ cond answer kept 0 → lane ≡ 1 ↔ (kept ≡ 1) × holds
one_where true holds lane kept told is = ((λ one. (sym is ∙ one, told.0 refl)), λ both. is ∙ both.0)
one_where false holds lane kept told is =
    ((λ one. absurd (omega arith)), λ both. let wrong = told.1 both.1 in cc)

-- a lane that tells whether the first p parts pass tells it of one more
pub kept_more : (holds : ℕ → Type 0) (p lane kept : ℕ) → lane ≡ 1 ↔ (kept ≡ 1) × holds p → kept ≡ 1 ↔ ((j : ℕ) → j < p → holds j)
    → lane ≡ 1 ↔ ((j : ℕ) → j < p + 1 → holds j)
kept_more holds p lane kept now was =
    ((λ one. below_more holds p (was.0 (now.0 one).0) (now.0 one).1), λ all. now.1 (was.1 (λ j low. all j (omega arith)), all p (omega arith)))

-- bit i of the mask is set exactly where lane i is 1
abbrev pub ones_mask : List ℕ → ℕ
ones_mask kept = mask_l (map (top 31) (zip2 (λ a b. cond (eqb a b) (2 ^ 32 - 1) 0) kept (replicate 8 1))) % 2 ^ 64

abbrev is_one : ℕ → Bool
is_one x = eqb x 1

-- the lowest bit of the mask is the first of the lanes that are 1
first_of_mask : (kept : List ℕ) → length kept ≡ 8
    → IsFirst (λ i. get_or kept i 0 ≡ 1) 8 (cond (eqb (ones_mask kept) 0) 8 (count_trailing_zeros 64 (ones_mask kept)))
first_of_mask kept eight =
    let same : ones_mask kept ≡ mask_l (map is_one kept) = bitmask_splat w32 eqb kept 8 1 eight (lit≤ tt) in
    let counted = ap (λ m. cond (eqb m 0) 8 (count_trailing_zeros 64 m)) same ∙ first_set_mask_l is_one kept 8 eight (lit≤ tt) in
    let first : IsFirst (λ i. get_or kept i 0 ≡ 1) 8 (prefix_len (λ x. not (is_one x)) kept) = record {
      bound = omega (arith, prefix_len-le-length (λ x. not (is_one x)) kept);
      before = λ i low one.
          true≢false (sym (prefix_len_passes (λ x. not (is_one x)) kept i 0 low) ∙ ap not ((Decides-eqb (get_or kept i 0) 1).1 one));
      at = λ short. (Decides-eqb (get_or kept (prefix_len (λ x. not (is_one x)) kept) 0) 1).0
          (not-false _ (prefix_len_stops (λ x. not (is_one x)) kept 0 (omega arith)));
    } in
    subst (IsFirst (λ i. get_or kept i 0 ≡ 1) 8) (sym counted) first

pub first_of_no_mask : (kept : List ℕ) → length kept ≡ 8 → ones_mask kept ≡ 0 → IsFirst (λ i. get_or kept i 0 ≡ 1) 8 8
first_of_no_mask kept eight none = subst (λ b. IsFirst (λ i. get_or kept i 0 ≡ 1) 8 (cond b 8 (count_trailing_zeros 64 (ones_mask kept))))
    ((Decides-eqb (ones_mask kept) 0).1 none) (first_of_mask kept eight)

pub first_of_some_mask : (kept : List ℕ) → length kept ≡ 8 → ones_mask kept ≢ 0
    → IsFirst (λ i. get_or kept i 0 ≡ 1) 8 (count_trailing_zeros 64 (ones_mask kept))
first_of_some_mask kept eight some = subst (λ b. IsFirst (λ i. get_or kept i 0 ≡ 1) 8 (cond b 8 (count_trailing_zeros 64 (ones_mask kept))))
    (not-true _ ((Decides-not (eqb (ones_mask kept) 0) (Decides-eqb (ones_mask kept) 0)).1 some)) (first_of_mask kept eight)
