-- The submasks of a mask, in rising order, are the subsets of what the mask takes of a set, in the order of their own masks.
use Rattle.std.proofs.Common.{ℕ, zero, suc, ◌+◌, ◌-◌, ◌*◌, ◌/◌, ◌%◌, ◌^◌, ◌<◌, ◌≤◌, ◌≡◌, List, [], ◌∷◌, ◌++◌, get_or, length, refl, sym, ap, ◌∙◌, subst, arith, Bool, true, false, cond, eqb, bit_and, min, inl, inr}
use Rattle.std.proofs.Math.Nat.{pow-suc, pow-le-pow_right}
use Rattle.std.proofs.lemmas.Bool.{cases_eq, eqb-true, eqb-false}
use Rattle.std.proofs.lemmas.Nat.Bits.{bit_at-suc, bit_at_and, bit_at_lowest, same_from_bits}
use Rattle.std.proofs.lemmas.Nat.{and_le_r}
use Rattle.std.specs.Int.Bits.{and_zero_r}
use Rattle.std.proofs.lemmas.Option.{get_or_from_slice_get}
use Rattle.spectro_game.specs.Divisions.{Division, divisions}
use Rattle.spectro_theory.proofs.Masks.{division_at, divisions-place, with_member}
use Rattle.spectro_pairs.specs.Lattices.{numbers_to, submask}
use Rattle.spectro_pairs.specs.Subsets.{IsSubsetAt, subset_at}

-- ---- what two numbers share, bit by bit
and-half : (a b : ℕ) → bit_and a b / 2 ≡ bit_and (a / 2) (b / 2)
and-half a b =
    same_from_bits (bit_and a b / 2) (bit_and (a / 2) (b / 2))
    (λ i. sym (bit_at-suc (bit_and a b) i) ∙ bit_at_and a b (suc i) ∙ (λ j. min (bit_at-suc a i j) (bit_at-suc b i j)) ∙ sym (bit_at_and (a / 2) (b / 2) i))

and-low : (a b : ℕ) → bit_and a b % 2 ≡ min (a % 2) (b % 2)
and-low a b = sym (bit_at_lowest (bit_and a b)) ∙ bit_at_and a b 0 ∙ (λ j. min (bit_at_lowest a j) (bit_at_lowest b j))

-- ---- a mask within what a mask takes, as a mask of the whole
spread : List ℕ → ℕ → ℕ → ℕ
spread [] mask i = 0
spread (q ∷ qs) mask i = cond (eqb (mask % 2) 1) (i % 2 + 2 * spread qs (mask / 2) (i / 2)) (2 * spread qs (mask / 2) i)

spread-set : (q : ℕ) (qs : List ℕ) (mask i : ℕ) → eqb (mask % 2) 1 ≡ true → spread (q ∷ qs) mask i ≡ i % 2 + 2 * spread qs (mask / 2) (i / 2)
unfolding spread
spread-set q qs mask i set = ap (λ b. cond b (i % 2 + 2 * spread qs (mask / 2) (i / 2)) (2 * spread qs (mask / 2) i)) set

spread-clear : (q : ℕ) (qs : List ℕ) (mask i : ℕ) → eqb (mask % 2) 1 ≡ false → spread (q ∷ qs) mask i ≡ 2 * spread qs (mask / 2) i
unfolding spread
spread-clear q qs mask i clear = ap (λ b. cond b (i % 2 + 2 * spread qs (mask / 2) (i / 2)) (2 * spread qs (mask / 2) i)) clear

spread-none : (qs : List ℕ) (mask : ℕ) → spread qs mask 0 ≡ 0
unfolding spread
spread-none [] mask = refl
spread-none (q ∷ qs) mask = go (spread-none qs (mask / 2)) (eqb (mask % 2) 1) refl
  where
    go : spread qs (mask / 2) 0 ≡ 0 → (b : Bool) → eqb (mask % 2) 1 ≡ b → spread (q ∷ qs) mask 0 ≡ 0
    go rest true set =
        let none : 0 / 2 ≡ 0 = omega arith in
        omega (arith, spread-set q qs mask 0 set, ap (spread qs (mask / 2)) none, rest)
    go rest false clear = omega (arith, spread-clear q qs mask 0 clear, rest)

-- the same on the left, then one member more or not
left-same : (q : ℕ) (a b : Bool) (d e : Division) → a ≡ b → d.left ≡ e.left → (with_member q a d).left ≡ (with_member q b e).left
left-same q true true d e same left = ap (λ l. q ∷ l) left
left-same q true false d e same left = cc
left-same q false true d e same left = cc
left-same q false false d e same left = left

spread-part : (qs : List ℕ) (mask i : ℕ) → (division_at (spread qs mask i) qs).left ≡ (division_at i (division_at mask qs).left).left
unfolding division_at
spread-part [] mask i = refl
spread-part (q ∷ qs) mask i = go (spread-part qs (mask / 2) (i / 2)) (spread-part qs (mask / 2) i) (eqb (mask % 2) 1) refl
  where
    go : (division_at (spread qs (mask / 2) (i / 2)) qs).left ≡ (division_at (i / 2) (division_at (mask / 2) qs).left).left
        → (division_at (spread qs (mask / 2) i) qs).left ≡ (division_at i (division_at (mask / 2) qs).left).left
        → (b : Bool) → eqb (mask % 2) 1 ≡ b → (division_at (spread (q ∷ qs) mask i) (q ∷ qs)).left ≡ (division_at i
        (with_member q b (division_at (mask / 2) qs)).left).left
    go halved same true set =
        let is : spread (q ∷ qs) mask i ≡ i % 2 + 2 * spread qs (mask / 2) (i / 2) = spread-set q qs mask i set in
        let bit : spread (q ∷ qs) mask i % 2 ≡ i % 2 = omega arith in
        let half : spread (q ∷ qs) mask i / 2 ≡ spread qs (mask / 2) (i / 2) = omega arith in
        left-same q (eqb (spread (q ∷ qs) mask i % 2) 1) (eqb (i % 2) 1) (division_at (spread (q ∷ qs) mask i / 2) qs)
        (division_at (i / 2) (division_at (mask / 2) qs).left) (ap (λ n. eqb n 1) bit)
        (ap (λ n. (division_at n qs).left) half ∙ halved)
    go halved same false clear =
        let is : spread (q ∷ qs) mask i ≡ 2 * spread qs (mask / 2) i = spread-clear q qs mask i clear in
        let bit : spread (q ∷ qs) mask i % 2 ≡ 0 = omega arith in
        let half : spread (q ∷ qs) mask i / 2 ≡ spread qs (mask / 2) i = omega arith in
        ap (λ n. (with_member q (eqb n 1) (division_at (spread (q ∷ qs) mask i / 2) qs)).left) bit ∙ ap (λ n. (division_at n qs).left) half
        ∙ same

-- ---- the next one: what is not in the mask is filled with ones, so that one more carries through it
module _ where
  -- the rest of the mask within so many bits, and half of it
  halves : (w rest mask : ℕ) → rest + mask + 1 ≡ 2 ^ suc w → (rest / 2 + mask / 2 + 1 ≡ 2 ^ w) × (rest % 2 + mask % 2 ≡ 1)
  halves w rest mask is =
      let whole : rest + mask + 1 ≡ 2 ^ w * 2 = is ∙ pow-suc 2 w in
      (omega arith, omega arith)

  joined : (n half bit : ℕ) → n / 2 ≡ half → n % 2 ≡ bit → n ≡ bit + 2 * half
  joined n half bit first second = omega arith

  and-spread : (qs : List ℕ) (w mask rest i : ℕ) → mask < 2 ^ length qs → length qs ≤ w → rest + mask + 1 ≡ 2 ^ w
      → bit_and (spread qs mask i + rest) mask ≡ spread qs mask i
  unfolding spread
  and-spread [] w mask rest i below within is =
      let none : mask ≡ 0 = omega arith in
      subst (λ m. bit_and (0 + rest) m ≡ 0) (sym none) (and_zero_r (0 + rest))
  and-spread (q ∷ qs) zero mask rest i below within is = absurd (omega arith)
  and-spread (q ∷ qs) (suc w) mask rest i below within is =
      go (λ j. and-spread qs w (mask / 2) (rest / 2) j (omega (arith, pow-suc 2 (length qs))) (omega arith) (halves w rest mask is).0)
      (eqb (mask % 2) 1) refl
    where
      go : ((j : ℕ) → bit_and (spread qs (mask / 2) j + rest / 2) (mask / 2) ≡ spread qs (mask / 2) j) → (b : Bool)
          → eqb (mask % 2) 1 ≡ b → bit_and (spread (q ∷ qs) mask i + rest) mask ≡ spread (q ∷ qs) mask i
      go rests true set =
          let bit : mask % 2 ≡ 1 = eqb-true (mask % 2) 1 set in
          let parts = halves w rest mask is in
          let s = spread (q ∷ qs) mask i in
          let t = spread qs (mask / 2) (i / 2) in
          let e : s ≡ i % 2 + 2 * t = spread-set q qs mask i set in
          let clear : rest % 2 ≡ 0 = omega (arith, parts.1) in
          let half : (s + rest) / 2 ≡ t + rest / 2 = omega arith in
          let low : (s + rest) % 2 ≡ i % 2 = omega arith in
          let upper : bit_and (s + rest) mask / 2 ≡ t = and-half (s + rest) mask ∙ ap (λ n. bit_and n (mask / 2)) half
          ∙ rests (i / 2) in
          let lower : bit_and (s + rest) mask % 2 ≡ i % 2 = and-low (s + rest) mask ∙ omega arith in
          joined (bit_and (s + rest) mask) t (i % 2) upper lower ∙ sym e
      go rests false none =
          let bit : mask % 2 ≡ 0 = omega (arith, eqb-false (mask % 2) 1 none) in
          let parts = halves w rest mask is in
          let s = spread (q ∷ qs) mask i in
          let t = spread qs (mask / 2) i in
          let e : s ≡ 2 * t = spread-clear q qs mask i none in
          let half : (s + rest) / 2 ≡ t + rest / 2 = omega arith in
          let upper : bit_and (s + rest) mask / 2 ≡ t = and-half (s + rest) mask ∙ ap (λ n. bit_and n (mask / 2)) half
          ∙ rests i in
          let lower : bit_and (s + rest) mask % 2 ≡ 0 = and-low (s + rest) mask ∙ omega arith in
          let whole : bit_and (s + rest) mask ≡ 0 + 2 * t = joined (bit_and (s + rest) mask) t 0 upper lower in
          omega (arith, whole, e)

  and-next : (qs : List ℕ) (w mask rest i : ℕ) → mask < 2 ^ length qs → length qs ≤ w → rest + mask + 1 ≡ 2 ^ w
      → bit_and (spread qs mask i + rest + 1) mask ≡ spread qs mask (i + 1)
  unfolding spread
  and-next [] w mask rest i below within is =
      let none : mask ≡ 0 = omega arith in
      subst (λ m. bit_and (0 + rest + 1) m ≡ 0) (sym none) (and_zero_r (0 + rest + 1))
  and-next (q ∷ qs) zero mask rest i below within is = absurd (omega arith)
  and-next (q ∷ qs) (suc w) mask rest i below within is =
      go (λ j. and-next qs w (mask / 2) (rest / 2) j (omega (arith, pow-suc 2 (length qs))) (omega arith) (halves w rest mask is).0)
      (λ j. and-spread qs w (mask / 2) (rest / 2) j (omega (arith, pow-suc 2 (length qs))) (omega arith) (halves w rest mask is).0)
      (eqb (mask % 2) 1) refl (eqb (i % 2) 1) refl
    where
      go : ((j : ℕ) → bit_and (spread qs (mask / 2) j + rest / 2 + 1) (mask / 2) ≡ spread qs (mask / 2) (j + 1))
          → ((j : ℕ) → bit_and (spread qs (mask / 2) j + rest / 2) (mask / 2) ≡ spread qs (mask / 2) j) → (b : Bool)
          → eqb (mask % 2) 1 ≡ b → (odd : Bool) → eqb (i % 2) 1 ≡ odd
          → bit_and (spread (q ∷ qs) mask i + rest + 1) mask ≡ spread (q ∷ qs) mask (i + 1)
      go nexts rests true set true odd =
          let bit : mask % 2 ≡ 1 = eqb-true (mask % 2) 1 set in
          let one : i % 2 ≡ 1 = eqb-true (i % 2) 1 odd in
          let parts = halves w rest mask is in
          let s = spread (q ∷ qs) mask i in
          let t = spread qs (mask / 2) (i / 2) in
          let u = spread qs (mask / 2) (i / 2 + 1) in
          let e : s ≡ i % 2 + 2 * t = spread-set q qs mask i set in
          let clear : rest % 2 ≡ 0 = omega (arith, parts.1) in
          let half : (s + rest + 1) / 2 ≡ t + rest / 2 + 1 = omega arith in
          let low : (s + rest + 1) % 2 ≡ 0 = omega arith in
          let upper : bit_and (s + rest + 1) mask / 2 ≡ u = and-half (s + rest + 1) mask ∙ ap (λ n. bit_and n (mask / 2)) half
          ∙ nexts (i / 2) in
          let lower : bit_and (s + rest + 1) mask % 2 ≡ 0 = and-low (s + rest + 1) mask ∙ omega arith in
          let whole = joined (bit_and (s + rest + 1) mask) u 0 upper lower in
          let next_half : (i + 1) / 2 ≡ i / 2 + 1 = omega arith in
          let f : spread (q ∷ qs) mask (i + 1) ≡ (i + 1) % 2 + 2 * u = spread-set q qs mask (i + 1) set
          ∙ ap (λ n. (i + 1) % 2 + 2 * spread qs (mask / 2) n) next_half in
          omega (arith, whole, f)
      go nexts rests true set false even =
          let bit : mask % 2 ≡ 1 = eqb-true (mask % 2) 1 set in
          let zero_bit : i % 2 ≡ 0 = omega (arith, eqb-false (i % 2) 1 even) in
          let parts = halves w rest mask is in
          let s = spread (q ∷ qs) mask i in
          let t = spread qs (mask / 2) (i / 2) in
          let e : s ≡ i % 2 + 2 * t = spread-set q qs mask i set in
          let clear : rest % 2 ≡ 0 = omega (arith, parts.1) in
          let half : (s + rest + 1) / 2 ≡ t + rest / 2 = omega arith in
          let low : (s + rest + 1) % 2 ≡ 1 = omega arith in
          let upper : bit_and (s + rest + 1) mask / 2 ≡ t = and-half (s + rest + 1) mask ∙ ap (λ n. bit_and n (mask / 2)) half
          ∙ rests (i / 2) in
          let lower : bit_and (s + rest + 1) mask % 2 ≡ 1 = and-low (s + rest + 1) mask ∙ omega arith in
          let whole = joined (bit_and (s + rest + 1) mask) t 1 upper lower in
          let same_half : (i + 1) / 2 ≡ i / 2 = omega arith in
          let f : spread (q ∷ qs) mask (i + 1) ≡ (i + 1) % 2 + 2 * t = spread-set q qs mask (i + 1) set
          ∙ ap (λ n. (i + 1) % 2 + 2 * spread qs (mask / 2) n) same_half in
          omega (arith, whole, f)
      go nexts rests false none odd is_odd =
          let bit : mask % 2 ≡ 0 = omega (arith, eqb-false (mask % 2) 1 none) in
          let parts = halves w rest mask is in
          let s = spread (q ∷ qs) mask i in
          let t = spread qs (mask / 2) i in
          let u = spread qs (mask / 2) (i + 1) in
          let e : s ≡ 2 * t = spread-clear q qs mask i none in
          let half : (s + rest + 1) / 2 ≡ t + rest / 2 + 1 = omega arith in
          let upper : bit_and (s + rest + 1) mask / 2 ≡ u = and-half (s + rest + 1) mask ∙ ap (λ n. bit_and n (mask / 2)) half
          ∙ nexts i in
          let lower : bit_and (s + rest + 1) mask % 2 ≡ 0 = and-low (s + rest + 1) mask ∙ omega arith in
          let whole = joined (bit_and (s + rest + 1) mask) u 0 upper lower in
          omega (arith, whole, spread-clear q qs mask (i + 1) none)

-- the submask i is mask i of what the mask takes
submask-spread : (qs : List ℕ) (mask i : ℕ) → mask < 2 ^ length qs → length qs ≤ 19 → submask mask i ≡ spread qs mask i
unfolding submask
submask-spread qs mask zero below few = sym (spread-none qs mask)
submask-spread qs mask (suc i) below few =
    let power : 2 ^ length qs ≤ 2 ^ 19 = pow-le-pow_right {n = 2} (omega arith) few in
    let numeral : 2 ^ 19 ≡ 524288 = refl in
    let rest : 524287 - mask + mask + 1 ≡ 2 ^ 19 = omega arith in
    let next : i + 1 ≡ suc i = omega arith in
    ap (λ s. bit_and (s + (524287 - mask) + 1) mask) (submask-spread qs mask i below few)
    ∙ and-next qs 19 mask (524287 - mask) i below few rest ∙ ap (spread qs mask) next

pub submask-part : (qs : List ℕ) (mask i : ℕ) → mask < 2 ^ length qs → length qs ≤ 19
    → (division_at (submask mask i) qs).left ≡ (division_at i (division_at mask qs).left).left
submask-part qs mask i below few = ap (λ n. (division_at n qs).left) (submask-spread qs mask i below few) ∙ spread-part qs mask i

pub submask-within : (mask i : ℕ) → submask mask i ≤ mask
unfolding submask
submask-within mask zero = omega arith
submask-within mask (suc i) = and_le_r (submask mask i + (524287 - mask) + 1) mask

-- ---- subsets by their masks
pub subset_at-division : (set : List ℕ) (mask : ℕ) → mask < 2 ^ length set → subset_at set mask ≡ (division_at mask set).left
unfolding subset_at
subset_at-division set mask below =
    ap (λ (d : Division). d.left)
    (get_or_from_slice_get (divisions set) mask (division_at mask set) (record { left = []; right = [] }) (divisions-place set mask below))

pub subset_at-taken : (set : List ℕ) (mask : ℕ) (members : List ℕ) → IsSubsetAt set mask members → members ≡ subset_at set mask
unfolding subset_at
subset_at-taken set mask members (division, here, is) =
    sym is ∙ ap (λ (d : Division). d.left) (sym (get_or_from_slice_get (divisions set) mask division (record { left = []; right = [] }) here))

-- a mask that takes some of what a mask takes is no empty one of the whole
spread-some : (qs : List ℕ) (mask i : ℕ) → 1 ≤ i → i < 2 ^ length (division_at mask qs).left → 1 ≤ spread qs mask i
unfolding spread division_at
spread-some [] mask i some below = absurd (omega arith)
spread-some (q ∷ qs) mask i some below = go (λ j. spread-some qs (mask / 2) j) (eqb (mask % 2) 1) refl below
  where
    go : ((j : ℕ) → 1 ≤ j → j < 2 ^ length (division_at (mask / 2) qs).left → 1 ≤ spread qs (mask / 2) j) → (b : Bool) → eqb (mask % 2) 1 ≡ b
        → i < 2 ^ length (with_member q b (division_at (mask / 2) qs)).left → 1 ≤ spread (q ∷ qs) mask i
    go later true set below = elim (cases_eq (i % 2) 1) [
      | inl odd ↦ omega (arith, spread-set q qs mask i set, odd)
      | inr even ↦
          let half = later (i / 2) (omega (arith, even)) (omega (arith, below, pow-suc 2 (length (division_at (mask / 2) qs).left))) in
          omega (arith, spread-set q qs mask i set, half)
    ]
    go later false clear below = omega (arith, spread-clear q qs mask i clear, later i some below)

-- subset i of the subset of a mask is that of its submask i
pub subset_at-submask : (set : List ℕ) (mask i : ℕ) → length set ≤ 19 → mask < 2 ^ length set → i < 2 ^ length (subset_at set mask)
    → subset_at set (submask mask i) ≡ subset_at (subset_at set mask) i
subset_at-submask set mask i few below within =
    let is = subset_at-division set mask below in
    let inside : i < 2 ^ length (division_at mask set).left = subst (λ l. i < 2 ^ length l) is within in
    subset_at-division set (submask mask i) (omega (arith, below, submask-within mask i))
    ∙ submask-part set mask i below few ∙ sym (subset_at-division (division_at mask set).left i inside) ∙ ap (λ l. subset_at l i) (sym is)

pub submask-some : (set : List ℕ) (mask i : ℕ) → length set ≤ 19 → mask < 2 ^ length set → 1 ≤ i → i < 2 ^ length (subset_at set mask) → 1 ≤ submask mask i
submask-some set mask i few below some within =
    let inside : i < 2 ^ length (division_at mask set).left = subst (λ l. i < 2 ^ length l) (subset_at-division set mask below) within in
    omega (arith, submask-spread set mask i below few, spread-some set mask i some inside)

pub submask-next : (mask i : ℕ) → 1 ≤ i → bit_and (submask mask (i - 1) + (524287 - mask) + 1) mask ≡ submask mask i
unfolding submask
submask-next mask zero some = absurd (omega arith)
submask-next mask (suc i) some =
    let e : suc i - 1 ≡ i = omega arith in
    ap (λ j. bit_and (submask mask j + (524287 - mask) + 1) mask) e

pub submask-first : (mask : ℕ) → submask mask 0 ≡ 0
unfolding submask
submask-first mask = refl

-- one number more
pub numbers-more : (table : List ℕ) (mask n : ℕ) → numbers_to table mask (n + 1) ≡ numbers_to table mask n ++ get_or table (submask mask (n + 1)) 0 ∷ []
unfolding numbers_to
numbers-more table mask n =
    let e : suc n ≡ n + 1 = omega arith in
    subst (λ j. numbers_to table mask j ≡ numbers_to table mask n ++ get_or table (submask mask j) 0 ∷ []) e refl
