-- The order of divisions is that of masks: the division at place m has on its left the members whose bit in m is set.
-- Bit i stands for the member at place i. The first member changes sides with each next mask, the others go by half the mask.
use Rattle.std.proofs.Common.{ℕ, zero, suc, ◌*◌, ◌/◌, ◌%◌, ◌^◌, ◌<◌, ◌≡◌, ◌≢◌, ◌⊎◌, inl, inr, List, [], ◌∷◌, ◌++◌, length, flat_map, refl, sym, ap, subst, ◌∙◌, Contains, arith, Bool, true, false, cond, eqb, Some}
use Rattle.std.specs.Prelude.{if◌then◌else◌, ◌↔◌}
use Rattle.std.specs.Int.{bit_at}
use Rattle.std.proofs.Math.Nat.{pow-suc, pow-succ', div-div-eq-div-mul}
use Rattle.std.proofs.lemmas.Bool.{eqb-false, ne_eqb}
use Rattle.std.proofs.lemmas.Bool.Decides.{Decides-eqb}
use Rattle.spectro_spec.proofs.Members.{Contains-first, Contains-later, Contains-cases, Contains-none}
use Rattle.spectro_game.specs.Divisions.{nothing, to_left, to_right, Division, both_ways, divisions}
use Rattle.spectro_game.specs.Reached.{StandsAt}
use Rattle.spectro_theory.specs.LawsOfPairs.{IsByMask, AreByMask}
use Rattle.spectro_theory.proofs.DivisionLists.{Divides}
use Rattle.spectro_theory.proofs.MinimalElements.{by_test}

-- whether the bit of the member at place i is set
abbrev pub has_bit : ℕ → ℕ → Bool
has_bit m i = eqb ((m / 2 ^ i) % 2) 1

-- the left part, or the right one
abbrev pub side : Bool → Division → List ℕ
side left d = if left then d.left else d.right

-- one more member before that side
abbrev pub with_member : ℕ → Bool → Division → Division
with_member q left d = if left then record d { left = q ∷ d.left } else record d { right = q ∷ d.right }

-- the division that the mask makes
unfoldable pub division_at : ℕ → List ℕ → Division
division_at m [] = record { left = []; right = [] }
division_at m (q ∷ qs) = with_member q (eqb (m % 2) 1) (division_at (m / 2) qs)

-- the division at place m is that of mask m
both_ways-place : (q : ℕ) (ds : List Division) (m : ℕ) (d : Division) → StandsAt ds (m / 2) d
    → StandsAt (flat_map (both_ways q) ds) m (with_member q (eqb (m % 2) 1) d)
both_ways-place q [] m d is = absurd (cc)
both_ways-place q (x ∷ ds) zero d is = cc
both_ways-place q (x ∷ ds) (suc zero) d is = cc
both_ways-place q (x ∷ ds) (suc (suc m)) d is =
    let half : suc (suc m) / 2 ≡ suc (m / 2) = omega arith in
    let bit : suc (suc m) % 2 ≡ m % 2 = omega arith in
    let later : StandsAt ds (m / 2) d = subst (λ k. StandsAt (x ∷ ds) k d) half is in
    subst (λ b. StandsAt (flat_map (both_ways q) ds) m (with_member q (eqb b 1) d)) (sym bit) (both_ways-place q ds m d later)

pub divisions-place : (qs : List ℕ) (m : ℕ) → m < 2 ^ length qs → StandsAt (divisions qs) m (division_at m qs)
unfolding division_at
divisions-place [] zero below = refl
divisions-place [] (suc m) below = absurd (omega arith)
divisions-place (q ∷ qs) m below = both_ways-place q (divisions qs) m (division_at (m / 2) qs)
    (divisions-place qs (m / 2) (omega (arith, pow-suc 2 (length qs))))

length-both_ways : (q : ℕ) (ds : List Division) → length (flat_map (both_ways q) ds) ≡ 2 * length ds
length-both_ways q [] = omega arith
length-both_ways q (d ∷ ds) = omega (arith, length-both_ways q ds)

length-divisions : (qs : List ℕ) → length (divisions qs) ≡ 2 ^ length qs
length-divisions [] = omega arith
length-divisions (q ∷ qs) = omega (arith, length-both_ways q (divisions qs), length-divisions qs, pow-suc 2 (length qs))

-- each mask makes a division, and each division is made by a mask
pub division_at-Divides : (m : ℕ) (qs : List ℕ) → Divides qs (division_at m qs)
unfolding division_at
division_at-Divides m [] = nothing
division_at-Divides m (q ∷ qs) = by_test (λ b. Divides (q ∷ qs) (with_member q b (division_at (m / 2) qs))) (eqb (m % 2) 1) (Decides-eqb (m % 2) 1)
    (λ _. to_left (division_at-Divides (m / 2) qs))
    (λ _. to_right (division_at-Divides (m / 2) qs))

-- bits of half a mask
has_bit-first : (m : ℕ) → has_bit m 0 ≡ eqb (m % 2) 1
has_bit-first m = ap (λ k. eqb (k % 2) 1) (let whole : m / 1 ≡ m = omega arith in whole)

has_bit-half : (m i : ℕ) → has_bit (m / 2) i ≡ has_bit m (suc i)
has_bit-half m i = ap (λ k. eqb (k % 2) 1) (div-div-eq-div-mul m 2 (2 ^ i) ∙ ap (λ k. m / k) (sym (pow-succ' 2 i)))

-- what stands on a side with one more member
side-first : (q : ℕ) (left : Bool) (d : Division) → Contains (side left (with_member q left d)) q
side-first q true d = Contains-first q d.left
side-first q false d = Contains-first q d.right

side-later : (x : ℕ) (to left : Bool) (d : Division) (q : ℕ) → Contains (side left d) q → Contains (side left (with_member x to d)) q
side-later x true true d q member = Contains-later x d.left q member
side-later x true false d q member = member
side-later x false true d q member = member
side-later x false false d q member = Contains-later x d.right q member

side-cases : (x : ℕ) (to left : Bool) (d : Division) (q : ℕ) → Contains (side left (with_member x to d)) q → ((x ≡ q) × (to ≡ left)) ⊎ Contains (side left d) q
side-cases x true true d q member = elim (Contains-cases x d.left q member) [ inl is ↦ inl (is, refl) | inr later ↦ inr later ]
side-cases x true false d q member = inr member
side-cases x false true d q member = inr member
side-cases x false false d q member = elim (Contains-cases x d.right q member) [ inl is ↦ inl (is, refl) | inr later ↦ inr later ]

-- each member is on the side that its bit says
member-side : (m : ℕ) (qs : List ℕ) (i q : ℕ) → StandsAt qs i q → Contains (side (has_bit m i) (division_at m qs)) q
unfolding division_at
member-side m [] i q is = absurd (cc)
member-side m (x ∷ qs) zero q is =
    subst (λ b. Contains (side b (with_member x (eqb (m % 2) 1) (division_at (m / 2) qs))) q) (sym (has_bit-first m))
    (subst (λ y. Contains (side (eqb (m % 2) 1) (with_member x (eqb (m % 2) 1) (division_at (m / 2) qs))) y) (let here : x ≡ q = cc in here)
    (side-first x (eqb (m % 2) 1) (division_at (m / 2) qs)))
member-side m (x ∷ qs) (suc i) q is =
    subst (λ b. Contains (side b (with_member x (eqb (m % 2) 1) (division_at (m / 2) qs))) q) (has_bit-half m i)
    (side-later x (eqb (m % 2) 1) (has_bit (m / 2) i) (division_at (m / 2) qs) q (member-side (m / 2) qs i q is))

-- what is on a side is a member whose bit says so
side-member : (m : ℕ) (qs : List ℕ) (left : Bool) (q : ℕ) → Contains (side left (division_at m qs)) q → (i : ℕ) × StandsAt qs i q × (has_bit m i ≡ left)
unfolding division_at
side-member m [] true q member = absurd (Contains-none q member)
side-member m [] false q member = absurd (Contains-none q member)
side-member m (x ∷ qs) left q member = elim (side-cases x (eqb (m % 2) 1) left (division_at (m / 2) qs) q member) [
  | inl first ↦ (0, ap Some first.0, has_bit-first m ∙ first.1)
  | inr later ↦ let found = side-member (m / 2) qs left q later in (suc found.0, found.1, sym (has_bit-half m found.0) ∙ found.2)
]

-- the bit as a number
bit-set : (m i : ℕ) → has_bit m i ≡ true ↔ bit_at m i ≡ 1
bit-set m i = Decides-eqb (bit_at m i) 1

bit-clear : (m i : ℕ) → has_bit m i ≡ false ↔ bit_at m i ≡ 0
bit-clear m i = (
  (λ none. let other : bit_at m i ≢ 1 = eqb-false (bit_at m i) 1 none in omega arith),
  λ zero. ne_eqb (bit_at m i) 1 (λ one. omega arith),
)

division_at-IsByMask : (qs : List ℕ) (mask : ℕ) → IsByMask qs mask (division_at mask qs)
division_at-IsByMask qs mask = record {
  divided = division_at-Divides mask qs;
  left = λ q. (
    (λ member. let found = side-member mask qs true q member in (found.0, found.1, (bit-set mask found.0).0 found.2)),
    (λ (i, here, set). subst (λ b. Contains (side b (division_at mask qs)) q) ((bit-set mask i).1 set) (member-side mask qs i q here)),
  );
  right = λ q. (
    (λ member. let found = side-member mask qs false q member in (found.0, found.1, (bit-clear mask found.0).0 found.2)),
    (λ (i, here, clear). subst (λ b. Contains (side b (division_at mask qs)) q) ((bit-clear mask i).1 clear) (member-side mask qs i q here)),
  );
}

pub divisions-AreByMask : (qs : List ℕ) → AreByMask qs (divisions qs)
divisions-AreByMask qs = record {
  count = length-divisions qs;
  place = λ mask below.
      (division_at mask qs, divisions-place qs mask below, division_at-IsByMask qs mask);
}

-- ---- the left part member by member
left-with_member : (q : ℕ) (left : Bool) (d e : Division) (more : List ℕ) → d.left ≡ e.left ++ more
    → (with_member q left d).left ≡ (with_member q left e).left ++ more
left-with_member q true d e more is = ap (λ l. q ∷ l) is
left-with_member q false d e more is = is

left-alone : (q : ℕ) (left : Bool) → (with_member q left (record { left = []; right = [] })).left ≡ cond left (q ∷ []) []
left-alone q true = refl
left-alone q false = refl

pub left-none : (m : ℕ) → (division_at m []).left ≡ []
unfolding division_at
left-none m = refl

-- one member more is taken where its bit is set
pub left-more : (m : ℕ) (qs : List ℕ) (q : ℕ) → (division_at m (qs ++ q ∷ [])).left ≡ (division_at m qs).left ++ cond (has_bit m (length qs)) (q ∷ []) []
unfolding division_at
left-more m [] q = left-alone q (eqb (m % 2) 1) ∙ ap (λ b. cond b (q ∷ []) []) (sym (has_bit-first m))
left-more m (x ∷ qs) q =
    left-with_member x (eqb (m % 2) 1) (division_at (m / 2) (qs ++ q ∷ [])) (division_at (m / 2) qs) (cond (has_bit m (suc (length qs))) (q ∷ []) [])
    (left-more (m / 2) qs q ∙ ap (λ b. (division_at (m / 2) qs).left ++ cond b (q ∷ []) []) (has_bit-half m (length qs)))
