-- The two orders of prices, and lists of prices.
use Rattle.std.proofs.Common.{◌≡◌, inl, inr, List, [], ◌∷◌, refl, ap, arith, rules}
use Rattle.spectro_spec.specs.Price.{Price, IsAtMost, ComesBefore, parts}
use Rattle.spectro_spec.specs.LeastPrices.{Covers, Rises, AreApart}
use Rattle.spectro_spec.proofs.Members.{any_member, only_member, Contains-none, Contains-first}
use Rattle.spectro_spec.proofs.Samples.{seven, six}

parts-in_order : parts (seven 1 2 3 4 5 6 7) ≡ 1 ∷ 2 ∷ 3 ∷ 4 ∷ 5 ∷ 6 ∷ 7 ∷ []
parts-in_order = refl

IsAtMost-itself : IsAtMost (seven 1 2 3 4 5 6 7) (seven 1 2 3 4 5 6 7)
IsAtMost-itself = search rules

IsAtMost-two_greater_parts : IsAtMost (six 2 2 0 0 1 1) (six 2 3 0 0 1 2)
IsAtMost-two_greater_parts = search rules

-- each part counts
not_IsAtMost-observations : ¬ IsAtMost (seven 2 2 3 4 5 6 7) (seven 1 2 3 4 5 6 7)
not_IsAtMost-observations h = omega arith

not_IsAtMost-conjunctions : ¬ IsAtMost (seven 1 3 3 4 5 6 7) (seven 1 2 3 4 5 6 7)
not_IsAtMost-conjunctions h = omega arith

not_IsAtMost-deepest_positive : ¬ IsAtMost (seven 1 2 4 4 5 6 7) (seven 1 2 3 4 5 6 7)
not_IsAtMost-deepest_positive h = omega arith

not_IsAtMost-other_positive : ¬ IsAtMost (seven 1 2 3 5 5 6 7) (seven 1 2 3 4 5 6 7)
not_IsAtMost-other_positive h = omega arith

not_IsAtMost-deepest_negative : ¬ IsAtMost (seven 1 2 3 4 6 6 7) (seven 1 2 3 4 5 6 7)
not_IsAtMost-deepest_negative h = omega arith

not_IsAtMost-negations : ¬ IsAtMost (seven 1 2 3 4 5 7 7) (seven 1 2 3 4 5 6 7)
not_IsAtMost-negations h = omega arith

not_IsAtMost-weighted_depth : ¬ IsAtMost (seven 1 2 3 4 5 6 8) (seven 1 2 3 4 5 6 7)
not_IsAtMost-weighted_depth h = omega arith

ComesBefore-first_part : ComesBefore (seven 0 9 9 9 9 9 9) (seven 1 0 0 0 0 0 0)
ComesBefore-first_part = inl (omega arith)

ComesBefore-last_part : ComesBefore (seven 1 2 3 4 5 6 7) (seven 1 2 3 4 5 6 8)
ComesBefore-last_part = inr (refl, inr (refl, inr (refl, inr (refl, inr (refl, inr (refl, inl (omega arith)))))))

not_ComesBefore-itself : ¬ ComesBefore (seven 1 2 3 4 5 6 7) (seven 1 2 3 4 5 6 7)
not_ComesBefore-itself h = grind arith

-- the first part that differs decides, not a later one
not_ComesBefore-later_part : ¬ ComesBefore (seven 1 1 0 0 0 0 0) (seven 1 0 9 9 9 9 9)
not_ComesBefore-later_part h = grind arith

Covers-least : Covers (six 1 2 0 0 1 1 ∷ six 2 2 1 1 0 0 ∷ []) (six 2 2 2 1 0 0)
Covers-least = (six 2 2 1 1 0 0, (1, omega arith, refl), search rules)

not_Covers-none : ¬ Covers [] (six 9 9 9 9 9 9)
not_Covers-none (e, member, h) = Contains-none e member

-- each has a part that is too great
not_Covers-two : ¬ Covers (six 1 2 0 0 1 1 ∷ six 2 2 1 1 0 0 ∷ []) (six 1 2 1 1 0 0)
not_Covers-two (e, member, h) = any_member (λ f. ¬ IsAtMost f (six 1 2 1 1 0 0)) (six 1 2 0 0 1 1 ∷ six 2 2 1 1 0 0 ∷ []) e
    ((λ g. omega arith), ((λ g. omega arith), tt)) member h

-- the least prices from the late choice to the early one, in their order
abbrev two : List Price
two = six 2 2 1 1 0 0 ∷ six 2 3 0 0 1 2 ∷ []

Rises-two : Rises two
Rises-two = (
  (λ f member. only_member (λ g. ComesBefore (six 2 2 1 1 0 0) g) (six 2 3 0 0 1 2) f (inr (refl, inl (omega arith))) member),
  ((λ f member. absurd (Contains-none f member)), tt),
)

not_Rises-repeat : ¬ Rises (six 1 1 0 0 0 0 ∷ six 1 1 0 0 0 0 ∷ [])
not_Rises-repeat (first, rest) = let h : ComesBefore (six 1 1 0 0 0 0) (six 1 1 0 0 0 0) = first (six 1 1 0 0 0 0) (Contains-first _ []) in grind arith

-- each member comes before the later ones, not the first alone
not_Rises-third : ¬ Rises (six 2 1 0 0 0 0 ∷ six 3 1 0 0 0 0 ∷ six 1 1 0 0 0 0 ∷ [])
not_Rises-third (first, (second, rest)) = let h : ComesBefore (six 3 1 0 0 0 0) (six 1 1 0 0 0 0) = second (six 1 1 0 0 0 0)
    (Contains-first _ []) in grind arith

AreApart-two : AreApart two
AreApart-two e f e_member f_member h =
    any_member (λ g. IsAtMost g f → g ≡ f) two e (
      (λ i. any_member (λ g. IsAtMost (six 2 2 1 1 0 0) g → six 2 2 1 1 0 0 ≡ g) two f ((λ j. refl), ((λ j. absurd (omega arith)), tt)) f_member i),
      ((λ i. any_member (λ g. IsAtMost (six 2 3 0 0 1 2) g → six 2 3 0 0 1 2 ≡ g) two f ((λ j. absurd (omega arith)), ((λ j. refl), tt)) f_member i), tt),
    ) e_member h

-- the one is at most the other in each part
not_AreApart-greater : ¬ AreApart (six 1 1 0 0 0 0 ∷ six 2 1 0 0 0 0 ∷ [])
not_AreApart-greater apart =
    let same : six 1 1 0 0 0 0 ≡ six 2 1 0 0 0 0 = apart _ _ (0, omega arith, refl) (1, omega arith, refl) (search rules) in
    omega (arith, ap (λ (e : Price). e.observations) same)
