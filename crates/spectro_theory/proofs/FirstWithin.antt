-- The first least price within a bound is shown: it is that of a distinguishing formula, which no other undercuts, and none
-- within the bound comes before it.
use Rattle.std.proofs.Common.{inl, inr, ℕ, ◌≤◌, List, [], ◌∷◌, ◌++◌, Contains, sym, subst, arith}
use Rattle.std.proofs.lemmas.Bool.{cases_lt}
use Rattle.std.proofs.lemmas.List.Elements.{Contains-append_right, Contains-append_cases}
use Rattle.spectro_spec.specs.System.{System}
use Rattle.spectro_spec.specs.Weighing.{Weighing}
use Rattle.spectro_spec.specs.Price.{Price, IsAtMost, parts, IsFirstSmaller, ComesBefore}
use Rattle.spectro_spec.specs.Pricing.{price}
use Rattle.spectro_spec.specs.Notion.{Bound, IsWithin}
use Rattle.spectro_spec.specs.LeastPrices.{Rises, AreLeastPrices}
use Rattle.spectro_spec.proofs.Members.{Contains-first, Contains-cases}
use Rattle.spectro_theory.specs.LawsOfNotions.{IsFirstWithin, IsShown}
use Rattle.spectro_spec.proofs.FirstSmaller.{IsFirstSmaller-irrefl, IsFirstSmaller-trans}
use Rattle.spectro_theory.proofs.Readings.{IsWithin-smaller}
use Rattle.spectro_theory.proofs.Exactness.{price-reached}

-- as many numbers, each at most the other one
abbrev AreUpTo : List ℕ → List ℕ → Type 0
AreUpTo [] [] = Unit {0}
AreUpTo [] (m ∷ ms) = ⊥
AreUpTo (n ∷ ns) [] = ⊥
AreUpTo (n ∷ ns) (m ∷ ms) = (n ≤ m) × AreUpTo ns ms

-- what is at most another one comes before all that that one comes before
IsFirstSmaller-below : (ls ms ns : List ℕ) → AreUpTo ls ms → IsFirstSmaller ms ns → IsFirstSmaller ls ns
IsFirstSmaller-below ls [] ns low h = absurd h
IsFirstSmaller-below ls (m ∷ ms) [] low h = absurd h
IsFirstSmaller-below [] (m ∷ ms) (n ∷ ns) low h = absurd low
IsFirstSmaller-below (l ∷ ls) (m ∷ ms) (n ∷ ns) low (inl less) = inl (omega (arith, low.0))
IsFirstSmaller-below (l ∷ ls) (m ∷ ms) (n ∷ ns) low (inr later) = elim (cases_lt l n) [
  | inl less ↦ inl less
  | inr most ↦ inr (omega (arith, low.0, later.0), IsFirstSmaller-below ls ms ns low.1 later.1)
]

ComesBefore-below : (e f g : Price) → IsAtMost e f → ComesBefore f g → ComesBefore e g
ComesBefore-below e f g low = IsFirstSmaller-below (parts e) (parts f) (parts g)
    (low.observations, (low.conjunctions, (low.deepest_positive, (low.other_positive, (low.deepest_negative, (low.negations, (low.weighted_depth, tt)))))))

-- in a rising list no member after e comes before it
Rises-later : (before : List Price) (e : Price) (after : List Price) → Rises (before ++ e ∷ after) → (f : Price) → Contains after f → ComesBefore e f
Rises-later [] e after rises f member = rises.0 f member
Rises-later (g ∷ before) e after rises f member = Rises-later before e after rises.1 f member

module _ (weighing : Weighing) (system : System) (p q : ℕ) (es : List Price) (bound : Bound) (e : Price)
    (least : AreLeastPrices weighing system p (q ∷ []) es) (first : IsFirstWithin bound es e) where
  member : Contains es e
  member = subst (λ fs. Contains fs e) (sym first.whole) (Contains-append_right first.before (e ∷ first.after) e (Contains-first e first.after))

  -- no member within the bound comes before e
  none_earlier : (f : Price) → Contains es f → IsWithin f bound → ¬ ComesBefore f e
  none_earlier f other within earlier = elim (Contains-append_cases first.before (e ∷ first.after) f (subst (λ fs. Contains fs f) first.whole other)) [
    | inl before ↦ first.none_before f before within
    | inr rest ↦ elim (Contains-cases e first.after f rest) [
      | inl same ↦ IsFirstSmaller-irrefl (parts e) (subst (λ g. ComesBefore g e) (sym same) earlier)
      | inr after ↦ IsFirstSmaller-irrefl (parts e)
          (IsFirstSmaller-trans (parts e) (parts f) (parts e) (Rises-later first.before e first.after (subst Rises first.whole least.rises) f after) earlier)
    ]
  ]

  pub first_within-shown : IsShown weighing system p q bound e
  first_within-shown =
      let made = least.prices e member in record {
        formula = made.0;
        distinguishes = made.1;
        paid = made.2;
        least = price-reached weighing system p (q ∷ []) es least e member;
        first = λ other d within earlier.
            let low = least.covers other d in
            none_earlier low.0 low.1 (IsWithin-smaller low.0 (price weighing other) bound low.2 within)
            (ComesBefore-below low.0 (price weighing other) e low.2 earlier);
      }
