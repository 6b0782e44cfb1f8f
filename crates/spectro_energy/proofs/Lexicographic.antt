-- The order of arrays of parts is the lexicographic order of prices.
use Rattle.std.proofs.Common.{ℕ, ◌≡◌, ◌<◌, List, [], ◌∷◌, length, refl, sym, ap, ◌∙◌, subst, arith, inl, inr}
use Rattle.std.specs.Prelude.{◌↔◌}
use Rattle.std.specs.Cmp.{ranks}
use Rattle.std.specs.Cmp.Lexicographic.{slice_cmp}
use Rattle.std.specs.Ordering.{nat_cmp, ordering_then, MatchOrdering}
use Rattle.std.specs.declared.cmp.Ordering.{Ordering}
use Rattle.std.specs.declared.cmp.Ordering.TheVariants.{Less, Equal, Greater}
use Rattle.spectro_spec.specs.Price.{parts, IsFirstSmaller}
use Rattle.spectro_spec.proofs.FirstSmaller.{IsFirstSmaller-irrefl, IsFirstSmaller-trans}
use Rattle.spectro_energy.specs.Energy.{price_of, IsLexicographic}

-- what the comparison of two rows of as many numbers tells
compared : (ns ms : List ℕ) → length ns ≡ length ms → MatchOrdering (slice_cmp nat_cmp ns ms) (IsFirstSmaller ns ms) (ns ≡ ms) (IsFirstSmaller ms ns)
compared [] [] same = refl
compared [] (m ∷ ms) same = absurd (omega arith)
compared (n ∷ ns) [] same = absurd (omega arith)
compared (n ∷ ns) (m ∷ ms) same = go (nat_cmp n m) (slice_cmp nat_cmp ns ms) (ranks n m) (compared ns ms (omega arith))
  where
    go : (first rest : Ordering) → MatchOrdering first (n < m) (n ≡ m) (m < n) → MatchOrdering rest (IsFirstSmaller ns ms) (ns ≡ ms) (IsFirstSmaller ms ns)
        → MatchOrdering (ordering_then first rest) (IsFirstSmaller (n ∷ ns) (m ∷ ms)) (n ∷ ns ≡ m ∷ ms) (IsFirstSmaller (m ∷ ms) (n ∷ ns))
    go Less rest less later = inl less
    go Greater rest greater later = inl greater
    go Equal Less equal later = inr (equal, later)
    go Equal Equal equal later = cc
    go Equal Greater equal later = inr (sym equal, later)

-- of three that exclude one another the answer tells which it is
told : {A B C : Type 0} (order : Ordering) → MatchOrdering order A B C → (A → B → ⊥) → (A → C → ⊥) → (B → C → ⊥)
    → (order ≡ Less ↔ A) × (order ≡ Equal ↔ B) × (order ≡ Greater ↔ C)
told Less a not_ab not_ac not_bc = (((λ is. a), λ h. refl), ((λ is. cc), λ b. absurd (not_ab a b)), ((λ is. cc), λ c. absurd (not_ac a c)))
told Equal b not_ab not_ac not_bc = (((λ is. cc), λ a. absurd (not_ab a b)), ((λ is. b), λ h. refl), ((λ is. cc), λ c. absurd (not_bc b c)))
told Greater c not_ab not_ac not_bc = (((λ is. cc), λ a. absurd (not_ac a c)), ((λ is. cc), λ b. absurd (not_bc b c)), ((λ is. c), λ h. refl))

-- seven numbers are the parts of their price
parts-price_of : (ns : List ℕ) → length ns ≡ 7 → parts (price_of ns) ≡ ns
parts-price_of [] is = absurd (omega arith)
parts-price_of (a ∷ []) is = absurd (omega arith)
parts-price_of (a ∷ b ∷ []) is = absurd (omega arith)
parts-price_of (a ∷ b ∷ c ∷ []) is = absurd (omega arith)
parts-price_of (a ∷ b ∷ c ∷ d ∷ []) is = absurd (omega arith)
parts-price_of (a ∷ b ∷ c ∷ d ∷ e ∷ []) is = absurd (omega arith)
parts-price_of (a ∷ b ∷ c ∷ d ∷ e ∷ f ∷ []) is = absurd (omega arith)
parts-price_of (a ∷ b ∷ c ∷ d ∷ e ∷ f ∷ g ∷ []) is = refl
parts-price_of (a ∷ b ∷ c ∷ d ∷ e ∷ f ∷ g ∷ h ∷ ns) is = absurd (omega arith)

pub slice_cmp-IsLexicographic : (ns ms : List ℕ) → length ns ≡ 7 → length ms ≡ 7 → IsLexicographic (slice_cmp nat_cmp ns ms) (price_of ns) (price_of ms)
slice_cmp-IsLexicographic ns ms first second =
    let here : parts (price_of ns) ≡ ns = parts-price_of ns first in
    let there : parts (price_of ms) ≡ ms = parts-price_of ms second in
    let (less, equal, greater) = told (slice_cmp nat_cmp ns ms) (compared ns ms (first ∙ sym second))
    (λ h is. IsFirstSmaller-irrefl ms (subst (λ ks. IsFirstSmaller ks ms) is h))
    (λ h k. IsFirstSmaller-irrefl ns (IsFirstSmaller-trans ns ms ns h k))
    (λ is k. IsFirstSmaller-irrefl ms (subst (λ ks. IsFirstSmaller ms ks) is k)) in
    record {
      less = subst (λ ks. slice_cmp nat_cmp ns ms ≡ Less ↔ IsFirstSmaller ks (parts (price_of ms))) (sym here)
          (subst (λ ks. slice_cmp nat_cmp ns ms ≡ Less ↔ IsFirstSmaller ns ks) (sym there) less);
      equal = ((λ is. ap price_of (equal.0 is)), λ is. equal.1 (sym here ∙ ap parts is ∙ there));
      greater = subst (λ ks. slice_cmp nat_cmp ns ms ≡ Greater ↔ IsFirstSmaller (parts (price_of ms)) ks) (sym here)
          (subst (λ ks. slice_cmp nat_cmp ns ms ≡ Greater ↔ IsFirstSmaller ks ns) (sym there) greater);
    }
