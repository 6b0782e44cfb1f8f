-- What a place that is put down makes of those that are kept.
use Rattle.std.proofs.Common.{ℕ, zero, suc, ◌≡◌, ◌<◌, ◌≤◌, ◌⊎◌, inl, inr, List, [], ◌∷◌, set, get_or, length, refl, sym, ap, ◌∙◌, subst, arith}
use Rattle.spectro_game.specs.Reached.{StandsAt}
use Rattle.spectro_pairs.specs.declared.lattices.Lattices.{Lattices}
use Rattle.spectro_pairs.specs.declared.lattices.Place.{Place}
use Rattle.spectro_pairs.specs.Lattices.{HasPlace, IsAtMask}

-- what stands there after a member is set stood there before, or is that member
set-cases : {X : Type 0} (xs : List X) (i : ℕ) (a : X) (k : ℕ) (x : X) → StandsAt (set xs i a) k x → StandsAt xs k x ⊎ ((k ≡ i) × (a ≡ x))
set-cases [] i a k x here = inl here
set-cases (y ∷ xs) zero a zero x here = inr (refl, cc)
set-cases (y ∷ xs) zero a (suc k) x here = inl here
set-cases (y ∷ xs) (suc i) a zero x here = inl here
set-cases (y ∷ xs) (suc i) a (suc k) x here = elim (set-cases xs i a k x here) [ inl old ↦ inl old | inr new ↦ inr (ap suc new.0, new.1) ]

pub placed-set : (a b : Lattices) (table : List ℕ) (own mask n : ℕ) → b.places.items ≡ set a.places.items n (record { table = own; mask = mask })
    → n ≡ get_or table mask 0 → 1 ≤ mask → mask < length table → (k : ℕ) (place : Place) → HasPlace b k place → HasPlace a k place ⊎ IsAtMask table own k place
placed-set a b table own mask n put is some within k place has =
    elim (set-cases a.places.items n (record { table = own; mask = mask }) k place (subst (λ l. StandsAt l k place) put has.here)) [
      | inl old ↦ inl (record { here = old; some = has.some })
      | inr (same, new) ↦
          let mask_is : mask ≡ place.mask = ap (λ (p : Place). p.mask) new in
          inr (record {
            own = sym (ap (λ (p : Place). p.table) new);
            some = has.some;
            within = omega (arith, mask_is);
            number = ap (λ m. get_or table m 0) (sym mask_is) ∙ sym is ∙ sym same;
          })
    ]
