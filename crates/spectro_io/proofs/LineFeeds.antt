-- Where the first LF of the bytes stands, and what it parts.
use Rattle.std.proofs.Common.{◌≡◌, ◌∙◌, ℕ, suc, ◌+◌, ◌<◌, ◌≤◌, Bool, true, false, cond, not, ◌||◌, List, [], ◌∷◌, ◌++◌, take, drop, length, refl, sym, ap, arith, inl, inr, append-nil}
use Rattle.std.specs.Prelude.{nat_lt, Some, None, is_some, ◌⊎◌}
use Rattle.std.specs.Option.{unwrap_or}
use Rattle.std.proofs.lemmas.List.{take_all}
use Rattle.std.proofs.Math.ListN.{drop_of_length-le}
use Rattle.std.proofs.Math.Seq.{take-append-add, drop-append-add}
use Rattle.std.proofs.lemmas.Bool.{cases_lt}
use Rattle.std.specs.List.{list_any, position, position_or_len, before_first, after_first}
use Rattle.std.proofs.lemmas.Grind.{common_steps}
use Rattle.std.proofs.lemmas.List.Sums.{prefix_len-le-length}

or_false_both : (a b : Bool) → (a || b) ≡ false → (a ≡ false) × (b ≡ false)
or_false_both true b h = cc
or_false_both false b h = (refl, h)

found : (test : Bool) (place len : ℕ) (any : Bool) → nat_lt place len ≡ any → nat_lt (cond (not test) (1 + place) 0) (suc len) ≡ (test || any)
found true place len any is = grind (arith, common_steps)
found false place len any is = grind (arith, common_steps)

module _ {X : Type 0} (p : X → Bool) where
  counted : (test : Bool) (n rest place : ℕ) → place ≡ n + rest → (test ≡ false) → cond (not test) (1 + place) 0 ≡ suc n + rest
  counted true n rest place is none = cc
  counted false n rest place is none = omega arith

  -- where the first list has none, the place is counted on in the second
  pub position-append : (xs ys : List X) → list_any p xs ≡ false → position_or_len p (xs ++ ys) ≡ length xs + position_or_len p ys
  position-append [] ys none = omega arith
  position-append (x ∷ xs) ys none =
      let none_here = or_false_both (p x) (list_any p xs) none in
      counted (p x) (length xs) (position_or_len p ys) (position_or_len p (xs ++ ys)) (position-append xs ys none_here.1) none_here.0

  -- a place is found exactly where one passes
  pub found-list_any : (xs : List X) → nat_lt (position_or_len p xs) (length xs) ≡ list_any p xs
  found-list_any [] = refl
  found-list_any (x ∷ xs) = found (p x) (position_or_len p xs) (length xs) (list_any p xs) (found-list_any xs)

  -- the place of the first that passes, or the length
  pub place-position : (xs : List X) → unwrap_or (position p xs) (length xs) ≡ position_or_len p xs
  place-position xs = placed (cases_lt (position_or_len p xs) (length xs)) (prefix_len-le-length (λ x. not (p x)) xs)
    where
      placed : ((position_or_len p xs < length xs) ⊎ (length xs ≤ position_or_len p xs)) → position_or_len p xs ≤ length xs
          → unwrap_or (position p xs) (length xs) ≡ position_or_len p xs
      placed (inl less) within = grind (arith, common_steps)
      placed (inr more) within = grind (arith, common_steps)

  -- a place is found exactly where one passes
  pub found-position : (xs : List X) → is_some (position p xs) ≡ list_any p xs
  found-position xs = some_of (nat_lt (position_or_len p xs) (length xs)) ∙ found-list_any xs
    where
      some_of : (test : Bool) → is_some (cond test (Some (position_or_len p xs)) None) ≡ test
      some_of true = refl
      some_of false = refl

  -- where none passes, the place is the length
  pub position-none : (xs : List X) → list_any p xs ≡ false → position_or_len p xs ≡ length xs
  position-none xs none = ap (position_or_len p) (sym (append-nil xs)) ∙ position-append xs [] none ∙ omega arith

  pub before-none : (xs : List X) → list_any p xs ≡ false → before_first p xs ≡ xs
  before-none xs none = take_all (position_or_len p xs) xs (omega (arith, position-none xs none))

  pub after-none : (xs : List X) → list_any p xs ≡ false → after_first p xs ≡ []
  after-none xs none = drop_of_length-le xs (omega (arith, position-none xs none))

  -- where the first list has none, what is parted is parted in the second
  pub before-append : (xs ys : List X) → list_any p xs ≡ false → before_first p (xs ++ ys) ≡ xs ++ before_first p ys
  before-append xs ys none = ap (λ n. take n (xs ++ ys)) (position-append xs ys none) ∙ take-append-add xs ys (position_or_len p ys)

  pub after-append : (xs ys : List X) → list_any p xs ≡ false → after_first p (xs ++ ys) ≡ after_first p ys
  after-append xs ys none =
      let place : position_or_len p (xs ++ ys) + 1 ≡ length xs + (position_or_len p ys + 1) = omega (arith, position-append xs ys none) in
      ap (λ n. drop n (xs ++ ys)) place ∙ drop-append-add xs ys (position_or_len p ys + 1)
