-- What each update takes from an energy, and the least energy that it can be taken from.
use Rattle.std.proofs.Common.{◌≡◌, List, [], ◌∷◌, map, refl}
use Rattle.std.specs.Prelude.{Some, None}
use Rattle.spectro_spec.specs.Price.{Price}
use Rattle.spectro_game.specs.Update.{Update, inverse, apply, observe, conjoin, to_deepest, to_other, to_positive, to_negative}
use Rattle.spectro_spec.proofs.Samples.{seven}

abbrev rises : Price
rises = seven 1 2 3 4 5 6 7

abbrev falls : Price
falls = seven 7 6 5 4 3 2 1

inverse-observe : inverse (observe 1) rises ≡ seven 2 2 3 4 5 6 8
inverse-observe = refl

inverse-observe_free : inverse (observe 0) rises ≡ seven 2 2 3 4 5 6 7
inverse-observe_free = refl

inverse-observe_dear : inverse (observe 255) falls ≡ seven 8 6 5 4 3 2 256
inverse-observe_dear = refl

inverse-conjoin : inverse conjoin rises ≡ seven 1 3 3 4 5 6 7
inverse-conjoin = refl

-- the deepest positive clause may be as deep already
inverse-to_deepest_rising : inverse to_deepest rises ≡ rises
inverse-to_deepest_rising = refl

inverse-to_deepest_falling : inverse to_deepest falls ≡ seven 7 6 7 4 3 2 1
inverse-to_deepest_falling = refl

inverse-to_other_rising : inverse to_other rises ≡ seven 1 2 4 4 5 6 7
inverse-to_other_rising = refl

inverse-to_other_falling : inverse to_other falls ≡ falls
inverse-to_other_falling = refl

inverse-to_positive_rising : inverse to_positive rises ≡ rises
inverse-to_positive_rising = refl

inverse-to_positive_falling : inverse to_positive falls ≡ seven 7 6 5 7 3 2 1
inverse-to_positive_falling = refl

-- one negation more, also where the negative clause is not deeper
inverse-to_negative_rising : inverse to_negative rises ≡ seven 1 2 3 4 5 7 7
inverse-to_negative_rising = refl

inverse-to_negative_falling : inverse to_negative falls ≡ seven 7 6 5 4 7 3 1
inverse-to_negative_falling = refl

apply-observe : apply (observe 1) rises ≡ Some (seven 0 2 3 4 5 6 6)
apply-observe = refl

apply-observe_free : apply (observe 0) rises ≡ Some (seven 0 2 3 4 5 6 7)
apply-observe_free = refl

-- all of the weighted depth is spent, and no more can be
apply-observe_all : apply (observe 7) rises ≡ Some (seven 0 2 3 4 5 6 0)
apply-observe_all = refl

apply-observe_too_dear : apply (observe 8) rises ≡ None
apply-observe_too_dear = refl

apply-observe_no_depth : apply (observe 0) (seven 0 2 3 4 5 6 7) ≡ None
apply-observe_no_depth = refl

-- an observation of no weight needs no weighted depth
apply-observe_last : apply (observe 0) (seven 1 0 0 0 0 0 0) ≡ Some (seven 0 0 0 0 0 0 0)
apply-observe_last = refl

apply-conjoin : apply conjoin rises ≡ Some (seven 1 1 3 4 5 6 7)
apply-conjoin = refl

apply-conjoin_none_left : apply conjoin (seven 1 0 3 4 5 6 7) ≡ None
apply-conjoin_none_left = refl

apply-to_deepest_rising : apply to_deepest rises ≡ Some rises
apply-to_deepest_rising = refl

apply-to_deepest_falling : apply to_deepest falls ≡ Some (seven 5 6 5 4 3 2 1)
apply-to_deepest_falling = refl

apply-to_other_rising : apply to_other rises ≡ Some (seven 1 2 3 3 5 6 7)
apply-to_other_rising = refl

apply-to_other_falling : apply to_other falls ≡ Some falls
apply-to_other_falling = refl

apply-to_positive_rising : apply to_positive rises ≡ Some rises
apply-to_positive_rising = refl

apply-to_positive_falling : apply to_positive falls ≡ Some (seven 4 6 5 4 3 2 1)
apply-to_positive_falling = refl

apply-to_negative_rising : apply to_negative rises ≡ Some (seven 1 2 3 4 5 5 7)
apply-to_negative_rising = refl

apply-to_negative_falling : apply to_negative falls ≡ Some (seven 3 6 5 4 3 1 1)
apply-to_negative_falling = refl

apply-to_negative_none_left : apply to_negative (seven 1 2 3 4 5 0 7) ≡ None
apply-to_negative_none_left = refl

abbrev updates : List Update
updates = observe 2 ∷ conjoin ∷ to_deepest ∷ to_other ∷ to_positive ∷ to_negative ∷ []

-- what is left of the least energies from which the first can be left: no less than the first, and more where a part was raised for it
apply-inverse_rising : map (λ u. apply u (inverse u rises)) updates
    ≡ Some rises ∷ Some rises ∷ Some rises ∷ Some (seven 1 2 4 4 5 6 7) ∷ Some rises ∷ Some rises ∷ []
apply-inverse_rising = refl

apply-inverse_falling : map (λ u. apply u (inverse u falls)) updates
    ≡ Some falls ∷ Some falls ∷ Some (seven 7 6 7 4 3 2 1) ∷ Some falls ∷ Some (seven 7 6 5 7 3 2 1) ∷ Some (seven 7 6 5 4 7 2 1) ∷ []
apply-inverse_falling = refl
