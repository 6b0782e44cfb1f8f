-- What pairs reach: pair by pair, up to the whole list, which there is.
-- The pairs that can be reached are among those of the lists that have the starts and are closed under followers.
use Rattle.std.proofs.Common.{◌≡◌, ◌≤◌, ◌==◌, inl, inr, List, [], ◌++◌, length, refl, sym, ap, subst, arith, length-append, add-one, Contains, true}
use Rattle.std.specs.List.{flat_map}
use Rattle.std.specs.Str.{bytes_eq}
use Rattle.std.proofs.lemmas.Bool.{eqb-true, eq-eqb, and_parts, and_from}
use Rattle.std.proofs.lemmas.Slice.Eq.{bytes_eq-Decides}
use Rattle.spectro_spec.specs.System.{System}
use Rattle.spectro_spec.proofs.Membership.{Contains-flat_map, Contains-flat_map_cases}
use Rattle.spectro_game.specs.Pairs.{Pair, followers, size}
use Rattle.spectro_game.specs.Reached.{StandsIn}
use Rattle.spectro_theory.specs.Reaching.{AreReachedPairsTo, with_all, is_same_pair}
use Rattle.spectro_theory.specs.LawsOfReaching.{IsFront, ReachedPairsExist, ReachingBegins, ReachingGoesOn, ReachingEnds, ReachedFrontsAreFronts, PairsArePutLast, PuttingLastGoesOn, PairsWithoutRepeatsStay, SamePairsAreEqual}
use Rattle.spectro_theory.proofs.Places.{StandsIn-member, Contains-stands}
use Rattle.spectro_theory.proofs.Universe.{universe, universe-closed, universe-has}
use Rattle.spectro_theory.proofs.ReachedLists.{reached_begins, reached-to_end, reached-from_end}
use Rattle.spectro_theory.proofs.Growing.{reached-starts}
use Rattle.spectro_theory.proofs.PutLast.{with_all-grows, with_all-append, with_all-distinct, stands-with_all, added-with_all, cases-with_all, once-with_all}
use Rattle.spectro_theory.proofs.Expanding.{reached-with_all}
use Rattle.spectro_theory.proofs.Existence.{some_reached}
use Rattle.spectro_theory.proofs.Sizes.{size-front}

-- ---- the test of pairs
pub same_pair-equal : (x y : Pair) → is_same_pair x y ≡ true → x ≡ y
unfolding is_same_pair
same_pair-equal x y e =
    let parts = and_parts (x.state == y.state) (bytes_eq x.set y.set) e in
    let state : x.state ≡ y.state = eqb-true x.state y.state parts.0 in
    let set : x.set ≡ y.set = (bytes_eq-Decides x.set y.set).0 parts.1 in
    λ i. record { state = state i; set = set i }

pub same_pair-itself : (x : Pair) → is_same_pair x x ≡ true
unfolding is_same_pair
same_pair-itself x = and_from (x.state == x.state) (bytes_eq x.set x.set) (eq-eqb x.state x.state refl) ((bytes_eq-Decides x.set x.set).1 refl)

pub same_pairs : SamePairsAreEqual
same_pairs x y = (same_pair-equal x y, (λ e. subst (λ z. is_same_pair x z ≡ true) e (same_pair-itself x)))

-- ---- pairs that are put last
front-of : (front rest pairs : List Pair) → pairs ≡ front ++ rest → IsFront front pairs
front-of front rest pairs whole = record {
  rest = rest;
  whole = whole;
  shorter = omega (arith, ap length whole, length-append front rest);
  smaller = subst (λ l. size front ≤ size l) (sym whole) (size-front front rest);
}

pub put_last : PairsArePutLast
put_last old added = record {
  front = let grown = with_all-grows is_same_pair added old in front-of old grown.0 (with_all is_same_pair old added) grown.1;
  members = λ x. (
    cases-with_all is_same_pair same_pair-equal same_pair-itself added old x,
    (λ either. elim either [
      | inl s ↦ (s.0, stands-with_all is_same_pair same_pair-equal same_pair-itself added old s.0 x s.1)
      | inr s ↦ added-with_all is_same_pair same_pair-equal same_pair-itself added old x s
    ]),
  );
  once = once-with_all is_same_pair same_pair-equal same_pair-itself added old;
}

pub more_last : PuttingLastGoesOn
more_last old added more = sym (with_all-append is_same_pair old added more)

pub without_repeats : PairsWithoutRepeatsStay
without_repeats pairs once = with_all-distinct is_same_pair same_pair-equal same_pair-itself pairs [] once

-- ---- pair by pair
pub reaching-begins : ReachingBegins
reaching-begins system starts once = reached-starts (followers system) starts once

pub reaching-goes_on : ReachingGoesOn
reaching-goes_on system starts pairs k x to here =
    subst (AreReachedPairsTo system starts (with_all is_same_pair pairs (followers system x))) (sym (add-one k))
    (reached-with_all is_same_pair same_pair-equal same_pair-itself (followers system) starts pairs k x to here)

pub reaching-ends : ReachingEnds
reaching-ends system starts pairs = (reached-from_end (followers system) starts pairs, reached-to_end (followers system) starts pairs)

pub fronts-begin : ReachedFrontsAreFronts
fronts-begin system starts front pairs k to whole =
    let begun = reached_begins (followers system) starts front pairs k 0 to whole in
    front-of front begun.0 pairs begun.1

-- ---- the whole list
module _ (system : System) (starts : List Pair) where
  around : Pair → List Pair
  around x = universe system x.state x.set

  abbrev all_around : List Pair
  all_around = flat_map around starts

  around-closed : (x : Pair) → StandsIn all_around x → (y : Pair) → StandsIn (followers system x) y → StandsIn all_around y
  unfolding around
  around-closed x known y follows =
      let found = Contains-flat_map_cases around starts x (Contains-stands all_around x known) in
      let next : Contains (around found.0) y = universe-closed system found.0.state found.0.set x.state x.set y.state y.set found.2
      (Contains-stands (followers system x) y follows) in
      StandsIn-member all_around y (Contains-flat_map around starts found.0 y found.1 next)

  around-starts : (x : Pair) → StandsIn starts x → StandsIn all_around x
  unfolding around
  around-starts x start =
      StandsIn-member all_around x (Contains-flat_map around starts x x (Contains-stands starts x start) (universe-has system x.state x.set))

pub some_pairs : ReachedPairsExist
some_pairs system starts once =
    some_reached is_same_pair same_pair-equal same_pair-itself (followers system) starts (all_around system starts) (around-closed system starts) once
    (around-starts system starts)
