-- The first price that fits, by its place in the row of its pair.
use Rattle.std.proofs.Common.{◌≡◌, ◌∙◌, inl, inr, ℕ, ◌<◌, Bool, true, false, List, [], length, get_or, cond, refl, sym, ap, Option, None, Some}
use Rattle.std.specs.Prelude.{IsTrue, ◌↔◌, nat_lt}
use Rattle.std.specs.List.{find, position, position_or_len}
use Rattle.std.specs.Option.{option_map}
use Rattle.std.proofs.lemmas.Bool.{cases_Bool, ltb-true, ltb-false, false_from_ne_true, true≢false}
use Rattle.std.proofs.lemmas.List.Folds.{find_at}
use Rattle.std.proofs.lemmas.Option.{slice_get-get_or, slice_get_past}
use Rattle.spectro_spec.specs.Price.{Price, IsAtMost}
use Rattle.spectro_game.specs.MinimalElements.{is_at_most}
use Rattle.spectro_game.specs.Pairs.{Pair}
use Rattle.spectro_game.specs.Reached.{StandsAt}
use Rattle.spectro_game.specs.Rows.{listed_at}
use Rattle.spectro_energy.specs.Energy.{price_of}
use Rattle.spectro_rows.specs.Rows.{row_at}
use Rattle.spectro_theory.proofs.MinimalElements.{is_at_most-Decides}
use Rattle.spectro_theory.proofs.Places.{stands-one}
use Rattle.spectro_build.specs.Choices.{first_fitting}
use Rattle.spectro_build.specs.Keys.{key_at, need_at, price_at}
use Rattle.spectro_build.specs.Wanted.{pair_of}
use Rattle.spectro_build.proofs.SolvedArenas.{pair-stands}

-- an answer that says whether f is at most e is the test of it
pub fits_test : (b : Bool) (f e : Price) → IsTrue b ↔ IsAtMost f e → is_at_most f e ≡ b
fits_test true f e says = (is_at_most-Decides f e).1 (says.0 refl)
fits_test false f e says = false_from_ne_true (is_at_most f e) (λ is. true≢false (sym (says.1 ((is_at_most-Decides f e).0 is))))

-- what is found stands at the first place that passes
find-position : {X : Type 0} (test : X → Bool) (xs : List X) (d : X) → find test xs ≡ option_map (λ i. get_or xs i d) (position test xs)
find-position test xs d = elim (cases_Bool (nat_lt (position_or_len test xs) (length xs))) [
  | inl within ↦ find_at test xs ∙ slice_get-get_or xs (position_or_len test xs) d (ltb-true (position_or_len test xs) (length xs) within)
      ∙ sym (ap (λ b. option_map (λ i. get_or xs i d) (cond b (Some (position_or_len test xs)) None)) within)
  | inr past ↦ find_at test xs ∙ slice_get_past xs (position_or_len test xs) (ltb-false (position_or_len test xs) (length xs) past)
      ∙ sym (ap (λ b. option_map (λ i. get_or xs i d) (cond b (Some (position_or_len test xs)) None)) past)
]

-- what is needed of the pair of a number is needed of the key of the place
pub fitting-at : (pairs : List Pair) (rows : List (List Price)) (k : ℕ) (x : Pair) (update : Price → Price) (e : Price) → StandsAt pairs k x → k < length pairs
    → listed_at pairs rows x.state x.set ≡ row_at rows k
    → first_fitting (listed_at pairs rows) x update e
    ≡ option_map (need_at pairs rows) (option_map (key_at rows k) (position (λ f. is_at_most (update f) e) (row_at rows k)))
fitting-at pairs rows k x update e here below row =
    ap (λ es. option_map (λ f. record { pair = x; price = f }) (find test es)) row
    ∙ ap (option_map (λ f. record { pair = x; price = f })) (find-position test (row_at rows k) (price_of []))
    ∙ by (position test (row_at rows k))
  where
    test : Price → Bool
    test f = is_at_most (update f) e

    by : (o : Option ℕ) → option_map (λ f. record { pair = x; price = f }) (option_map (λ i. get_or (row_at rows k) i (price_of [])) o)
        ≡ option_map (need_at pairs rows) (option_map (key_at rows k) o)
    by None = refl
    by (Some i) = ap (λ y. Some (record { pair = y; price = price_at rows k i })) (stands-one pairs k x (pair_of pairs k) here (pair-stands pairs k below))
