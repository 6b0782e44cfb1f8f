-- Lists that are made member by member, said by their places.
use Rattle.std.proofs.Common.{ℕ, ◌≡◌, List, length, map, get_or, refl, sym, ap, ◌∙◌, arith}
use Rattle.std.proofs.lemmas.List.{ext_get_or, length-map}
use Rattle.std.proofs.lemmas.Option.{get_or_from_slice_get}
use Rattle.spectro_game.specs.Reached.{StandsAt}
use Rattle.spectro_theory.proofs.Places.{stands-some, stands-map}

-- what is made of the member at a place stands at that place
pub map-at : {X Y : Type 0} (f : X → Y) (xs : List X) (ys : List Y) (k : ℕ) (x : X) (d : Y) → ys ≡ map f xs → StandsAt xs k x → get_or ys k d ≡ f x
map-at f xs ys k x d is here = ap (λ l. get_or l k d) is ∙ get_or_from_slice_get (map f xs) k (f x) d (stands-map f xs k x here)

-- a list that has at each place what is made of the member there is made of all of them
pub map-whole : {X Y : Type 0} (f : X → Y) (xs : List X) (ys : List Y) (d : Y) → length ys ≡ length xs
    → ((k : ℕ) (x : X) → StandsAt xs k x → get_or ys k d ≡ f x) → ys ≡ map f xs
map-whole f xs ys d many each = ext_get_or d ys (map f xs) (many ∙ sym (length-map xs f))
    (λ k below. let at = stands-some xs k (omega arith) in each k at.0 at.1 ∙ sym (map-at f xs (map f xs) k at.0 d refl at.1))
