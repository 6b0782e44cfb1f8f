-- The divisions of small sets, in order.
use Rattle.std.proofs.Common.{◌≡◌, ℕ, List, [], ◌∷◌, map, refl}
use Rattle.spectro_game.specs.Divisions.{Division, IsDivided, nothing, to_left, to_right, divisions}

abbrev division : List ℕ → List ℕ → Division
division left right = record { left = left; right = right }

divisions-none : divisions [] ≡ division [] [] ∷ []
divisions-none = refl

-- the first member changes first
divisions-two : divisions (4 ∷ 7 ∷ []) ≡ division [] (4 ∷ 7 ∷ []) ∷ division (4 ∷ []) (7 ∷ []) ∷ division (7 ∷ []) (4 ∷ []) ∷ division (4 ∷ 7 ∷ []) [] ∷ []
divisions-two = refl

divisions-left_of_three : map (λ (d : Division). d.left) (divisions (1 ∷ 2 ∷ 3 ∷ []))
    ≡ [] ∷ (1 ∷ []) ∷ (2 ∷ []) ∷ (1 ∷ 2 ∷ []) ∷ (3 ∷ []) ∷ (1 ∷ 3 ∷ []) ∷ (2 ∷ 3 ∷ []) ∷ (1 ∷ 2 ∷ 3 ∷ []) ∷ []
divisions-left_of_three = refl

IsDivided-two_ways : IsDivided (4 ∷ 7 ∷ 9 ∷ []) (4 ∷ 9 ∷ []) (7 ∷ [])
IsDivided-two_ways = to_left (to_right (to_left nothing))

not_IsDivided-member_left_out : ¬ IsDivided (4 ∷ []) [] []
not_IsDivided-member_left_out h = elim h [ ]
