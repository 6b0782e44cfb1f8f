-- The minimal elements of small lists, the test of the order of energies part by part, and the least upper bound.
use Rattle.std.proofs.Common.{◌≡◌, List, [], ◌∷◌, map, refl, true, false}
use Rattle.spectro_spec.specs.Price.{Price, parts}
use Rattle.spectro_game.specs.Sup.{sup, zero_price}
use Rattle.spectro_game.specs.MinimalElements.{is_at_most, precedes, minimal_elements}
use Rattle.spectro_spec.proofs.Samples.{six, seven}

-- each has 1 in one part alone, from the last part on
abbrev ones : List Price
ones = seven 0 0 0 0 0 0 1 ∷ seven 0 0 0 0 0 1 0 ∷ seven 0 0 0 0 1 0 0 ∷ seven 0 0 0 1 0 0 0 ∷ seven 0 0 1 0 0 0 0 ∷ seven 0 1 0 0 0 0 0 ∷ seven 1 0 0 0 0 0
    0 ∷ []

is_at_most-one_part_more : map (is_at_most zero_price) ones ≡ true ∷ true ∷ true ∷ true ∷ true ∷ true ∷ true ∷ []
is_at_most-one_part_more = refl

is_at_most-one_part_less : map (λ e. is_at_most e zero_price) ones ≡ false ∷ false ∷ false ∷ false ∷ false ∷ false ∷ false ∷ []
is_at_most-one_part_less = refl

is_at_most-itself : is_at_most (seven 1 2 3 4 5 6 7) (seven 1 2 3 4 5 6 7) ≡ true
is_at_most-itself = refl

-- the first part is not all
is_at_most-later_part_more : is_at_most (seven 1 2 3 4 5 6 8) (seven 2 2 3 4 5 6 7) ≡ false
is_at_most-later_part_more = refl

precedes-first_part : precedes (parts (seven 0 9 9 9 9 9 9)) (parts (seven 1 0 0 0 0 0 0)) ≡ true
precedes-first_part = refl

precedes-last_part : precedes (parts (seven 1 2 3 4 5 6 7)) (parts (seven 1 2 3 4 5 6 8)) ≡ true
precedes-last_part = refl

precedes-itself : precedes (parts (seven 1 2 3 4 5 6 7)) (parts (seven 1 2 3 4 5 6 7)) ≡ false
precedes-itself = refl

precedes-after : precedes (parts (seven 1 0 0 0 0 0 0)) (parts (seven 0 9 9 9 9 9 9)) ≡ false
precedes-after = refl

sup-each_part : sup (seven 1 6 3 4 2 9 0) (seven 5 2 3 1 4 8 7) ≡ seven 5 6 3 4 4 9 7
sup-each_part = refl

sup-of_none : sup zero_price (seven 1 2 3 4 5 6 7) ≡ seven 1 2 3 4 5 6 7
sup-of_none = refl

minimal_elements-none : minimal_elements [] ≡ []
minimal_elements-none = refl

minimal_elements-twice : minimal_elements (six 1 2 1 0 0 0 ∷ six 1 2 1 0 0 0 ∷ []) ≡ six 1 2 1 0 0 0 ∷ []
minimal_elements-twice = refl

-- those that differ in two parts stay, and what one of them is at most goes
minimal_elements-three : minimal_elements
    (seven 1 0 0 0 0 0 0 ∷ seven 0 1 0 0 0 0 0 ∷ seven 1 1 0 0 0 0 0 ∷ []) ≡ seven 0 1 0 0 0 0 0 ∷ seven 1 0 0 0 0 0 0 ∷ []
minimal_elements-three = refl

minimal_elements-greater_first : minimal_elements
    (seven 1 1 0 0 0 0 0 ∷ seven 1 0 0 0 0 0 0 ∷ seven 0 1 0 0 0 0 0 ∷ []) ≡ seven 0 1 0 0 0 0 0 ∷ seven 1 0 0 0 0 0 0 ∷ []
minimal_elements-greater_first = refl

minimal_elements-greater_between : minimal_elements
    (seven 0 1 0 0 0 0 0 ∷ seven 1 1 0 0 0 0 0 ∷ seven 1 0 0 0 0 0 0 ∷ []) ≡ seven 0 1 0 0 0 0 0 ∷ seven 1 0 0 0 0 0 0 ∷ []
minimal_elements-greater_between = refl

-- one that is less than both of the others takes their place
minimal_elements-least_last : minimal_elements (seven 0 2 0 0 0 0 0 ∷ seven 2 0 0 0 0 0 0 ∷ zero_price ∷ []) ≡ zero_price ∷ []
minimal_elements-least_last = refl

minimal_elements-least_first : minimal_elements (zero_price ∷ seven 0 2 0 0 0 0 0 ∷ seven 2 0 0 0 0 0 0 ∷ []) ≡ zero_price ∷ []
minimal_elements-least_first = refl

-- one that is between two others takes the place of the greater one alone
minimal_elements-some_go :
    minimal_elements (seven 1 1 0 0 0 0 0 ∷ seven 0 3 0 0 0 0 0 ∷ seven 1 2 0 0 0 0 0 ∷ seven 4 0 0 0 0 0 0 ∷ [])
    ≡ seven 0 3 0 0 0 0 0 ∷ seven 1 1 0 0 0 0 0 ∷ seven 4 0 0 0 0 0 0 ∷ []
minimal_elements-some_go = refl

-- the weighted depth alone keeps two apart
minimal_elements-weighted : minimal_elements (seven 2 1 0 0 0 0 3 ∷ seven 1 1 0 0 0 0 5 ∷ []) ≡ seven 1 1 0 0 0 0 5 ∷ seven 2 1 0 0 0 0 3 ∷ []
minimal_elements-weighted = refl

minimal_elements-each_part : minimal_elements ones ≡ ones
minimal_elements-each_part = refl
