-- The minimal elements of a list of energies.
use Rattle.std.specs.Prelude.{ℕ, ◌==◌, ◌&&◌, ◌||◌, nat_le, nat_lt, Bool, false, List, [], ◌∷◌, if◌then◌else◌}
use Rattle.spectro_spec.specs.Price.{Price, parts}

-- whether each part of e is at most that part of f
abbrev pub is_at_most : Price → Price → Bool
is_at_most e f =
    nat_le e.observations f.observations
    && (nat_le e.conjunctions f.conjunctions
    && (nat_le e.deepest_positive f.deepest_positive
    && (nat_le e.other_positive f.other_positive
    && (nat_le e.deepest_negative f.deepest_negative
    && (nat_le e.negations f.negations
    && nat_le e.weighted_depth f.weighted_depth)))))

-- whether the first row of numbers has the smaller one where they first differ
abbrev pub precedes : List ℕ → List ℕ → Bool
precedes [] ms = false
precedes (n ∷ ns) [] = false
precedes (n ∷ ns) (m ∷ ms) = nat_lt n m || ((n == m) && precedes ns ms)

-- whether some member is at most e
abbrev pub some_covers : List Price → Price → Bool
some_covers [] e = false
some_covers (f ∷ fs) e = is_at_most f e || some_covers fs e

-- the members that e is not at most
abbrev pub not_above : Price → List Price → List Price
not_above e [] = []
not_above e (f ∷ fs) = if is_at_most e f then not_above e fs else f ∷ not_above e fs

-- e is put in its place in a list that rises
abbrev pub placed_price : Price → List Price → List Price
placed_price e [] = e ∷ []
placed_price e (f ∷ fs) = if precedes (parts e) (parts f) then e ∷ f ∷ fs else f ∷ placed_price e fs

-- the minimal elements of e and of a list of minimal elements
abbrev pub inserted : Price → List Price → List Price
inserted e es = if some_covers es e then es else placed_price e (not_above e es)

-- the members that no other member is at most, rising, each once
abbrev pub minimal_elements : List Price → List Price
minimal_elements [] = []
minimal_elements (e ∷ es) = inserted e (minimal_elements es)
