-- How many pairs pass a test, where they are kept in another form.
use Rattle.std.proofs.Common.{◌≡◌, ◌∙◌, ℕ, ◌+◌, Bool, List, [], ◌∷◌, map, ap, sym, refl}
use Rattle.std.specs.Prelude.{cond}
use Rattle.std.specs.List.{count_by, zip}
use Rattle.std.proofs.lemmas.List.Sums.{sum_by-cons}

-- they pass it as they are seen
pub passing_as_seen : {T S : Type 0} (test : S → S → Bool) (seen : T → S) (xs ys : List T)
    → count_by (λ both. test (seen both.0) (seen both.1)) (zip xs ys) ≡ count_by (λ both. test both.0 both.1) (zip (map seen xs) (map seen ys))
passing_as_seen test seen [] ys = refl
passing_as_seen test seen (x ∷ xs) [] = refl
passing_as_seen test seen (x ∷ xs) (y ∷ ys) =
    sum_by-cons (λ both. cond (test (seen both.0) (seen both.1)) 1 0) (x, y) (zip xs ys)
    ∙ ap (λ n. cond (test (seen x) (seen y)) 1 0 + n) (passing_as_seen test seen xs ys)
    ∙ sym (sum_by-cons (λ both. cond (test both.0 both.1) 1 0) (seen x, seen y) (zip (map seen xs) (map seen ys)))
