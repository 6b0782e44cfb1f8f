-- Sets of states: those within a number of states, and lists of sets that are kept as vectors.
use Rattle.std.proofs.Common.{ℕ, ◌≡◌, List, [], ◌∷◌, ◌++◌, length, slice_get, get_or, position, Some, refl, sym, ap, subst, Bool, true, false, cond, ◌||◌, if◌then◌else◌, Vec, zero, suc, ◌+◌, ◌<◌, arith}
use Rattle.std.specs.List.{list_any}
use Rattle.std.specs.Str.{bytes_eq}
use Rattle.std.specs.declared.alloc.Global.{Global}
use Rattle.std.proofs.lemmas.List.{length-map}
use Rattle.std.proofs.lemmas.List.Quantifiers.{position-Some}
use Rattle.std.proofs.lemmas.Option.{slice_get-get_or}
use Rattle.std.proofs.lemmas.Slice.Eq.{bytes_eq-Decides}
use Rattle.std.proofs.lemmas.List.Kept.{AllPairs-from_increasing}
use Rattle.indexmap.specs.IndexSet.{insert_key}
use Rattle.spectro_game.specs.Reached.{StandsAt}
use Rattle.spectro_game.specs.Divisions.{IsDivided}
use Rattle.spectro_theory.specs.Reaching.{with_last}
use Rattle.spectro_theory.proofs.Places.{stands-map}
use Rattle.spectro_theory.proofs.Divided.{All-left, AllPairs-left}
use Rattle.spectro_pairs.specs.Explored.{IsSetWithin}
use Rattle.spectro_pairs.specs.Interned.{lists_of}

-- ---- a state alone, and what a division takes of a set
pub alone : (states q : ℕ) → q < states → IsSetWithin states (q ∷ [])
alone states q below = record { rises = λ k within. absurd (omega arith); in_range = one }
  where
    one : (k d : ℕ) → k < 1 → get_or (q ∷ []) k d < states
    one zero d within = below
    one (suc k) d within = absurd (omega arith)

pub left-within : {qs left right : List ℕ} (states : ℕ) → IsDivided qs left right → IsSetWithin states qs → IsSetWithin states left
left-within {qs} {left} {right} states divided set = record {
  rises = λ k within. AllPairs-left (λ x y. x < y) divided (AllPairs-from_increasing qs set.rises) k (k + 1) 0 (omega arith) within;
  in_range = All-left (λ q. q < states) divided set.in_range;
}

-- ---- when sets are equal
pub set-equal : (x y : List ℕ) → bytes_eq x y ≡ true → x ≡ y
set-equal x y same = (bytes_eq-Decides x y).0 same

pub set-itself : (x : List ℕ) → bytes_eq x x ≡ true
set-itself x = (bytes_eq-Decides x x).1 refl

pub length-lists_of : (sets : List (Vec ℕ Global)) → length (lists_of sets) ≡ length sets
unfolding lists_of
length-lists_of sets = length-map sets (λ (set : Vec ℕ Global). set.items)

-- ---- a set by its number
pub stands-lists : (sets : List (Vec ℕ Global)) (n : ℕ) (set : Vec ℕ Global) → slice_get sets n ≡ Some set → StandsAt (lists_of sets) n set.items
unfolding lists_of
stands-lists sets n set here = stands-map (λ (v : Vec ℕ Global). v.items) sets n set here

pub stands-same : (sets : List (Vec ℕ Global)) (n : ℕ) (set : Vec ℕ Global) (list : List ℕ) → slice_get sets n ≡ Some set → bytes_eq list set.items ≡ true
    → StandsAt (lists_of sets) n list
stands-same sets n set list here same = subst (StandsAt (lists_of sets) n) (sym (set-equal list set.items same)) (stands-lists sets n set here)

pub found-lists : (list : List ℕ) (sets : List (Vec ℕ Global)) (n : ℕ) → position (λ (set : Vec ℕ Global). bytes_eq list set.items) sets ≡ Some n
    → StandsAt (lists_of sets) n list
found-lists list [] n found = cc
found-lists list (first ∷ sets) n found =
    let at = position-Some (λ (set : Vec ℕ Global). bytes_eq list set.items) (first ∷ sets) n first found in
    stands-same (first ∷ sets) n (get_or (first ∷ sets) n first) list (slice_get-get_or (first ∷ sets) n first at.0) at.1

pub any-lists : (list : List ℕ) (sets : List (Vec ℕ Global))
    → list_any (λ (set : Vec ℕ Global). bytes_eq list set.items) sets ≡ list_any (bytes_eq list) (lists_of sets)
unfolding lists_of
any-lists list [] = refl
any-lists list (set ∷ sets) = ap (λ b. bytes_eq list set.items || b) (any-lists list sets)

-- ---- one set more
lists_of-push : (sets : List (Vec ℕ Global)) (set : Vec ℕ Global) → lists_of (sets ++ set ∷ []) ≡ lists_of sets ++ set.items ∷ []
unfolding lists_of
lists_of-push [] set = refl
lists_of-push (first ∷ sets) set = ap (λ lists. first.items ∷ lists) (lists_of-push sets set)

pub lists_of-insert_key : (sets : List (Vec ℕ Global)) (set : Vec ℕ Global)
    → lists_of (insert_key (λ (x : Vec ℕ Global) (y : Vec ℕ Global). bytes_eq x.items y.items) sets set) ≡ with_last bytes_eq (lists_of sets) set.items
unfolding with_last
lists_of-insert_key sets set = go (list_any (λ (y : Vec ℕ Global). bytes_eq set.items y.items) sets) (list_any (bytes_eq set.items) (lists_of sets))
    (any-lists set.items sets)
  where
    go : (a b : Bool) → a ≡ b → lists_of (if a then sets else sets ++ set ∷ []) ≡ cond b (lists_of sets) (lists_of sets ++ set.items ∷ [])
    go true true e = refl
    go true false e = cc
    go false true e = cc
    go false false e = lists_of-push sets set
