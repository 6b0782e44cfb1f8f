-- A text that is cut at its first LF.
use Rattle.std.proofs.Common.{◌≡◌, ◌∙◌, ℕ, ◌+◌, ◌-◌, ◌<◌, true, List, ◌∷◌, ◌++◌, length, take, drop, Contains, position, None, Some, inl, inr, sym, ap, subst, arith, take-append-drop}
use Rattle.std.specs.Prelude.{◌==◌, Bool, nat_lt}
use Rattle.std.specs.List.{position_or_len}
use Rattle.std.proofs.lemmas.Bool.{both_ways, cases_lt, lt-ltb, eqb-true, eq-eqb}
use Rattle.std.proofs.lemmas.List.{drop_more, get_or-take, length-drop, length-take}
use Rattle.std.proofs.lemmas.List.Quantifiers.{position-Some}
use Rattle.std.proofs.lemmas.List.Sums.{fails_before_first}
use Rattle.std.proofs.Math.Seq.{take-length}
use Rattle.spectro_lines.specs.LineReading.{IsSplit}

abbrev is_feed : ℕ → Bool
is_feed byte = byte == 10

split-at : (bytes : List ℕ) (place : ℕ) → position is_feed bytes ≡ Some place → IsSplit bytes (take place bytes) (drop (place + 1) bytes)
split-at bytes place is =
    let found = position-Some is_feed bytes place 10 is in
    let within : place < length bytes = found.0 in
    record {
      whole =
          sym (take-append-drop place bytes)
          ∙ ap (λ rest. take place bytes ++ rest) (drop_more bytes place 10 within ∙ ap (λ byte. byte ∷ drop (place + 1) bytes) (eqb-true _ _ found.1));
      unbroken = λ contains.
          let below : contains.0 < place = let few = contains.1 in omega (arith, length-take place bytes) in
          both_ways _ (found.2 contains.0 below) (eq-eqb _ _ (sym (get_or-take place bytes contains.0 10 below) ∙ contains.2));
    }

-- the rest is a range up to the end
pub split-ranges : (bytes : List ℕ) (place : ℕ) → position is_feed bytes ≡ Some place
    → IsSplit bytes (take place bytes) (take (length bytes - (place + 1)) (drop (place + 1) bytes))
split-ranges bytes place is =
    let rest = drop (place + 1) bytes in
    let all : take (length bytes - (place + 1)) rest ≡ rest = subst (λ n. take n rest ≡ rest) (length-drop (place + 1) bytes) (take-length rest) in
    rw all (split-at bytes place is)

pub split-none : (bytes : List ℕ) → position is_feed bytes ≡ None → ¬ Contains bytes 10
split-none bytes none contains =
    elim (cases_lt (position_or_len is_feed bytes) (length bytes)) [
      | inl inside ↦
          let found : nat_lt (position_or_len is_feed bytes) (length bytes) ≡ true = lt-ltb _ _ inside in
          let some = rw found at none in
          cc
      | inr past ↦ both_ways _ (fails_before_first is_feed bytes contains.0 10 (let below = contains.1 in omega arith)) (eq-eqb _ _ contains.2)
    ]
