-- The front of a line: what is kept of it, and what its answer needs.
use Rattle.std.proofs.Common.{◌≡◌, ◌∙◌, ℕ, ◌+◌, ◌-◌, ◌<◌, ◌≤◌, min, Bool, true, false, cond, List, ◌++◌, take, drop, length, refl, sym, ap, arith, inl, inr, length-append, length-take}
use Rattle.std.specs.Prelude.{nat_lt, slice_range}
use Rattle.std.proofs.lemmas.Grind.{common_steps}
use Rattle.std.proofs.lemmas.List.{take_all, take-append-le, drop-take}
use Rattle.std.proofs.Math.ListN.{drop_of_length-le}
use Rattle.std.proofs.Math.Seq.{take-append-add, take-take, drop-drop}
use Rattle.std.proofs.lemmas.Bool.{cases_lt}
use Rattle.spectro_io.specs.Lines.{without_cr}
use Rattle.spectro_io.specs.LineReaders.{ReaderState}

-- as much of the second list as the limit has room for
pub put-take : (limit : ℕ) (xs ys : List ℕ) → length xs ≤ limit → xs ++ take (min (length ys) (limit - length xs)) ys ≡ take limit (xs ++ ys)
put-take limit xs ys within =
    elim (cases_lt (length ys) (limit - length xs)) [
      | inl less ↦ let count : min (length ys) (limit - length xs) ≡ length ys = omega arith in
          rw count (ap (λ l. xs ++ l) (take_all (length ys) ys (omega arith)) ∙ sym (take_all limit (xs ++ ys) (omega (arith, length-append xs ys))))
      | inr more ↦ let count : min (length ys) (limit - length xs) ≡ limit - length xs = omega arith in
          let whole : length xs + (limit - length xs) ≡ limit = omega arith in
          rw count (sym (take-append-add xs ys (limit - length xs)) ∙ ap (λ n. take n (xs ++ ys)) whole)
    ]

-- the front of a list, and more after it, has the same front as the whole
pub take-front : (limit : ℕ) (xs ys : List ℕ) → take limit (take limit xs ++ ys) ≡ take limit (xs ++ ys)
take-front limit xs ys =
    elim (cases_lt (length xs) limit) [
      | inl less ↦ ap (λ l. take limit (l ++ ys)) (take_all limit xs (omega arith))
      | inr more ↦ take-append-le limit (take limit xs) ys (omega (arith, length-take limit xs)) ∙ take-take limit limit xs (omega arith)
          ∙ sym (take-append-le limit xs ys more)
    ]

-- a line loses at most one byte with its CR, and keeps those before it
without_cr-front : (limit : ℕ) (line : List ℕ) → limit < length line
    → (take limit (without_cr line) ≡ take limit line) × (length line ≤ length (without_cr line) + 1)
without_cr-front limit line long = cases _
  where
    cases : (cr : Bool) → (take limit (cond cr (take (length line - 1) line) line) ≡ take limit line) ×
        (length line ≤ length (cond cr (take (length line - 1) line) line) + 1)
    cases true = (take-take limit (length line - 1) line (omega arith), omega (arith, length-take (length line - 1) line))
    cases false = (refl, omega arith)

-- with two bytes more than are kept it is known what is kept of a line
pub kept-front : (limit : ℕ) (line : List ℕ) → take limit (without_cr (take (limit + 2) line)) ≡ take limit (without_cr line)
kept-front limit line = elim (cases_lt (length line) (limit + 2)) [
  | inl less ↦ ap (λ l. take limit (without_cr l)) (take_all (limit + 2) line (omega arith))
  | inr more ↦ (without_cr-front limit (take (limit + 2) line) (omega (arith, length-take (limit + 2) line))).0
      ∙ take-take limit (limit + 2) line (omega arith) ∙ sym (without_cr-front limit line (omega arith)).0
]

-- and whether the line is longer
pub cut-front : (limit : ℕ) (line : List ℕ) → nat_lt limit (length (without_cr (take (limit + 2) line))) ≡ nat_lt limit (length (without_cr line))
cut-front limit line = elim (cases_lt (length line) (limit + 2)) [
  | inl less ↦ ap (λ l. nat_lt limit (length (without_cr l))) (take_all (limit + 2) line (omega arith))
  | inr more ↦
      let short = (without_cr-front limit (take (limit + 2) line) (omega (arith, length-take (limit + 2) line))).1 in
      let whole = (without_cr-front limit line (omega arith)).1 in
      let a : nat_lt limit (length (without_cr (take (limit + 2) line))) ≡ true = grind (arith, common_steps, short, length-take (limit + 2) line) in
      let b : nat_lt limit (length (without_cr line)) ≡ true = grind (arith, common_steps, whole) in
      a ∙ sym b
]

-- a line without its CR is a front of it
without_cr-prefix : (line : List ℕ) → without_cr line ≡ take (length (without_cr line)) line
without_cr-prefix line = cases _
  where
    cases : (cr : Bool) → cond cr (take (length line - 1) line) line ≡ take (length (cond cr (take (length line - 1) line) line)) line
    cases true =
        let len : length (take (length line - 1) line) ≡ length line - 1 = omega (arith, length-take (length line - 1) line) in
        sym (ap (λ n. take n line) len)
    cases false = sym (take_all (length line) line (omega arith))

-- a line cut where its CR stands, or at the limit
pub take-without_cr : (limit : ℕ) (line : List ℕ) → take (min (length (without_cr line)) limit) line ≡ take limit (without_cr line)
take-without_cr limit line =
    let whole = without_cr-prefix line in
    elim (cases_lt (length (without_cr line)) limit) [
      | inl less ↦ let count : min (length (without_cr line)) limit ≡ length (without_cr line) = omega arith in
          ap (λ n. take n line) count ∙ sym whole ∙ sym (take_all limit (without_cr line) (omega arith))
      | inr more ↦ let count : min (length (without_cr line)) limit ≡ limit = omega arith in
          ap (λ n. take n line) count ∙ sym (take-take limit (length (without_cr line)) line more) ∙ ap (take limit) (sym whole)
    ]

-- what is left of the part of a piece behind its first bytes
pub part-rest : (piece : List ℕ) (at end count : ℕ) → at ≤ end → slice_range piece (min end (at + count)) end ≡ drop count (slice_range piece at end)
part-rest piece at end count within = elim (cases_lt end (at + count)) [
  | inl less ↦
      let place : min end (at + count) ≡ end = omega arith in
      let none : end - end ≡ 0 = omega arith in
      rw (place, none) (sym (drop_of_length-le (take (end - at) (drop at piece)) (omega (arith, length-take (end - at) (drop at piece)))))
  | inr more ↦
      let place : min end (at + count) ≡ at + count = omega arith in
      let whole : end - at ≡ count + (end - (at + count)) = omega arith in
      rw (place, whole, drop-take count (end - (at + count)) (drop at piece), drop-drop count at piece) refl
]

-- a reader whose line and bytes ahead are the same is the same
pub same-reader : (taken : ℕ) (begun begun' ahead ahead' line : List ℕ) (cut : Bool) → begun ≡ begun' → ahead ≡ ahead'
    → ◌≡◌ {A = ReaderState} (record { taken = taken; begun = begun; ahead = ahead; line = line; cut = cut })
    (record { taken = taken; begun = begun'; ahead = ahead'; line = line; cut = cut })
same-reader taken begun begun' ahead ahead' line cut front rest = cc
