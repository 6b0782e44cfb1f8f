-- What a number that is put down makes of those that are kept.
use Rattle.std.proofs.Common.{ℕ, ◌+◌, ◌*◌, ◌/◌, ◌%◌, ◌<◌, ◌≡◌, ◌⊎◌, inl, inr, List, length, set, slice_index, ap, sym, ◌∙◌, subst, arith, get_or-set_same, get_or-set_other}
use Rattle.std.proofs.lemmas.Bool.{cases_eq}
use Rattle.std.proofs.lemmas.Nat.{div-mul-add, mod-mul-add}

-- a place that has a number after one more is put down had it before, or is that of the row and the column
pub kept-or-put : (width : ℕ) (places : List ℕ) (row column n : ℕ) → column < width → row * width + column < length places
    → (p q m : ℕ) → q < width → slice_index (set places (row * width + column) (n + 1)) (p * width + q) ≡ m + 1
    → (slice_index places (p * width + q) ≡ m + 1) ⊎ ((p ≡ row) × (q ≡ column) × (m ≡ n))
kept-or-put width places row column n below within p q m in_range number = go (cases_eq (p * width + q) (row * width + column))
  where
    place : ℕ
    place = row * width + column

    go : ((p * width + q) ≡ (row * width + column)) ⊎ ((p * width + q) ≡ (row * width + column) → ⊥)
        → (slice_index places (p * width + q) ≡ m + 1) ⊎ ((p ≡ row) × (q ≡ column) × (m ≡ n))
    go (inl same) =
        let rows : p ≡ row = sym (div-mul-add p width q in_range) ∙ ap (λ i. i / width) same ∙ div-mul-add row width column below in
        let columns : q ≡ column = sym (mod-mul-add p width q in_range) ∙ ap (λ i. i % width) same ∙ mod-mul-add row width column below in
        let read : slice_index (set places (row * width + column) (n + 1)) (p * width + q) ≡ n + 1 =
        subst (λ i. slice_index (set places (row * width + column) (n + 1)) i ≡ n + 1) (sym same)
        (get_or-set_same places (row * width + column) (n + 1) 0 within) in
        inr (rows, columns, omega (arith, read, number))
    go (inr other) = inl (sym (get_or-set_other places (row * width + column) (p * width + q) (n + 1) 0 other) ∙ number)
