-- Numbers in columns: where a column or a row is written, the others stay.
use Rattle.std.proofs.Common.{ℕ, ◌≡◌, ◌≢◌, ◌+◌, ◌-◌, ◌*◌, ◌<◌, ◌≤◌, ◌⊎◌, List, length, inl, inr}
use Rattle.std.proofs.Common.{sym, ap, ◌∙◌, arith, max, set, get_or, get_or-set_same, get_or-set_other, below_more, mul_comm, add_assoc}
use Rattle.std.proofs.lemmas.Bool.{cases_lt, cases_order}
use Rattle.std.proofs.lemmas.Nat.{mul-add-lt}

-- a row of an earlier column comes before the later column
pub row_below : (j p stride i : ℕ) → j < p → i < stride → j * stride + i < p * stride
row_below j p stride i low below = omega (arith, mul-add-lt j stride i p low below, mul_comm stride p)

-- other rows, and rows of other columns, are elsewhere
pub rows_apart : (j p stride i k : ℕ) → i < stride → k < stride → (j ≢ p) ⊎ (i ≢ k) → j * stride + i ≢ p * stride + k
rows_apart j p stride i k low below apart same = elim (cases_order j p) [
  | inl equal ↦ let equals : j * stride ≡ p * stride = ap (λ x. x * stride) equal in
      elim apart [ inl other ↦ other equal | inr other ↦ other (omega arith) ]
  | inr rest ↦ elim rest [
    | inl before ↦ omega (arith, row_below j p stride i before low)
    | inr after ↦ omega (arith, row_below p j stride k after below)
  ]
]

-- eight more of the places from `place` on hold the greater of a number and the bound
pub greater_more : (from old new : List ℕ) (at place bound k : ℕ)
    → ((i : ℕ) → i < 8 → get_or new (place + k + i) 0 ≡ max (get_or from (at + k + i) 0) bound)
    → ((p : ℕ) → (p < place + k) ⊎ (place + k + 8 ≤ p) → get_or new p 0 ≡ get_or old p 0)
    → ((i : ℕ) → i < k → get_or old (place + i) 0 ≡ max (get_or from (at + i) 0) bound)
    → (i : ℕ) → i < k + 8 → get_or new (place + i) 0 ≡ max (get_or from (at + i) 0) bound
greater_more from old new at place bound k here others was i low = elim (cases_lt i k) [
  | inl below ↦ others (place + i) (inl (omega arith)) ∙ was i below
  | inr above ↦
      let there : place + k + (i - k) ≡ place + i = omega arith in
      let here_from : at + k + (i - k) ≡ at + i = omega arith in
      ap (λ p. get_or new p 0) (sym there) ∙ here (i - k) (omega arith) ∙ ap (λ p. max (get_or from p 0) bound) here_from
]

-- the places before a column's part and after it
pub beside : (at n stride j p i : ℕ) → at + n ≤ stride → i < stride → (i < at) ⊎ (at + n ≤ i)
    → (j * stride + i < p * stride + at) ⊎ (p * stride + at + n ≤ j * stride + i)
beside at n stride j p i room low aside = elim (cases_order j p) [
  | inl equal ↦ let equals : j * stride ≡ p * stride = ap (λ x. x * stride) equal in
      elim aside [ inl before ↦ inl (omega arith) | inr after ↦ inr (omega arith) ]
  | inr rest ↦ elim rest [
    | inl before ↦ inl (omega (arith, row_below j p stride i before low))
    | inr after ↦ let last : stride - 1 < stride = omega arith in inr (omega (arith, row_below p j stride (stride - 1) after last))
  ]
]

-- one more column has its part
pub columns_more : (from old new : List ℕ) (from_stride stride at n p : ℕ) (parts : List ℕ) → at + n ≤ stride
    → ((i : ℕ) → i < n → get_or new (p * stride + at + i) 0 ≡ max (get_or from (p * from_stride + i) 0) (get_or parts p 0))
    → ((q : ℕ) → (q < p * stride + at) ⊎ (p * stride + at + n ≤ q) → get_or new q 0 ≡ get_or old q 0)
    → ((j : ℕ) → j < p → (i : ℕ) → i < n → get_or old (j * stride + (at + i)) 0 ≡ max (get_or from (j * from_stride + i) 0) (get_or parts j 0))
    → (j : ℕ) → j < p + 1 → (i : ℕ) → i < n → get_or new (j * stride + (at + i)) 0 ≡ max (get_or from (j * from_stride + i) 0) (get_or parts j 0)
columns_more from old new from_stride stride at n p parts room here others was =
    below_more (λ j. (i : ℕ) → i < n → get_or new (j * stride + (at + i)) 0 ≡ max (get_or from (j * from_stride + i) 0) (get_or parts j 0)) p
    (λ j low i below. others (j * stride + (at + i)) (inl (omega (arith, row_below j p stride (at + i) low (omega arith)))) ∙ was j low i below)
    (λ i below. ap (λ q. get_or new q 0) (sym (add_assoc (p * stride) at i)) ∙ here i below)

-- one more part of a row is written, and the other rows stay
pub row_more : (old : List ℕ) (parts : List ℕ) (stride k p : ℕ) → length old ≡ 7 * stride → k < stride → p < 7
    → ((j : ℕ) → j < p → get_or old (j * stride + k) 0 ≡ get_or parts j 0)
    → (j : ℕ) → j < p + 1 → get_or (set old (p * stride + k) (get_or parts p 0)) (j * stride + k) 0 ≡ get_or parts j 0
row_more old parts stride k p whole room low was =
    below_more (λ j. get_or (set old (p * stride + k) (get_or parts p 0)) (j * stride + k) 0 ≡ get_or parts j 0) p
    (λ j before. let other : j ≢ p = omega arith in
    get_or-set_other old (p * stride + k) (j * stride + k) (get_or parts p 0) 0 (rows_apart j p stride k k room room (inl other)) ∙ was j before)
    (get_or-set_same old (p * stride + k) (get_or parts p 0) 0 (omega (arith, row_below p 7 stride k low room)))

pub rows_stay : (old was : List ℕ) (stride k p value : ℕ) → k < stride
    → ((j : ℕ) → j < 7 → (i : ℕ) → i < stride → i ≢ k → get_or old (j * stride + i) 0 ≡ get_or was (j * stride + i) 0)
    → (j : ℕ) → j < 7 → (i : ℕ) → i < stride → i ≢ k → get_or (set old (p * stride + k) value) (j * stride + i) 0 ≡ get_or was (j * stride + i) 0
rows_stay old was stride k p value room same j low i below apart =
    get_or-set_other old (p * stride + k) (j * stride + i) value 0 (rows_apart j p stride i k below room (inr apart)) ∙ same j low i below apart
