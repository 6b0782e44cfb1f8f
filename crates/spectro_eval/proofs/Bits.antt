-- Bits of states: read, set, and in fresh rows.
use Rattle.std.proofs.Common.{◌≡◌, ◌∙◌, ◌⊎◌, inl, inr, ℕ, ◌*◌, ◌/◌, ◌%◌, ◌^◌, ◌<◌, ◌≢◌, suc, zero, Bool, true, false, not, nat_eq, ◌==◌, List, length, replicate, slice_set, get_or, bit_and, bit_or, w64, refl, sym, ap, arith, tests}
use Rattle.std.specs.Prelude.{if◌then◌else◌}
use Rattle.std.specs.Int.{bit_at}
use Rattle.std.specs.Int.Bits.{or_zero_r}
use Rattle.std.proofs.lemmas.Bool.{cases_eq}
use Rattle.std.proofs.lemmas.Grind.{get_or-set_at}
use Rattle.std.proofs.lemmas.List.{get_or-replicate, get_or-set_other, length-replicate, length-set, set-get_or}
use Rattle.std.proofs.lemmas.List.FromFn.{get_or-map-range_with_len, length-map-range_with_len, fill_by_all}
use Rattle.std.proofs.lemmas.Nat.{one_shl, pow_pos}
use Rattle.std.proofs.lemmas.Nat.Bits.{and_pow, bit_at-lt, bit_at-zero, bit_at_ones, bit_at_set_same, bit_at_set_other}
use mir.Val.{bool_byte}
use Rattle.spectro_eval.specs.Rows.{bit_of, bits_of}

-- the test of a bit
is_one : (b k : ℕ) → b < 2 → not (nat_eq (b * 2 ^ k) 0) ≡ (b == 1)
is_one b k few = grind (arith, tests, pow_pos k)

pub bit_test : (n k : ℕ) → k < 64 → not (nat_eq (bit_and n (1 * 2 ^ k % 2 ^ 64)) 0) ≡ (bit_at n k == 1)
bit_test n k within =
    let masked : bit_and n (1 * 2 ^ k % 2 ^ 64) ≡ bit_at n k * 2 ^ k = ap (bit_and n) (one_shl k 64 within) ∙ and_pow n k in
    rw masked (is_one (bit_at n k) k (bit_at-lt n k))

-- the row with the bit of the state set
abbrev pub with_bit : List ℕ → ℕ → List ℕ
with_bit row s = slice_set row (s / 64) (bit_or (get_or row (s / 64) 0) (1 * 2 ^ (s % 64) % 2 ^ 64))

with_bit-same : (row : List ℕ) (s : ℕ) → s / 64 < length row → bit_of (with_bit row s) s ≡ true
with_bit-same row s within =
    let word = get_or-set_at row (s / 64) (s / 64) (bit_or (get_or row (s / 64) 0) (1 * 2 ^ (s % 64) % 2 ^ 64)) 0 refl within in
    let set : bit_at (get_or (with_bit row s) (s / 64) 0) (s % 64) ≡ 1 = ap (λ word. bit_at word (s % 64)) word
    ∙ bit_at_set_same w64 (get_or row (s / 64) 0) (s % 64) (omega arith) in
    ap (λ bit. bit == 1) set

with_bit-other : (row : List ℕ) (s k : ℕ) → s / 64 < length row → k ≢ s → bit_of (with_bit row s) k ≡ bit_of row k
with_bit-other row s k within other = by (cases_eq (k / 64) (s / 64))
  where
    word : ℕ
    word = bit_or (get_or row (s / 64) 0) (1 * 2 ^ (s % 64) % 2 ^ 64)

    by : (k / 64 ≡ s / 64) ⊎ (k / 64 ≡ s / 64 → ⊥) → bit_of (with_bit row s) k ≡ bit_of row k
    by (inl same) =
        let here : get_or (with_bit row s) (k / 64) 0 ≡ word = get_or-set_at row (s / 64) (k / 64) word 0 same within in
        let apart : k % 64 ≢ s % 64 = λ e. other (omega arith) in
        let kept = bit_at_set_other w64 (get_or row (s / 64) 0) (s % 64) (omega arith) (k % 64) apart in
        let old : get_or row (s / 64) 0 ≡ get_or row (k / 64) 0 = ap (λ i. get_or row i 0) (sym same) in
        ap (λ word. bit_at word (k % 64) == 1) here ∙ ap (λ bit. bit == 1) kept ∙ ap (λ word. bit_at word (k % 64) == 1) old
    by (inr apart) = ap (λ word. bit_at word (k % 64) == 1) (get_or-set_other row (s / 64) (k / 64) word 0 apart)

-- ---- rows as lists
pub length-bits_of : (states : ℕ) (row : List ℕ) → length (bits_of states row) ≡ states
length-bits_of states row = length-map-range_with_len (bit_of row) 0 states

pub bits_of-get : (states : ℕ) (row : List ℕ) (s : ℕ) → s < states → get_or (bits_of states row) s false ≡ bit_of row s
bits_of-get states row s within = get_or-map-range_with_len (bit_of row) 0 states s s false within (omega arith)

-- two rows with the same bits at the states
pub bits_of-same : (states : ℕ) (bits : List Bool) (row : List ℕ) → length bits ≡ states → ((s : ℕ) → s < states → get_or bits s false ≡ bit_of row s)
    → bits_of states row ≡ bits
bits_of-same states bits row long same = sym (fill_by_all (bit_of row) bits states false long same)

pub bits_of-set : (states : ℕ) (row : List ℕ) (s : ℕ) → s / 64 < length row → bits_of states (with_bit row s) ≡ slice_set (bits_of states row) s true
bits_of-set states row s within = bits_of-same states (slice_set (bits_of states row) s true) (with_bit row s) long each
  where
    long : length (slice_set (bits_of states row) s true) ≡ states
    long = length-set (bits_of states row) s true ∙ length-bits_of states row

    each : (k : ℕ) → k < states → get_or (slice_set (bits_of states row) s true) k false ≡ bit_of (with_bit row s) k
    each k below = by (cases_eq k s)
      where
        by : (k ≡ s) ⊎ (k ≡ s → ⊥) → get_or (slice_set (bits_of states row) s true) k false ≡ bit_of (with_bit row s) k
        by (inl same) =
            let inside : s < length (bits_of states row) = omega (arith, length-bits_of states row) in
            get_or-set_at (bits_of states row) s k true false same inside ∙ sym (ap (bit_of (with_bit row s)) same ∙ with_bit-same row s within)
        by (inr other) = get_or-set_other (bits_of states row) s k true false other ∙ bits_of-get states row k below ∙ sym (with_bit-other row s k within other)

zero_shifted : (n : ℕ) → 0 * n % 2 ^ 64 ≡ 0
zero_shifted n = grind arith

-- a bit that is set, or is left as it was
pub bits_of-mark : (states : ℕ) (row : List ℕ) (s : ℕ) (set : Bool) (bit : ℕ) → s / 64 < length row → bit ≡ bool_byte set
    → bits_of states (slice_set row (s / 64) (bit_or (get_or row (s / 64) 0) (bit * 2 ^ (s % 64) % 2 ^ 64))) ≡
    (if set then slice_set (bits_of states row) s true else bits_of states row)
bits_of-mark states row s true bit within is = rw is (bits_of-set states row s within)
bits_of-mark states row s false bit within is =
    let none : bit * 2 ^ (s % 64) % 2 ^ 64 ≡ 0 = ap (λ bit. bit * 2 ^ (s % 64) % 2 ^ 64) is ∙ zero_shifted (2 ^ (s % 64)) in
    let same : slice_set row (s / 64) (bit_or (get_or row (s / 64) 0) (bit * 2 ^ (s % 64) % 2 ^ 64)) ≡ row = ap
    (λ word. slice_set row (s / 64) (bit_or (get_or row (s / 64) 0) word)) none ∙ ap (slice_set row (s / 64)) (or_zero_r (get_or row (s / 64) 0))
    ∙ set-get_or row (s / 64) 0 in
    ap (bits_of states) same

-- ---- fresh rows
zero_word : (n i : ℕ) → get_or {A = ℕ} (replicate n 0) i 0 ≡ 0
zero_word zero i = refl
zero_word (suc n) zero = refl
zero_word (suc n) (suc i) = zero_word n i

pub bits_of-zeros : (states n : ℕ) → bits_of states (replicate n 0) ≡ replicate states false
bits_of-zeros states n = bits_of-same states (replicate states false) (replicate n 0) (length-replicate states false) each
  where
    each : (s : ℕ) → s < states → get_or (replicate states false) s false ≡ bit_of (replicate n 0) s
    each s below =
        let clear : bit_at (get_or (replicate n 0) (s / 64) 0) (s % 64) ≡ 0 = ap (λ word. bit_at word (s % 64)) (zero_word n (s / 64)) ∙ bit_at-zero (s % 64) in
        get_or-replicate states s false false below ∙ sym (ap (λ bit. bit == 1) clear)

pub bit_of-ones : (n s : ℕ) → s / 64 < n → bit_of (replicate n 18446744073709551615) s ≡ true
bit_of-ones n s within =
    let set : bit_at (get_or (replicate n 18446744073709551615) (s / 64) 0) (s % 64) ≡ 1 = ap (λ word. bit_at word (s % 64))
    (get_or-replicate n (s / 64) 18446744073709551615 0 within) ∙ bit_at_ones 64 (s % 64) (omega arith) in
    ap (λ bit. bit == 1) set
