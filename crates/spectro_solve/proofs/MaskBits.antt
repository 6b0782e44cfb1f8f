-- Bits of masks: one bit taken away, and all bits turned round.
use Rattle.std.proofs.Common.{ℕ, zero, suc, ◌≡◌, ◌≢◌, ◌+◌, ◌-◌, ◌*◌, ◌/◌, ◌%◌, ◌^◌, ◌<◌, ◌≤◌, ◌⊎◌, inl, inr, w64, refl, sym, ap, subst, ◌∙◌, arith}
use Rattle.std.specs.Int.{bit_at, trailing_zeros}
use Rattle.std.proofs.Math.Nat.{pow-suc}
use Rattle.std.proofs.Math.Pow.{pow-lt}
use Rattle.std.proofs.lemmas.Nat.{pow_pos}
use Rattle.std.proofs.lemmas.Nat.Bits.{bit_at-suc, bit_at-trailing_zeros, bit_at_above, bit_at_lowest}

-- the mask without bit i
pub record IsWithout (mask i rest : ℕ) : Type 0 where
  pub less : 2 ^ i ≤ mask
  pub same : (j : ℕ) → j ≢ i → bit_at rest j ≡ bit_at mask j
  pub clear : bit_at rest i ≡ 0

pub bit-taken : (i mask : ℕ) → bit_at mask i ≡ 1 → IsWithout mask i (mask - 2 ^ i)
bit-taken zero mask set =
    let odd : mask % 2 ≡ 1 = sym (bit_at_lowest mask) ∙ set in
    let half : (mask - 1) / 2 ≡ mask / 2 = omega arith in
    record {
      less = omega arith;
      same = λ j other. first j other half;
      clear = bit_at_lowest (mask - 1) ∙ (let even : (mask - 1) % 2 ≡ 0 = omega arith in even);
    }
  where
    first : (j : ℕ) → j ≢ 0 → (mask - 1) / 2 ≡ mask / 2 → bit_at (mask - 1) j ≡ bit_at mask j
    first zero other half = absurd (other refl)
    first (suc j) other half = bit_at-suc (mask - 1) j ∙ ap (λ n. bit_at n j) half ∙ sym (bit_at-suc mask j)
bit-taken (suc i) mask set =
    let rest = bit-taken i (mask / 2) (sym (bit_at-suc mask i) ∙ set) in
    let double : 2 ^ suc i ≡ 2 * 2 ^ i = omega (arith, pow-suc 2 i) in
    let half : (mask - 2 ^ suc i) / 2 ≡ mask / 2 - 2 ^ i = omega (arith, double, rest.less) in
    let parity : (mask - 2 ^ suc i) % 2 ≡ mask % 2 = omega (arith, double, rest.less) in
    record {
      less = omega (arith, double, rest.less);
      same = λ j other. later rest half parity j other;
      clear = bit_at-suc (mask - 2 ^ suc i) i ∙ ap (λ n. bit_at n i) half ∙ rest.clear;
    }
  where
    later : IsWithout (mask / 2) i (mask / 2 - 2 ^ i) → (mask - 2 ^ suc i) / 2 ≡ mask / 2 - 2 ^ i → (mask - 2 ^ suc i) % 2 ≡ mask % 2
        → (j : ℕ) → j ≢ suc i → bit_at (mask - 2 ^ suc i) j ≡ bit_at mask j
    later rest half parity zero other = bit_at_lowest (mask - 2 ^ suc i) ∙ parity ∙ sym (bit_at_lowest mask)
    later rest half parity (suc j) other = bit_at-suc (mask - 2 ^ suc i) j ∙ ap (λ n. bit_at n j) half
        ∙ rest.same j (λ is. other (ap suc is)) ∙ sym (bit_at-suc mask j)

-- the mask of the other members has the other bits
pub bit-other : (n mask i : ℕ) → mask < 2 ^ n → i < n → bit_at (2 ^ n - 1 - mask) i + bit_at mask i ≡ 1
bit-other zero mask i below place = absurd (omega arith)
bit-other (suc n) mask zero below place =
    let double : 2 ^ suc n ≡ 2 * 2 ^ n = omega (arith, pow-suc 2 n) in
    let own = bit_at_lowest mask in
    let other = bit_at_lowest (2 ^ suc n - 1 - mask) in
    omega (arith, double, own, other)
bit-other (suc n) mask (suc i) below place =
    let double : 2 ^ suc n ≡ 2 * 2 ^ n = omega (arith, pow-suc 2 n) in
    let half : (2 ^ suc n - 1 - mask) / 2 ≡ 2 ^ n - 1 - mask / 2 = omega (arith, double) in
    ap (λ b. b + bit_at mask (suc i)) (bit_at-suc (2 ^ suc n - 1 - mask) i ∙ ap (λ m. bit_at m i) half)
    ∙ ap (λ b. bit_at (2 ^ n - 1 - mask / 2) i + b) (bit_at-suc mask i)
    ∙ bit-other n (mask / 2) i (omega (arith, double)) (omega arith)

-- the lowest bit of a mask of n members, and the mask without it, as the machine makes them
pub record IsLowest (mask n i rest : ℕ) : Type 0 where
  pub within : i < n
  pub set : bit_at mask i ≡ 1
  pub less : (1 * 2 ^ i) % 18446744073709551616 ≤ mask
  pub smaller : rest < mask
  pub without : IsWithout mask i rest

pub lowest-bit : (mask n : ℕ) → mask ≢ 0 → mask < 2 ^ n → n < 32
    → IsLowest mask n (trailing_zeros w64 mask) (mask - (1 * 2 ^ trailing_zeros w64 mask) % 18446744073709551616)
lowest-bit mask n some below few =
    let bound : 2 ^ n < 2 ^ 32 = pow-lt {i = n} {j = 32} few in
    let numeral : 2 ^ 32 ≡ 4294967296 = refl in
    let found = bit_at-trailing_zeros w64 mask (omega arith) (let wide : mask < 18446744073709551616 = omega arith in wide) in
    let taken = bit-taken (trailing_zeros w64 mask) mask found.1 in
    let power : (1 * 2 ^ trailing_zeros w64 mask) % 18446744073709551616 ≡ 2 ^ trailing_zeros w64 mask = omega (arith, taken.less) in
    record {
      within = by (found.1) (let h : (trailing_zeros w64 mask < n) ⊎ (n ≤ trailing_zeros w64 mask) = grind arith in h);
      set = found.1;
      less = omega (arith, power, taken.less);
      smaller = omega (arith, power, taken.less, pow_pos (trailing_zeros w64 mask));
      without = subst (λ p. IsWithout mask (trailing_zeros w64 mask) (mask - p)) (sym power) taken;
    }
  where
    by : bit_at mask (trailing_zeros w64 mask) ≡ 1 → (trailing_zeros w64 mask < n) ⊎ (n ≤ trailing_zeros w64 mask) → trailing_zeros w64 mask < n
    by set (inl within) = within
    by set (inr past) = absurd (let none = bit_at_above mask n (trailing_zeros w64 mask) below past in omega (arith, none, set))

-- how many masks a set has, as the machine makes it
pub power-fits : (n : ℕ) → n ≤ 19 → (1 * 2 ^ n) % 18446744073709551616 ≡ 2 ^ n
power-fits n few =
    let bound : 2 ^ n < 2 ^ 20 = pow-lt {i = n} {j = 20} (omega arith) in
    let numeral : 2 ^ 20 ≡ 1048576 = refl in
    omega arith

pub power-fits-half : (n : ℕ) → n ≤ 19 → (1 * 2 ^ n) % 4294967296 ≡ 2 ^ n
power-fits-half n few =
    let bound : 2 ^ n < 2 ^ 20 = pow-lt {i = n} {j = 20} (omega arith) in
    let numeral : 2 ^ 20 ≡ 1048576 = refl in
    omega arith
