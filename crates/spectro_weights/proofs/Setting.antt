-- What the setting of one label does to a weighing.
use Rattle.std.proofs.Common.{◌≡◌, ◌≢◌, ◌∙◌, ℕ, ◌+◌, ◌<◌, ◌≤◌, Bool, true, false, [], ◌∷◌, ◌++◌, length, refl, sym, ap, if◌then◌else◌, inl, inr, arith}
use Rattle.std.proofs.lemmas.Bool.{cases_lt, cond-true, or_parts, false_from_ne_true}
use Rattle.std.proofs.lemmas.List.Elements.{All-cons, All-head, All-tail}
use Rattle.std.proofs.lemmas.Slice.Eq.{bytes_eq-Decides}
use Rattle.std.specs.Str.{bytes_eq}
use Rattle.spectro_spec.specs.System.{Label}
use Rattle.spectro_spec.specs.Weighing.{Weighing, IsWeighing, weight_of}
use Rattle.spectro_weights.specs.Setting.{is_set, with_weight}

module _ (label : Label) (weight : ℕ) where
  weight_of-placed : (weighing : Weighing) → weight_of (record { label = label; weight = weight } ∷ weighing) label ≡ weight
  weight_of-placed weighing = cond-true (bytes_eq label label) weight (weight_of weighing label) ((bytes_eq-Decides label label).1 refl)

  -- the label weighs what it was set to
  pub weight_of-with_weight : (weighing : Weighing) → weight_of (with_weight weighing label weight) label ≡ weight
  weight_of-with_weight [] = weight_of-placed []
  weight_of-with_weight (entry ∷ weighing) = by (bytes_eq entry.label label) refl (weight_of-with_weight weighing)
    where
      by : (b : Bool) → bytes_eq entry.label label ≡ b → weight_of (with_weight weighing label weight) label ≡ weight
          → weight_of (with_weight (entry ∷ weighing) label weight) label ≡ weight
      by true e later = rw (e, e) refl
      by false e later = rw (e, e) later

  -- each other label weighs what it did
  pub weight_of-other : (other : Label) → other ≢ label → (weighing : Weighing) → weight_of (with_weight weighing label weight) other ≡ weight_of weighing other
  weight_of-other other differs [] = let apart : bytes_eq label other ≡ false = false_from_ne_true (bytes_eq label other)
      (λ e. differs (sym ((bytes_eq-Decides label other).0 e))) in rw apart refl
  weight_of-other other differs (entry ∷ weighing) = by (bytes_eq entry.label label) refl (bytes_eq entry.label other) refl
      (weight_of-other other differs weighing)
    where
      by : (b : Bool) → bytes_eq entry.label label ≡ b → (c : Bool) → bytes_eq entry.label other ≡ c
          → weight_of (with_weight weighing label weight) other ≡ weight_of weighing other
          → weight_of (with_weight (entry ∷ weighing) label weight) other ≡ weight_of (entry ∷ weighing) other
      by true e true f later = absurd (differs (sym ((bytes_eq-Decides entry.label other).0 f) ∙ (bytes_eq-Decides entry.label label).0 e))
      by true e false f later = rw (e, f) refl
      by false e true f later = rw (e, f) refl
      by false e false f later = rw (e, f) later

  -- only a new label adds to them
  pub length-with_weight : (weighing : Weighing)
      → length (with_weight weighing label weight) ≡ (if is_set weighing label then length weighing else length weighing + 1)
  length-with_weight [] = refl
  length-with_weight (entry ∷ weighing) = by (bytes_eq entry.label label) refl (is_set weighing label) refl (length-with_weight weighing)
    where
      by : (b : Bool) → bytes_eq entry.label label ≡ b → (c : Bool) → is_set weighing label ≡ c
          → length (with_weight weighing label weight) ≡ (if is_set weighing label then length weighing else length weighing + 1)
          → length (with_weight (entry ∷ weighing) label weight) ≡
          (if is_set (entry ∷ weighing) label then length (entry ∷ weighing) else length (entry ∷ weighing) + 1)
      by true e c f later = rw e refl
      by false e true f later = rw (e, f) (let h : length (with_weight weighing label weight) ≡ length weighing = later ∙ rw f refl in omega arith)
      by false e false f later = rw (e, f) (let h : length (with_weight weighing label weight) ≡ length weighing + 1 = later ∙ rw f refl in omega arith)

  pub few-with_weight : (weighing : Weighing) → length weighing ≤ 65536 → (is_set weighing label ≡ false → length weighing < 65536)
      → length (with_weight weighing label weight) ≤ 65536
  few-with_weight weighing few room = by (is_set weighing label) refl
    where
      by : (b : Bool) → is_set weighing label ≡ b → length (with_weight weighing label weight) ≤ 65536
      by true e = let h : length (with_weight weighing label weight) ≡ length weighing = length-with_weight weighing ∙ rw e refl in omega arith
      by false e = let h : length (with_weight weighing label weight) ≡ length weighing + 1 = length-with_weight weighing ∙ rw e refl in omega (arith, room e)

  -- where the weight is one of a weighing, the others with it are a weighing
  pub IsWeighing-with_weight : weight ≤ 255 → (weighing : Weighing) → IsWeighing weighing → IsWeighing (with_weight weighing label weight)
  IsWeighing-with_weight light [] all = All-cons (λ entry. entry.weight ≤ 255) (record { label = label; weight = weight }) [] light all
  IsWeighing-with_weight light (entry ∷ weighing) all = by (bytes_eq entry.label label) refl
      (IsWeighing-with_weight light weighing (All-tail (λ entry. entry.weight ≤ 255) entry weighing all))
    where
      rest : IsWeighing weighing
      rest = All-tail (λ entry. entry.weight ≤ 255) entry weighing all

      by : (b : Bool) → bytes_eq entry.label label ≡ b → IsWeighing (with_weight weighing label weight)
          → IsWeighing (with_weight (entry ∷ weighing) label weight)
      by true e later = rw e (All-cons (λ entry. entry.weight ≤ 255) (record { label = entry.label; weight = weight }) weighing light rest)
      by false e later = rw e
          (All-cons (λ entry. entry.weight ≤ 255) entry (with_weight weighing label weight) (All-head (λ entry. entry.weight ≤ 255) entry weighing all) later)

  -- a new label stands behind the others
  pub with_weight-new : (weighing : Weighing) → is_set weighing label ≡ false
      → with_weight weighing label weight ≡ weighing ++ record { label = label; weight = weight } ∷ []
  with_weight-new [] new = refl
  with_weight-new (entry ∷ weighing) new =
      let parts = or_parts (bytes_eq entry.label label) (is_set weighing label) new in
      rw parts.0 (ap (λ weighing. entry ∷ weighing) (with_weight-new weighing parts.1))

-- a count of labels that is not the greatest leaves room
pub below-65536 : (count labels : ℕ) → count ≡ labels → count ≤ 65536 → (count ≡ 65536 → ⊥) → labels < 65536
below-65536 count labels is bound other = elim (cases_lt count 65536) [ inl less ↦ omega (arith, is) | inr more ↦ absurd (other (omega arith)) ]
