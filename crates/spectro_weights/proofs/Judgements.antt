-- A line gives one weighing or has one fault.
use Rattle.std.proofs.Common.{◌≡◌, ◌∙◌, ℕ, List, [], ◌∷◌, ◌++◌, length, refl, sym, ap, subst, inl, inr, arith}
use Rattle.std.specs.Prelude.{◌⊎◌}
use Rattle.std.proofs.lemmas.Bool.{both_ways, cases_Bool, cases_lt}
use Rattle.spectro_io.specs.Blanks.{trimmed}
use Rattle.spectro_io.specs.Numbers.{is_number, number_value}
use Rattle.spectro_io.specs.QuotedLabels.{IsQuoted}
use Rattle.spectro_io.specs.Tokens.{first_token, after_token}
use Rattle.spectro_io.proofs.QuoteCases.{in_quotes-cases, label-cases}
use Rattle.spectro_spec.specs.Weighing.{Weight, Weighing}
use Rattle.spectro_weights.specs.Faults.{IsEntryFault, bad_line, bad_label, bad_weight, IsPlaceFault, repeated, too_many_labels, IsLineFault, no_entry, no_place}
use Rattle.spectro_weights.specs.Setting.{is_set}
use Rattle.spectro_weights.specs.WeightLines.{IsWeightLine, IsEntryLine, HasPlace, Gives}
use Rattle.spectro_weights.specs.declared.error.WeightKind.{WeightKind}
use Rattle.spectro_weights.specs.declared.error.WeightKind.TheVariants.{BadLine, BadLabel, BadWeight, Repeated, TooManyLabels}
use Rattle.spectro_weights.proofs.WeightLines.{digits-once, entry-once, found-IsWeightLine, in_quotes_is, inside-once, token_is}

-- a label that stands between the quotes of the line stands between them however its parts are found
quoted_too : (line digits others inside found label : List ℕ) → IsWeightLine line digits inside → IsWeightLine line others found → IsQuoted inside label
    → IsQuoted found label
quoted_too line digits others inside found label one two quoted =
    subst (λ inside. IsQuoted inside label) (inside-once line digits others inside found one two) quoted

entry_fault-once : (line : List ℕ) (one two : WeightKind) → IsEntryFault line one → IsEntryFault line two → one ≡ two
entry_fault-once line one two (bad_line none is) (bad_line none_too same) = is ∙ sym same
entry_fault-once line one two (bad_line none is) (bad_label digits inside form unquoted same) = absurd (none digits inside form)
entry_fault-once line one two (bad_line none is) (bad_weight digits inside label form quoted heavy same) = absurd (none digits inside form)
entry_fault-once line one two (bad_label digits inside form unquoted is) (bad_line none same) = absurd (none digits inside form)
entry_fault-once line one two (bad_label digits inside form unquoted is) (bad_label others found form_too unquoted_too same) = is ∙ sym same
entry_fault-once line one two (bad_label digits inside form unquoted is) (bad_weight others found label form_too quoted heavy same) =
    absurd (unquoted label (quoted_too line others digits found inside label form_too form quoted))
entry_fault-once line one two (bad_weight digits inside label form quoted heavy is) (bad_line none same) = absurd (none digits inside form)
entry_fault-once line one two (bad_weight digits inside label form quoted heavy is) (bad_label others found form_too unquoted same) =
    absurd (unquoted label (quoted_too line digits others inside found label form form_too quoted))
entry_fault-once line one two (bad_weight digits inside label form quoted heavy is) (bad_weight others found label_too form_too quoted_too heavy_too same) =
    is ∙ sym same

entry-no_fault : (line : List ℕ) (found : Weight) (kind : WeightKind) → IsEntryLine line found → IsEntryFault line kind → ⊥
entry-no_fault line found kind is (bad_line none same) = none is.digits is.inside is.form
entry-no_fault line found kind is (bad_label digits inside form unquoted same) =
    unquoted found.label (quoted_too line is.digits digits is.inside inside found.label is.form form is.label)
entry-no_fault line found kind is (bad_weight digits inside label form quoted heavy same) =
    let value : number_value is.digits ≡ number_value digits = ap number_value (digits-once line is.digits digits is.inside inside is.form form) in
    omega (arith, is.light, is.weight, value, heavy)

place_fault-once : (weighing : Weighing) (found : Weight) (one two : WeightKind) → IsPlaceFault weighing found one → IsPlaceFault weighing found two → one ≡ two
place_fault-once weighing found one two (repeated set is) (repeated set_too same) = is ∙ sym same
place_fault-once weighing found one two (repeated set is) (too_many_labels new many same) = absurd (both_ways (is_set weighing found.label) new set)
place_fault-once weighing found one two (too_many_labels new many is) (repeated set same) = absurd (both_ways (is_set weighing found.label) new set)
place_fault-once weighing found one two (too_many_labels new many is) (too_many_labels new_too many_too same) = is ∙ sym same

place-no_fault : (weighing : Weighing) (found : Weight) (kind : WeightKind) → HasPlace weighing found → IsPlaceFault weighing found kind → ⊥
place-no_fault weighing found kind place (repeated set same) = both_ways (is_set weighing found.label) place.new set
place-no_fault weighing found kind place (too_many_labels new many same) = omega (arith, place.room, many)

-- a line of the right form
labelled : (line inside : List ℕ) → IsWeightLine line (first_token line) inside
    → ((found : Weight) × IsEntryLine line found) ⊎ ((kind : WeightKind) × IsEntryFault line kind)
labelled line inside form =
    elim (label-cases inside) [
      | inl quoted ↦ elim (cases_lt 255 (number_value (first_token line))) [
        | inl heavy ↦ inr (BadWeight, bad_weight (first_token line) inside quoted.0 form quoted.1 heavy refl)
        | inr light ↦
            inl (
              record { label = quoted.0; weight = number_value (first_token line) },
              record
                  { digits = first_token line; inside = inside; form = form; label = quoted.1; weight = refl; light = light },
            )
      ]
      | inr none ↦ inr (BadLabel, bad_label (first_token line) inside form none refl)
    ]

entry-cases : (line : List ℕ) → ((found : Weight) × IsEntryLine line found) ⊎ ((kind : WeightKind) × IsEntryFault line kind)
entry-cases line =
    elim (cases_Bool (is_number (first_token line))) [
      | inl number ↦ elim (in_quotes-cases (trimmed (after_token line))) [
        | inl quoted ↦ labelled line quoted.0 (found-IsWeightLine line quoted.0 number quoted.1)
        | inr none ↦ inr (BadLine, bad_line (λ digits inside is. none inside (in_quotes_is line digits inside is)) refl)
      ]
      | inr not_so ↦
          inr (
            BadLine,
            bad_line
                (λ digits inside is. both_ways (is_number (first_token line)) not_so (ap is_number (token_is line digits inside is) ∙ is.number)) refl,
          )
    ]

place-cases : (weighing : Weighing) (found : Weight) → HasPlace weighing found ⊎ ((kind : WeightKind) × IsPlaceFault weighing found kind)
place-cases weighing found =
    elim (cases_Bool (is_set weighing found.label)) [
      | inl set ↦ inr (Repeated, repeated set refl)
      | inr new ↦ elim (cases_lt (length weighing) 65536) [
        | inl room ↦ inl (record { new = new; room = room })
        | inr many ↦ inr (TooManyLabels, too_many_labels new many refl)
      ]
    ]

module _ (weighing : Weighing) (line : List ℕ) where
  placed : (one two : Weight) → IsEntryLine line one → IsEntryLine line two → (P : Weight → Type 0) → P one → P two
  placed one two first second P is = subst P (entry-once line one two first second) is

  pub line_fault-once : (one two : WeightKind) → IsLineFault weighing line one → IsLineFault weighing line two → one ≡ two
  line_fault-once one two (no_entry fault) (no_entry fault_too) = entry_fault-once line one two fault fault_too
  line_fault-once one two (no_entry fault) (no_place found is fault_too) = absurd (entry-no_fault line found one is fault)
  line_fault-once one two (no_place found is fault) (no_entry fault_too) = absurd (entry-no_fault line found two is fault_too)
  line_fault-once one two (no_place found is fault) (no_place found_too same fault_too) =
      place_fault-once weighing found_too one two (placed found found_too is same (λ found. IsPlaceFault weighing found one) fault) fault_too

  pub gives-once : (one two : Weighing) → Gives weighing line one → Gives weighing line two → one ≡ two
  gives-once one two first second =
      first.list ∙ ap (λ found. weighing ++ found ∷ []) (entry-once line first.entry second.entry first.is_entry second.is_entry) ∙ sym second.list

  pub gives-no_fault : (next : Weighing) (kind : WeightKind) → Gives weighing line next → IsLineFault weighing line kind → ⊥
  gives-no_fault next kind gives (no_entry fault) = entry-no_fault line gives.entry kind gives.is_entry fault
  gives-no_fault next kind gives (no_place found is fault) =
      place-no_fault weighing found kind (placed gives.entry found gives.is_entry is (HasPlace weighing) gives.place) fault

  pub gives-cases : ((next : Weighing) × Gives weighing line next) ⊎ ((kind : WeightKind) × IsLineFault weighing line kind)
  gives-cases =
      elim (entry-cases line) [
        | inl found ↦ elim (place-cases weighing found.0) [
          | inl place ↦ inl (weighing ++ found.0 ∷ [], record { entry = found.0; is_entry = found.1; place = place; list = refl })
          | inr fault ↦ inr (fault.0, no_place found.0 found.1 fault.1)
        ]
        | inr fault ↦ inr (fault.0, no_entry fault.1)
      ]
