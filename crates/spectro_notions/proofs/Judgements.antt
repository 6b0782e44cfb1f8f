-- A line gives one table or has one fault.
use Rattle.std.proofs.Common.{◌≡◌, ◌∙◌, ℕ, ◌+◌, List, [], ◌∷◌, ◌++◌, length, refl, sym, ap, subst, inl, inr, arith}
use Rattle.std.specs.Prelude.{Option, ◌⊎◌}
use Rattle.std.specs.List.{list_all}
use Rattle.std.proofs.lemmas.Bool.{both_ways, cases_Bool, cases_lt}
use Rattle.spectro_io.specs.Tokens.{first_token}
use Rattle.spectro_spec.specs.Notion.{Notion}
use Rattle.spectro_notions.specs.Bounds.{bound_of}
use Rattle.spectro_notions.specs.Faults.{IsEntryFault, bad_line, bad_number, IsPlaceFault, repeated, too_many, IsLineFault, no_notion, no_place}
use Rattle.spectro_notions.specs.NotionLines.{HasForm, IsNotionLine, HasPlace, Gives, is_small}
use Rattle.spectro_notions.specs.NotionTexts.{IsEmpty, IsEnd}
use Rattle.spectro_notions.specs.Tables.{has_name}
use Rattle.spectro_notions.specs.declared.error.NotionKind.{NotionKind}
use Rattle.spectro_notions.specs.declared.error.NotionKind.TheVariants.{BadLine, BadNumber, NoNotion, Repeated, TooMany}
use Rattle.spectro_notions.proofs.LineForms.{form-cases, name-once, form-parts-once}

-- the parts of a line are small however they are found
small-once : (line name other : List ℕ) (parts others : List (Option ℕ)) → HasForm line name parts → HasForm line other others
    → list_all is_small parts ≡ list_all is_small others
small-once line name other parts others one two = ap (list_all is_small) (form-parts-once line name other parts others one two)

notion-once : (line : List ℕ) (notion other : Notion) → IsNotionLine line notion → IsNotionLine line other → notion ≡ other
notion-once line notion other one two =
    let name : notion.name ≡ other.name = name-once line notion.name other.name one.parts two.parts one.form two.form in
    let parts : one.parts ≡ two.parts = form-parts-once line notion.name other.name one.parts two.parts one.form two.form in
    let bound : notion.bound ≡ other.bound = one.bound ∙ ap bound_of parts ∙ sym two.bound in
    let same : ◌≡◌ {A = Notion} (record { name = notion.name; bound = notion.bound }) (record { name = other.name; bound = other.bound }) = rw
    (name, bound) refl in
    same

entry_fault-once : (line : List ℕ) (one two : NotionKind) → IsEntryFault line one → IsEntryFault line two → one ≡ two
entry_fault-once line one two (bad_line none is) (bad_line none_too same) = is ∙ sym same
entry_fault-once line one two (bad_line none is) (bad_number name parts form great same) = absurd (none name parts form)
entry_fault-once line one two (bad_number name parts form great is) (bad_line none same) = absurd (none name parts form)
entry_fault-once line one two (bad_number name parts form great is) (bad_number other others form_too great_too same) = is ∙ sym same

notion-no_fault : (line : List ℕ) (notion : Notion) (kind : NotionKind) → IsNotionLine line notion → IsEntryFault line kind → ⊥
notion-no_fault line notion kind is (bad_line none same) = none notion.name is.parts is.form
notion-no_fault line notion kind is (bad_number name parts form great same) =
    both_ways (list_all is_small parts) great (small-once line name notion.name parts is.parts form is.form ∙ is.small)

place_fault-once : (table : List Notion) (notion : Notion) (one two : NotionKind) → IsPlaceFault table notion one → IsPlaceFault table notion two → one ≡ two
place_fault-once table notion one two (repeated named is) (repeated named_too same) = is ∙ sym same
place_fault-once table notion one two (repeated named is) (too_many new many same) = absurd (both_ways (has_name table notion.name) new named)
place_fault-once table notion one two (too_many new many is) (repeated named same) = absurd (both_ways (has_name table notion.name) new named)
place_fault-once table notion one two (too_many new many is) (too_many new_too many_too same) = is ∙ sym same

place-no_fault : (table : List Notion) (notion : Notion) (kind : NotionKind) → HasPlace table notion → IsPlaceFault table notion kind → ⊥
place-no_fault table notion kind place (repeated named same) = both_ways (has_name table notion.name) place.new named
place-no_fault table notion kind place (too_many new many same) = omega (arith, place.room, many)

-- a line of the right form
formed : (line : List ℕ) (parts : List (Option ℕ)) → HasForm line (first_token line) parts
    → ((notion : Notion) × IsNotionLine line notion) ⊎ ((kind : NotionKind) × IsEntryFault line kind)
formed line parts form =
    elim (cases_Bool (list_all is_small parts)) [
      | inl small ↦ inl (record { name = first_token line; bound = bound_of parts }, record { parts = parts; form = form; bound = refl; small = small })
      | inr great ↦ inr (BadNumber, bad_number (first_token line) parts form great refl)
    ]

notion-cases : (line : List ℕ) → ((notion : Notion) × IsNotionLine line notion) ⊎ ((kind : NotionKind) × IsEntryFault line kind)
notion-cases line = elim (form-cases line) [ inl found ↦ formed line found.0 found.1 | inr none ↦ inr (BadLine, bad_line none refl) ]

place-cases : (table : List Notion) (notion : Notion) → HasPlace table notion ⊎ ((kind : NotionKind) × IsPlaceFault table notion kind)
place-cases table notion =
    elim (cases_Bool (has_name table notion.name)) [
      | inl named ↦ inr (Repeated, repeated named refl)
      | inr new ↦ elim (cases_lt (length table) 64) [
        | inl room ↦ inl (record { new = new; room = room })
        | inr many ↦ inr (TooMany, too_many new many refl)
      ]
    ]

module _ (table : List Notion) (line : List ℕ) where
  placed : (one two : Notion) → IsNotionLine line one → IsNotionLine line two → (P : Notion → Type 0) → P one → P two
  placed one two first second P is = subst P (notion-once line one two first second) is

  pub line_fault-once : (one two : NotionKind) → IsLineFault table line one → IsLineFault table line two → one ≡ two
  line_fault-once one two (no_notion fault) (no_notion fault_too) = entry_fault-once line one two fault fault_too
  line_fault-once one two (no_notion fault) (no_place notion is fault_too) = absurd (notion-no_fault line notion one is fault)
  line_fault-once one two (no_place notion is fault) (no_notion fault_too) = absurd (notion-no_fault line notion two is fault_too)
  line_fault-once one two (no_place notion is fault) (no_place other same fault_too) =
      place_fault-once table other one two (placed notion other is same (λ notion. IsPlaceFault table notion one) fault) fault_too

  pub gives-once : (one two : List Notion) → Gives table line one → Gives table line two → one ≡ two
  gives-once one two first second =
      first.list ∙ ap (λ notion. table ++ notion ∷ []) (notion-once line first.notion second.notion first.is_notion second.is_notion) ∙ sym second.list

  pub gives-no_fault : (next : List Notion) (kind : NotionKind) → Gives table line next → IsLineFault table line kind → ⊥
  gives-no_fault next kind gives (no_notion fault) = notion-no_fault line gives.notion kind gives.is_notion fault
  gives-no_fault next kind gives (no_place notion is fault) =
      place-no_fault table notion kind (placed gives.notion notion gives.is_notion is (HasPlace table) gives.place) fault

  pub gives-cases : ((next : List Notion) × Gives table line next) ⊎ ((kind : NotionKind) × IsLineFault table line kind)
  gives-cases =
      elim (notion-cases line) [
        | inl found ↦ elim (place-cases table found.0) [
          | inl place ↦ inl (table ++ found.0 ∷ [], record { notion = found.0; is_notion = found.1; place = place; list = refl })
          | inr fault ↦ inr (fault.0, no_place found.0 found.1 fault.1)
        ]
        | inr fault ↦ inr (fault.0, no_notion fault.1)
      ]

-- ---- the end of a text
module _ (given : List Notion) (lines : ℕ) where
  pub end-cases : ((table : List Notion) × IsEnd given table) ⊎ ((fault : ℕ × NotionKind) × IsEmpty given lines fault.0 fault.1)
  end-cases = by given refl
    where
      by : (notions : List Notion) → given ≡ notions
          → ((table : List Notion) × IsEnd given table) ⊎ ((fault : ℕ × NotionKind) × IsEmpty given lines fault.0 fault.1)
      by [] none = inr ((lines + 1, NoNotion), record { none = none; next = refl; missing = refl })
      by (notion ∷ notions) is = inl (given, record { some = omega (arith, ap length is); same = refl })

  pub end_fault-once : (one two : ℕ × NotionKind) → IsEmpty given lines one.0 one.1 → IsEmpty given lines two.0 two.1 → one ≡ two
  end_fault-once one two first second =
      let number : one.0 ≡ two.0 = first.next ∙ sym second.next in
      let kind : one.1 ≡ two.1 = first.missing ∙ sym second.missing in
      let same : ◌≡◌ {A = ℕ × NotionKind} (one.0, one.1) (two.0, two.1) = rw (number, kind) refl in
      same

  pub end-no_fault : (table : List Notion) (fault : ℕ × NotionKind) → IsEnd given table → IsEmpty given lines fault.0 fault.1 → ⊥
  end-no_fault table fault ends empty = omega (arith, ends.some, ap length empty.none)
