-- A weighing and the map that keeps it.
use Rattle.std.proofs.Common.{◌≡◌, ℕ, Bool, true, false, List, [], ◌∷◌, map, refl, ap, is_some}
use Rattle.std.specs.Prelude.{String, string_bytes, unwrap_or}
use Rattle.std.specs.declared.alloc.Global.{Global}
use Rattle.std.specs.List.{AllByRecursion, IsDistinct}
use Rattle.std.specs.Map.{keys_of, lookup}
use Rattle.std.specs.Str.{bytes_eq}
use Rattle.std.specs.String.{string_eq}
use Rattle.std.proofs.lemmas.Cmp.{nat_list_eq_equiv}
use Rattle.indexmap.specs.IndexMap.{insert_entry}
use Rattle.spectro_spec.specs.System.{Label}
use Rattle.spectro_spec.specs.Weighing.{weight_of}
use Rattle.spectro_weights.specs.Setting.{is_set, with_weight}
use Rattle.spectro_weights.specs.Entries.{weighing_of}

abbrev pub Entry : Type 0
Entry = String Global × ℕ

-- what the map has at the label's bytes
pub weight_of-weighing_of : (label : Label) (entries : List Entry)
    → weight_of (weighing_of entries) label ≡ unwrap_or (lookup (λ key. bytes_eq label (string_bytes key)) entries) 1
weight_of-weighing_of label [] = refl
weight_of-weighing_of label (entry ∷ entries) = by (bytes_eq label (string_bytes entry.0)) refl (weight_of-weighing_of label entries)
  where
    by : (b : Bool) → bytes_eq label (string_bytes entry.0) ≡ b
        → weight_of (weighing_of entries) label ≡ unwrap_or (lookup (λ key. bytes_eq label (string_bytes key)) entries) 1
        → weight_of (weighing_of (entry ∷ entries)) label ≡ unwrap_or (lookup (λ key. bytes_eq label (string_bytes key)) (entry ∷ entries)) 1
    by true e later = rw (nat_list_eq_equiv.symm (string_bytes entry.0) label, e) refl
    by false e later = rw (nat_list_eq_equiv.symm (string_bytes entry.0) label, e) later

pub is_set-weighing_of : (label : Label) (entries : List Entry)
    → is_set (weighing_of entries) label ≡ is_some (lookup (λ key. bytes_eq label (string_bytes key)) entries)
is_set-weighing_of label [] = refl
is_set-weighing_of label (entry ∷ entries) = by (bytes_eq label (string_bytes entry.0)) refl (is_set-weighing_of label entries)
  where
    by : (b : Bool) → bytes_eq label (string_bytes entry.0) ≡ b
        → is_set (weighing_of entries) label ≡ is_some (lookup (λ key. bytes_eq label (string_bytes key)) entries)
        → is_set (weighing_of (entry ∷ entries)) label ≡ is_some (lookup (λ key. bytes_eq label (string_bytes key)) (entry ∷ entries))
    by true e later = rw (nat_list_eq_equiv.symm (string_bytes entry.0) label, e) refl
    by false e later = rw (nat_list_eq_equiv.symm (string_bytes entry.0) label, e) later

-- an insertion sets the label
pub weighing_of-insert_entry : (label : String Global) (weight : ℕ) (entries : List Entry)
    → weighing_of (insert_entry string_eq entries label weight) ≡ with_weight (weighing_of entries) (string_bytes label) weight
weighing_of-insert_entry label weight [] = refl
weighing_of-insert_entry label weight (entry ∷ entries) = by (bytes_eq (string_bytes label) (string_bytes entry.0)) refl
    (weighing_of-insert_entry label weight entries)
  where
    by : (b : Bool) → bytes_eq (string_bytes label) (string_bytes entry.0) ≡ b
        → weighing_of (insert_entry string_eq entries label weight) ≡ with_weight (weighing_of entries) (string_bytes label) weight
        → weighing_of (insert_entry string_eq (entry ∷ entries) label weight) ≡ with_weight (weighing_of (entry ∷ entries)) (string_bytes label) weight
    by true e later = rw (nat_list_eq_equiv.symm (string_bytes entry.0) (string_bytes label), e) refl
    by false e later = rw (nat_list_eq_equiv.symm (string_bytes entry.0) (string_bytes label), e)
        (ap (λ weighing. record { label = string_bytes entry.0; weight = entry.1 } ∷ weighing) later)

apart : (key : String Global) (entries : List Entry) → AllByRecursion (λ other. string_eq key other ≡ false) (keys_of entries)
    → AllByRecursion (λ label. bytes_eq (string_bytes key) label ≡ false) (map (λ entry. entry.label) (weighing_of entries))
apart key [] all = all
apart key (entry ∷ entries) all = (all.0, apart key entries all.1)

-- the labels are as distinct as the keys
pub IsDistinct-weighing_of : (entries : List Entry) → IsDistinct string_eq (keys_of entries)
    → IsDistinct bytes_eq (map (λ entry. entry.label) (weighing_of entries))
unfolding IsDistinct
IsDistinct-weighing_of [] distinct = distinct
IsDistinct-weighing_of (entry ∷ entries) distinct = (apart entry.0 entries distinct.0, IsDistinct-weighing_of entries distinct.1)
