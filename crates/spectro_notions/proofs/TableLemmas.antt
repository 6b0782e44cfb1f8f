-- The names of a table, and their numbers.
use Rattle.std.proofs.Common.{refl, ◌≡◌, ◌∙◌, ℕ, ◌<◌, List, Contains, Some, length, sym, ap, arith}
use Rattle.std.proofs.lemmas.List.{length-map}
use Rattle.std.proofs.lemmas.Option.{slice_get-map, slice_get-get_or}
use Rattle.spectro_spec.specs.Notion.{Notion}
use Rattle.std.proofs.lemmas.Cmp.{nat_list_eq_equiv}
use Rattle.std.proofs.lemmas.Map.Made.{IsDistinct-from_count}
use Rattle.spectro_spec.specs.Spectrum.{notions}
use Rattle.spectro_notions.specs.Tables.{name_at, names_of, IsTable}

-- what no notion is called is no name of the table
pub no_name : (table : List Notion) (name : List ℕ) → ((k : ℕ) → k < length table → name_at table k ≡ Some name → ⊥) → ¬ Contains (names_of table) name
no_name table name none found =
    none found.0 (omega (arith, found.1, length-map table (λ (notion : Notion). notion.name)))
    (sym (slice_get-map (λ (notion : Notion). notion.name) table found.0) ∙ slice_get-get_or (names_of table) found.0 name found.1 ∙ ap Some found.2)

-- the thirteen are a table
pub notions-IsTable : IsTable notions
notions-IsTable = record {
  some = omega arith;
  notions = record { distinct = IsDistinct-from_count nat_list_eq_equiv (names_of notions) refl; few = omega arith };
}
