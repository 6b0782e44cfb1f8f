-- Tables of notions, which are numbered from 0.
use Rattle.std.specs.Prelude.{Bool, ℕ, ◌≡◌, ◌<◌, ◌≤◌, List, Option, Some, length, map, slice_get}
use Rattle.std.specs.List.{IsDistinct, list_any}
use Rattle.std.specs.Option.{option_map}
use Rattle.std.specs.Str.{bytes_eq}
use Rattle.spectro_spec.specs.Notion.{Bound, IsBelow, Notion}
use Rattle.spectro_notions.specs.declared.notions.TheConstants.{MAX_NOTIONS}

-- the names, in the order of the table
abbrev pub names_of : List Notion → List (List ℕ)
names_of table = map (λ notion. notion.name) table

-- the name of the notion with this number, where there is one
abbrev pub name_at : List Notion → ℕ → Option (List ℕ)
name_at table k = option_map (λ notion. notion.name) (slice_get table k)

-- the bound of the notion with this number, where there is one
abbrev pub bound_at : List Notion → ℕ → Option Bound
bound_at table k = option_map (λ notion. notion.bound) (slice_get table k)

-- a notion of the table has the name
abbrev pub has_name : List Notion → List ℕ → Bool
has_name table name = list_any (λ notion. bytes_eq notion.name name) table

-- no name stands twice, and there are few
pub record AreNotions (table : List Notion) : Type 0 where
  pub distinct : IsDistinct bytes_eq (names_of table)
  pub few : length table ≤ MAX_NOTIONS

-- one notion or more, none of which has the name of another
pub record IsTable (table : List Notion) : Type 0 where
  pub some : 0 < length table
  pub notions : AreNotions table

-- each part of the bound of the one notion is at most that of the other, no bound being the greatest
pub record IsBelowIn (table : List Notion) (i j : ℕ) : Type 0 where
  pub low : Bound
  pub most : Bound
  pub first : bound_at table i ≡ Some low
  pub second : bound_at table j ≡ Some most
  pub below : IsBelow low most
