-- Tables that grow by one notion.
use Rattle.std.proofs.Common.{◌≡◌, ℕ, ◌<◌, false, List, [], ◌∷◌, ◌++◌, length, length-append, map, refl, ap, arith}
use Rattle.std.specs.Prelude.{◌||◌}
use Rattle.std.specs.List.{AllByRecursion, IsDistinct, list_any}
use Rattle.std.specs.Str.{bytes_eq}
use Rattle.std.proofs.lemmas.Bool.{or_parts}
use Rattle.std.proofs.lemmas.Map.Keys.{IsDistinct-cons, IsDistinct-head, IsDistinct-tail}
use Rattle.spectro_spec.specs.Notion.{Notion}
use Rattle.spectro_notions.specs.declared.entry.Entry.{Entry}
use Rattle.spectro_notions.specs.Entries.{notion_in}
use Rattle.spectro_notions.specs.Tables.{AreNotions, has_name, names_of}

pub AreNotions-nil : AreNotions []
unfolding IsDistinct
AreNotions-nil = record { distinct = tt; few = omega arith }

apart-push : (first : List ℕ) (table : List Notion) (notion : Notion) → AllByRecursion (λ name. bytes_eq first name ≡ false) (names_of table)
    → bytes_eq first notion.name ≡ false → AllByRecursion (λ name. bytes_eq first name ≡ false) (names_of (table ++ notion ∷ []))
apart-push first [] notion all new = (new, tt)
apart-push first (other ∷ table) notion all new = (all.0, apart-push first table notion all.1 new)

distinct-push : (table : List Notion) (notion : Notion) → IsDistinct bytes_eq (names_of table) → has_name table notion.name ≡ false
    → IsDistinct bytes_eq (names_of (table ++ notion ∷ []))
distinct-push [] notion distinct new = IsDistinct-cons bytes_eq notion.name [] tt distinct
distinct-push (other ∷ table) notion distinct new =
    let parts = or_parts (bytes_eq other.name notion.name) (has_name table notion.name) new in
    IsDistinct-cons bytes_eq other.name (names_of (table ++ notion ∷ []))
    (apart-push other.name table notion (IsDistinct-head bytes_eq other.name (names_of table) distinct) parts.0)
    (distinct-push table notion (IsDistinct-tail bytes_eq other.name (names_of table) distinct) parts.1)

-- a notion with a new name stands behind the others, where there is room
pub AreNotions-push : (table : List Notion) (notion : Notion) → AreNotions table → has_name table notion.name ≡ false → length table < 64
    → AreNotions (table ++ notion ∷ [])
AreNotions-push table notion are new room = record {
  distinct = distinct-push table notion are.distinct new;
  few = omega (arith, room, length-append table (notion ∷ []));
}

-- ---- entries
pub has_name-entries : (name : List ℕ) (entries : List Entry)
    → list_any (λ (entry : Entry). bytes_eq (notion_in entry).name name) entries ≡ has_name (map notion_in entries) name
has_name-entries name [] = refl
has_name-entries name (entry ∷ entries) = ap (λ later. bytes_eq (notion_in entry).name name || later) (has_name-entries name entries)

pub notions-push : (entries : List Entry) (entry : Entry) → map notion_in (entries ++ entry ∷ []) ≡ map notion_in entries ++ notion_in entry ∷ []
notions-push [] entry = refl
notions-push (first ∷ entries) entry = ap (λ table. notion_in first ∷ table) (notions-push entries entry)
