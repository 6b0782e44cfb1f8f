-- The faults of a line of a notion text. Each kind yields to those that are tested before it.
use Rattle.std.specs.Prelude.{ℕ, ◌≡◌, ◌≤◌, true, false, List, Option, length}
use Rattle.std.specs.List.{list_all}
use Rattle.spectro_spec.specs.Notion.{Notion}
use Rattle.spectro_notions.specs.NotionLines.{HasForm, IsNotionLine, is_small}
use Rattle.spectro_notions.specs.Tables.{has_name}
use Rattle.spectro_notions.specs.declared.notions.TheConstants.{MAX_NOTIONS}
use Rattle.spectro_notions.specs.declared.error.NotionKind.{NotionKind}
use Rattle.spectro_notions.specs.declared.error.NotionKind.TheVariants.{BadLine, BadNumber, Repeated, TooMany}

-- the line has no notion
pub data IsEntryFault (line : List ℕ) (kind : NotionKind) : Type 0 where
  bad_line : ((name : List ℕ) (parts : List (Option ℕ)) → ¬ HasForm line name parts) → kind ≡ BadLine → IsEntryFault line kind
  bad_number : (name : List ℕ) (parts : List (Option ℕ)) → HasForm line name parts → list_all is_small parts ≡ false → kind ≡ BadNumber
      → IsEntryFault line kind

-- there is no place for the notion after the others
pub data IsPlaceFault (table : List Notion) (notion : Notion) (kind : NotionKind) : Type 0 where
  repeated : has_name table notion.name ≡ true → kind ≡ Repeated → IsPlaceFault table notion kind
  too_many : has_name table notion.name ≡ false → MAX_NOTIONS ≤ length table → kind ≡ TooMany → IsPlaceFault table notion kind

-- after the notions so far the line has this fault
pub data IsLineFault (table : List Notion) (line : List ℕ) (kind : NotionKind) : Type 0 where
  no_notion : IsEntryFault line kind → IsLineFault table line kind
  no_place : (notion : Notion) → IsNotionLine line notion → IsPlaceFault table notion kind → IsLineFault table line kind
