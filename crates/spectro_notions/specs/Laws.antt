-- What a table says of states, and laws of whole texts.
use Rattle.std.specs.Prelude.{ℕ, ◌≡◌, ◌≤◌, ◌⊎◌, List, Some, length, take}
use Rattle.spectro_io.specs.Limits.{read_limit}
use Rattle.spectro_spec.specs.Notion.{Bound, Holds, Notion}
use Rattle.spectro_spec.specs.System.{System}
use Rattle.spectro_spec.specs.Weighing.{Weighing}
use Rattle.spectro_notions.specs.NotionTexts.{IsNotionText, IsFirstFault}
use Rattle.spectro_notions.specs.Tables.{IsBelowIn, IsTable, bound_at}
use Rattle.spectro_notions.specs.declared.error.NotionFault.{NotionFault}

-- the notion of the table with this number holds from p to q
abbrev pub NotionHolds : List Notion → ℕ → Weighing → System → ℕ → ℕ → Type 0
NotionHolds table k weighing system p q = (bound : Bound) × (bound_at table k ≡ Some bound) × Holds weighing bound system p q

-- where a notion of a table holds, so does each notion below it
abbrev pub NotionsBelowHoldMore : Type 0
NotionsBelowHoldMore =
    (table : List Notion) (i j : ℕ) (weighing : Weighing) (system : System) (p q : ℕ) → IsBelowIn table i j → NotionHolds table j weighing system p q
    → NotionHolds table i weighing system p q

-- a text is of at most one table
abbrev pub EachTextHasAtMostOneTable : Type 0
EachTextHasAtMostOneTable = (text : List ℕ) (one other : List Notion) → IsNotionText text one → IsNotionText text other → one ≡ other

-- a text has at most one first fault
abbrev pub EachTextHasAtMostOneFirstFault : Type 0
EachTextHasAtMostOneFirstFault = (text : List ℕ) (one other : NotionFault) → IsFirstFault text one → IsFirstFault text other → one ≡ other

-- the table of a text has one notion or more, with distinct names, and not too many
abbrev pub TextsKeepTheLimits : Type 0
TextsKeepTheLimits = (text : List ℕ) (table : List Notion) → IsNotionText text table → IsTable table

-- the text of a table has no fault
abbrev pub TextsOfTablesHaveNoFault : Type 0
TextsOfTablesHaveNoFault = (text : List ℕ) (table : List Notion) (fault : NotionFault) → IsNotionText text table → IsFirstFault text fault → ⊥

-- each text is of a table or has a first fault
abbrev pub EachTextHasATableOrAFault : Type 0
EachTextHasATableOrAFault = (text : List ℕ) → ((table : List Notion) × IsNotionText text table) ⊎ ((fault : NotionFault) × IsFirstFault text fault)

-- the fault of as many bytes as are read is that of the whole text
abbrev pub FaultsOfFrontsStay : Type 0
FaultsOfFrontsStay = (text : List ℕ) (fault : NotionFault) → IsFirstFault (take read_limit text) fault → read_limit ≤ length text → IsFirstFault text fault

-- as many bytes as are read are no text of a table, where there are so many
abbrev pub LongFrontsAreNoTexts : Type 0
LongFrontsAreNoTexts = (text : List ℕ) (table : List Notion) → IsNotionText (take read_limit text) table → read_limit ≤ length text → ⊥
