-- Notion texts: a line for each notion of a table. Lines of blanks alone count for nothing.
use Rattle.std.specs.Prelude.{ℕ, ◌≡◌, ◌+◌, ◌<◌, List, [], length}
use Rattle.spectro_io.specs.declared.read.TheConstants.{TEXT_LIMIT}
use Rattle.spectro_lines.specs.Form.{Form}
use Rattle.spectro_lines.specs.Texts as lines
use Rattle.spectro_spec.specs.Notion.{Notion}
use Rattle.spectro_notions.specs.Faults.{IsLineFault}
use Rattle.spectro_notions.specs.NotionLines.{Gives}
use Rattle.spectro_notions.specs.declared.error.NotionError.{NotionError}
use Rattle.spectro_notions.specs.declared.error.NotionError.TheVariants.{Text, OutOfMemory}
use Rattle.spectro_notions.specs.declared.error.NotionFault.{NotionFault}
use Rattle.spectro_notions.specs.declared.error.NotionKind.{NotionKind}
use Rattle.spectro_notions.specs.declared.error.NotionKind.TheVariants.{NoNotion, NotText, TooLong}

-- the lines gave one notion or more, and these are the table
pub record IsEnd (given table : List Notion) : Type 0 where
  pub some : 0 < length given
  pub same : table ≡ given

-- so many lines gave no notion, which is a fault of the line after them
pub record IsEmpty (given : List Notion) (lines number : ℕ) (kind : NotionKind) : Type 0 where
  pub none : given ≡ []
  pub next : number ≡ lines + 1
  pub missing : kind ≡ NoNotion

-- a text gives the notions of its lines in their order, and has one or more
abbrev pub notion_form : Form (List Notion) (List Notion) NotionKind
notion_form = record {
  start = [];
  Gives = λ table number line next. Gives table line next;
  IsFault = IsLineFault;
  Ends = IsEnd;
  EndsEarly = IsEmpty;
  limit = TEXT_LIMIT;
  too_long = TooLong;
  not_text = NotText;
}

-- the lines of the text have no fault, and give these notions in their order
abbrev pub IsNotionText : List ℕ → List Notion → Type 0
IsNotionText text table = lines.IsText notion_form text table

-- no line before this one has a fault, and this one has it
abbrev pub IsFirstFault : List ℕ → NotionFault → Type 0
IsFirstFault text fault = lines.IsFirstFault notion_form text fault.line fault.kind

-- what an error says of the bytes; that memory ran out says nothing of them
abbrev pub IsRefused : List ℕ → NotionError → Type 0
IsRefused bytes (Text fault) = IsFirstFault bytes fault
IsRefused bytes OutOfMemory = Unit {0}
