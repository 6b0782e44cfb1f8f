-- What is read of a file.
use Rattle.std.specs.Prelude.{ℕ, ◌≡◌, ◌⊎◌, List, ◌++◌, take, drop, Option, None, Some, IfSome}
use Rattle.spectro_io.specs.Faults.{Rose}
use Rattle.spectro_io.specs.Limits.{read_limit}
use Rattle.spectro_io.specs.Shelves.{Texts}
use Rattle.spectro_words.specs.Words.{Word}
use Rattle.spectro_words.specs.Commands.{Command}
use Rattle.spectro_run.specs.Held.{file_of}
use Rattle.spectro_run.specs.declared.status.Status.{Status}
use Rattle.spectro_run.specs.declared.status.Status.TheVariants.{BadText, ReadFault, OutOfMemory}
use Rattle.spectro_run.specs.declared.status.Which.{Which}

-- the shelf tells its texts, and the name holds none
abbrev pub HoldsNothing : Option Texts → Word → Type 0
HoldsNothing None name = ⊥
HoldsNothing (Some texts) name = texts name ≡ None

-- the bytes are the text that the name holds, as far as it is read
abbrev pub HasRead : Word → List ℕ → Texts → Type 0
HasRead name bytes texts = (text : List ℕ) × (texts name ≡ Some text) × (bytes ≡ take read_limit text)

-- what was read went into what takes it: the text that the name holds, where the shelf tells it
pub record TakesText (told : Option Texts) (name : Word) {Intake : Type 0} (has_taken : Intake → List ℕ → Type 0) (before now : Intake) : Type 0 where
  pub bytes : List ℕ
  pub taken : (taken : List ℕ) → has_taken before taken → has_taken now (taken ++ bytes)
  pub read : IfSome told (HasRead name bytes)

-- a text was not read, since the shelf failed or the name holds nothing
abbrev pub IsUnread : Option Texts → Word → ℕ → ℕ → Status → Type 0
IsUnread told name before now status = (status ≡ ReadFault) × (Rose before now ⊎ HoldsNothing told name)

-- a refusal of this kind, or want of memory
abbrev pub OrMemory : (Status → Type 0) → Status → Type 0
OrMemory P status = (status ≡ OutOfMemory) ⊎ P status

-- of what the name holds, where the shelf tells it, there stands what is left behind as much as is read of a text
abbrev pub LeavesRest : Option Texts → Option Word → Option (List ℕ) → Type 0
LeavesRest None name left = Unit {0}
LeavesRest (Some texts) None left = Unit {0}
LeavesRest (Some texts) (Some name) left = IfSome (texts name) (λ text. left ≡ Some (drop read_limit text))

-- a text that is refused is of this file, which was read to its end, or as far as a text is read
abbrev pub ReadsToEnd : Option Texts → Option Word → Which → Option (List ℕ) → Status → Type 0
ReadsToEnd told name which left (BadText fault) = (fault.which ≡ which) × LeavesRest told name left
ReadsToEnd told name which left status = Unit {0}

-- so it is with each file of the command
abbrev pub JudgesWhole : Option Texts → Option Command → Option (List ℕ) → Status → Type 0
JudgesWhole told (Some command) left (BadText fault) = LeavesRest told (file_of fault.which command) left
JudgesWhole told asked left status = Unit {0}
