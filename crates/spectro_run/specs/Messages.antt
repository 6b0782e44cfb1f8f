-- What is written to the error output: a message for each status but `Done` and `No`.
use Rattle.std.specs.Prelude.{ℕ, ◌≡◌, ◌⊎◌, List, [], ◌++◌, Option, None, Some, codes}
use Rattle.std.specs.Option.{unwrap_or}
use Rattle.std.specs.Fmt.{decimal}
use Rattle.std.specs.Io.KnownBytes.{Appends}
use Rattle.spectro_io.specs.Bytes.{AppendsPart}
use Rattle.spectro_io.specs.Faults.{Rose}
use Rattle.spectro_aut.specs.Kinds as aut
use Rattle.spectro_hmltext.specs.Kinds as hmltext
use Rattle.spectro_weights.specs.Kinds as weights
use Rattle.spectro_notions.specs.Kinds as notions
use Rattle.spectro_words.specs.Commands.{Command}
use Rattle.spectro_words.specs.Reading.{command}
use Rattle.spectro_words.specs.Words.{Word}
use Rattle.spectro_run.specs.Held.{file_of}
use Rattle.spectro_run.specs.declared.status.BadText as declared
use Rattle.spectro_run.specs.declared.status.Kind.{Kind}
use Rattle.spectro_run.specs.declared.status.Kind.TheVariants as kinds
use Rattle.spectro_run.specs.declared.status.Status.{Status}
use Rattle.spectro_run.specs.declared.status.Status.TheVariants.{Done, No, Usage, BadText, TooLarge, ReadFault, WriteFault, OutOfMemory}
use Rattle.spectro_run.specs.declared.status.Which.{Which}
use Rattle.spectro_run.specs.declared.status.Which.TheVariants.{Formula}

-- how a text of the command is called: the formula by that word, a file by its name, and a text that it has not by nothing
abbrev pub text_name : Which → Option Command → List ℕ
text_name Formula asked = codes "formula"
text_name which None = []
text_name which (Some command) = unwrap_or (file_of which command) []

-- the name of the kind, whichever text it is of
abbrev pub kind_name : Kind → List ℕ
kind_name (kinds.Aut kind) = aut.kind_name kind
kind_name (kinds.Formula kind) = hmltext.kind_name kind
kind_name (kinds.Weights kind) = weights.kind_name kind
kind_name (kinds.Notions kind) = notions.kind_name kind

-- how many lines the header said and how many were found, where the kind tells it
abbrev pub counts_text : Kind → List ℕ
counts_text (kinds.Aut kind) = aut.counts_text kind
counts_text (kinds.Formula kind) = []
counts_text (kinds.Weights kind) = []
counts_text (kinds.Notions kind) = []

-- the text of this name, and the place in it
abbrev pub place_text : List ℕ → ℕ → List ℕ
place_text name at = codes "spectro: " ++ name ++ codes ":" ++ decimal at ++ codes ": "

-- why it was refused there
abbrev pub kind_text : Kind → List ℕ
kind_text kind = kind_name kind ++ counts_text kind ++ codes "\n"

-- where a text of this name was refused, and why
abbrev pub fault_text : List ℕ → declared.BadText → List ℕ
fault_text name fault = place_text name fault.at ++ kind_text fault.kind

-- what is told of how a command ended: nothing where it was done or its answer is no
abbrev pub command_message : Option Command → Status → List ℕ
command_message asked Done = []
command_message asked No = []
command_message asked Usage = codes "spectro: words not understood\n"
command_message asked (BadText fault) = fault_text (text_name fault.which asked) fault
command_message asked (TooLarge limit) = codes "spectro: more than " ++ decimal limit ++ codes " positions\n"
command_message asked ReadFault = codes "spectro: cannot read\n"
command_message asked WriteFault = codes "spectro: cannot write\n"
command_message asked OutOfMemory = codes "spectro: out of memory\n"

-- the message of the words and the status
abbrev pub message : List Word → Status → List ℕ
message words status = command_message (command words) status

-- the bytes were written whole and the count of faults stayed, or it rose, and a proper prefix of them was written
abbrev pub Tells : List ℕ → Option (List ℕ) → Option (List ℕ) → ℕ → ℕ → Type 0
Tells bytes old new before now = (Appends old new bytes × (now ≡ before)) ⊎ (AppendsPart old new bytes × Rose before now)

-- nothing is told where the command was done or its answer is no
abbrev pub IsUntold : {Device : Type 0} → Status → Device → Device → Type 0
IsUntold Done old new = new ≡ old
IsUntold No old new = new ≡ old
IsUntold status old new = Unit {0}
