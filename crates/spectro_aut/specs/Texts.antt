-- Aldebaran texts of systems. Lines of blanks alone count for nothing.
use Rattle.std.specs.Prelude.{ℕ, ◌≡◌, ◌+◌, List, length}
use Rattle.spectro_lines.specs.Form.{Form}
use Rattle.spectro_lines.specs.Texts as lines
use Rattle.spectro_spec.specs.System.{System}
use Rattle.spectro_aut.specs.Grammar.{Reading, start, steps, Gives}
use Rattle.spectro_aut.specs.Faults.{IsLineFault, EndsEarly}
use Rattle.spectro_aut.specs.declared.error.AutError.{AutError}
use Rattle.spectro_aut.specs.declared.error.AutError.TheVariants.{Text, OutOfMemory}
use Rattle.spectro_aut.specs.declared.error.AutFault.{AutFault}
use Rattle.spectro_aut.specs.declared.error.AutKind.{AutKind}
use Rattle.spectro_aut.specs.declared.error.AutKind.TheVariants.{NotText, TooLong}
use Rattle.spectro_io.specs.declared.read.TheConstants.{TEXT_LIMIT}

-- a text gives the system of its lines, and may end behind as many steps as the header says
abbrev pub aut_form : Form Reading System AutKind
aut_form = record {
  start = start;
  Gives = λ reading number line next. Gives reading line next;
  IsFault = IsLineFault;
  Ends = λ reading system. reading ≡ steps (length system.steps) system;
  EndsEarly = λ reading lines number kind. EndsEarly reading kind × (number ≡ lines + 1);
  limit = TEXT_LIMIT;
  too_long = TooLong;
  not_text = NotText;
}

-- the lines of the text have no fault, and give the system with as many steps as the header says
abbrev pub IsText : List ℕ → System → Type 0
IsText text system = lines.IsText aut_form text system

-- no line before this one has a fault, and this one has it; or no line has one, and the text ends too early, at the line behind the last
abbrev pub IsFirstFault : List ℕ → AutFault → Type 0
IsFirstFault text fault = lines.IsFirstFault aut_form text fault.line fault.kind

-- what an error says of the bytes; want of memory says nothing
abbrev pub IsRefused : List ℕ → AutError → Type 0
IsRefused bytes (Text fault) = IsFirstFault bytes fault
IsRefused bytes OutOfMemory = Unit {0}
