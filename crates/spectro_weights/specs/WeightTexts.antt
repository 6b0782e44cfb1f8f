-- Weight texts: a line for each label. Lines of blanks alone count for nothing.
use Rattle.std.specs.Prelude.{ℕ, ◌≡◌, List, []}
use Rattle.spectro_lines.specs.Form.{Form}
use Rattle.spectro_lines.specs.Texts as lines
use Rattle.spectro_spec.specs.Weighing.{Weighing}
use Rattle.spectro_weights.specs.WeightLines.{Gives}
use Rattle.spectro_weights.specs.Faults.{IsLineFault}
use Rattle.spectro_weights.specs.declared.error.WeightError.{WeightError}
use Rattle.spectro_weights.specs.declared.error.WeightError.TheVariants.{Text, OutOfMemory}
use Rattle.spectro_weights.specs.declared.error.WeightFault.{WeightFault}
use Rattle.spectro_weights.specs.declared.error.WeightKind.{WeightKind}
use Rattle.spectro_weights.specs.declared.error.WeightKind.TheVariants.{TooLong, NotText}
use Rattle.spectro_io.specs.declared.read.TheConstants.{TEXT_LIMIT}

-- a text gives the weights of its lines in their order, and may end anywhere
abbrev pub weight_form : Form Weighing Weighing WeightKind
weight_form = record {
  start = [];
  Gives = λ weighing number line next. Gives weighing line next;
  IsFault = IsLineFault;
  Ends = λ weighing value. value ≡ weighing;
  EndsEarly = λ weighing lines number kind. ⊥;
  limit = TEXT_LIMIT;
  too_long = TooLong;
  not_text = NotText;
}

-- the lines of the text have no fault, and give these weights in their order
abbrev pub IsWeightText : List ℕ → Weighing → Type 0
IsWeightText text weighing = lines.IsText weight_form text weighing

-- no line before this one has a fault, and this one has it
abbrev pub IsFirstFault : List ℕ → WeightFault → Type 0
IsFirstFault text fault = lines.IsFirstFault weight_form text fault.line fault.kind

-- what an error says of the bytes; want of memory says nothing
abbrev pub IsRefused : List ℕ → WeightError → Type 0
IsRefused bytes (Text fault) = IsFirstFault bytes fault
IsRefused bytes OutOfMemory = Unit {0}
