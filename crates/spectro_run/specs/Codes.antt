-- The exit code of each status, and the statuses of a text that was not read and of a report that was refused.
use Rattle.std.specs.Prelude.{ℕ}
use Rattle.spectro_io.specs.declared.read.ReadError.{ReadError}
use Rattle.spectro_io.specs.declared.read.ReadError.TheVariants as unread
use Rattle.spectro_report.specs.declared.error.ReportError.{ReportError}
use Rattle.spectro_report.specs.declared.error.ReportError.TheVariants as refused
use Rattle.spectro_run.specs.declared.status.Status.{Status}
use Rattle.spectro_run.specs.declared.status.Status.TheVariants.{Done, No, Usage, BadText, TooLarge, ReadFault, WriteFault, OutOfMemory}

abbrev pub code_of : Status → ℕ
code_of Done = 0
code_of No = 1
code_of Usage = 2
code_of (BadText fault) = 3
code_of (TooLarge limit) = 4
code_of ReadFault = 5
code_of WriteFault = 6
code_of OutOfMemory = 7

abbrev pub status_of : ReadError → Status
status_of unread.Failed = ReadFault
status_of unread.OutOfMemory = OutOfMemory

abbrev pub refusal_of : ReportError → Status
refusal_of (refused.TooLarge limit) = TooLarge limit
refusal_of refused.OutOfMemory = OutOfMemory
