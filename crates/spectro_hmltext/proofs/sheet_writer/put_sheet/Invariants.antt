use Rattle.std.proofs.Common.{◌≡◌, ◌++◌, take}
use Rattle.spectro_io.specs.Batches.{IsPending}
use Rattle.spectro_hmltext.specs.SheetTexts.{sheet_text}
use Rattle.spectro_hmltext.proofs.sheet_writer.put_sheet.Given as goal

abbrev pub invariant-loop-k : goal.invariant-loop-k
invariant-loop-k g l = record {
  bytes : IsPending (g.O.Sink.written l.fn.out) (g.O.Sink.written l.out) l.batch (l.fn.batch ++ sheet_text (take l.k l.sheet));
  faults : g.O.Sink.faults l.out ≡ g.O.Sink.faults l.fn.out;
}
