use Rattle.std.proofs.Common.{◌≡◌, ◌++◌, take}
use Rattle.std.specs.List.{flat_map}
use Rattle.spectro_io.specs.Batches.{IsPending}
use Rattle.spectro_hmltext.specs.SheetTexts.{clause_text}
use Rattle.spectro_hmltext.proofs.WrittenSheets.{conjunction_front}
use Rattle.spectro_hmltext.proofs.sheet_writer.put_conjunction.Given as goal

abbrev pub invariant-loop-clause : goal.invariant-loop-clause
invariant-loop-clause g l = record {
  bytes : IsPending (g.O.Sink.written l.fn.out) (g.O.Sink.written l.out) l.batch
      ((l.fn.batch ++ conjunction_front l.number) ++ flat_map clause_text (take l.clause-index l.clauses));
  faults : g.O.Sink.faults l.out ≡ g.O.Sink.faults l.fn.out;
}
