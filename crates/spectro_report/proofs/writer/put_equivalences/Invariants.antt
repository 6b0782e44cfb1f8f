use Rattle.std.proofs.Common.{◌≡◌, ◌++◌, take}
use Rattle.std.specs.Prelude.{codes}
use Rattle.std.specs.List.{flat_map, zip}
use Rattle.spectro_io.specs.Batches.{IsPending}
use Rattle.spectro_notions.specs.Tables.{names_of}
use Rattle.spectro_report.proofs.Sections.{line_answered}
use Rattle.spectro_report.proofs.writer.put_equivalences.Given as goal

abbrev pub invariant-loop-k : goal.invariant-loop-k
invariant-loop-k g l = record {
  bytes : IsPending (g.O.Sink.written l.fn.out) (g.O.Sink.written l.out) l.batch
      ((l.fn.batch ++ codes "equivalences\n") ++ flat_map line_answered (take l.k (zip (names_of l.notions) (zip l.report.forth l.report.back))));
  faults : g.O.Sink.faults l.out ≡ g.O.Sink.faults l.fn.out;
}
