use Rattle.std.proofs.Common.{◌≡◌, ◌++◌, map, take}
use Rattle.std.specs.List.{flat_map, zip}
use Rattle.spectro_io.specs.Batches.{IsPending}
use Rattle.spectro_notions.specs.Tables.{names_of}
use Rattle.spectro_report.specs.Verdicts.{verdict_of}
use Rattle.spectro_report.proofs.Sections.{line_said}
use Rattle.spectro_report.proofs.writer.put_section.Given as goal

abbrev pub invariant-loop-k : goal.invariant-loop-k
invariant-loop-k g l = record {
  bytes : IsPending (g.O.Sink.written l.fn.out) (g.O.Sink.written l.out) l.batch
      ((l.fn.batch ++ l.title) ++ flat_map (line_said l.parts) (take l.k (zip (names_of l.notions) (map verdict_of l.verdicts))));
  faults : g.O.Sink.faults l.out ≡ g.O.Sink.faults l.fn.out;
}
