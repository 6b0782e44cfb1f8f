use Rattle.std.proofs.Common.{◌≡◌, ◌∷◌, ◌++◌, take}
use Rattle.spectro_io.specs.Batches.{IsPending}
use Rattle.spectro_io.specs.QuotedLabels.{escaped}
use Rattle.spectro_hmltext.proofs.label.put_label.Given as goal

abbrev pub invariant-loop-byte : goal.invariant-loop-byte
invariant-loop-byte g l = record {
  bytes : IsPending (g.O.Sink.written l.fn.out) (g.O.Sink.written l.out) l.batch (l.fn.batch ++ 34 ∷ escaped (take l.byte-index l.label));
  faults : g.O.Sink.faults l.out ≡ g.O.Sink.faults l.fn.out;
}
