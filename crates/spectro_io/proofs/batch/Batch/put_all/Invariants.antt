use Rattle.std.proofs.Common.{◌≡◌, ◌++◌, take}
use Rattle.spectro_io.specs.Batches.{IsPending, all_of}
use Rattle.spectro_io.proofs.batch.Batch.put_all.Given as goal

abbrev pub invariant-loop-text : goal.invariant-loop-text
invariant-loop-text g l = record {
  bytes : IsPending (g.O.Sink.written l.initial.out) (g.O.Sink.written l.out) l.self (l.initial.self ++ all_of (take l.text-index l.texts));
  faults : g.O.Sink.faults l.out ≡ g.O.Sink.faults l.initial.out;
}
