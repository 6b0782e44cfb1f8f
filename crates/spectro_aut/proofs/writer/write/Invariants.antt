use Rattle.std.proofs.Common.{◌≡◌, ◌++◌, take}
use Rattle.std.specs.List.{flat_map}
use Rattle.spectro_io.specs.Batches.{IsPending}
use Rattle.spectro_aut.specs.Written.{header_text, step_text}
use Rattle.spectro_aut.proofs.writer.write.Given as goal

abbrev pub invariant-loop-k : goal.invariant-loop-k
invariant-loop-k g l = record {
  bytes : IsPending (g.O.Sink.written l.fn.out) (g.O.Sink.written l.out) l.batch (header_text l.lts ++ flat_map step_text (take l.k l.lts.steps));
  faults : g.O.Sink.faults l.out ≡ g.O.Sink.faults l.fn.out;
}
