use Rattle.std.proofs.Common.{◌≡◌, ◌++◌, take}
use Rattle.std.specs.List.{flat_map}
use Rattle.spectro_io.specs.Batches.{IsPending}
use Rattle.spectro_notation.specs.Prices.{next_text}
use Rattle.spectro_notation.proofs.price.put_numbers.Given as goal

abbrev pub invariant-loop-number : goal.invariant-loop-number
invariant-loop-number g l = record {
  bytes : IsPending (g.O.Sink.written l.initial.out) (g.O.Sink.written l.out) l.batch (l.initial.batch ++ flat_map next_text (take l.number-index l.others));
  faults : g.O.Sink.faults l.out ≡ g.O.Sink.faults l.initial.out;
}
