use Rattle.std.proofs.Common.{◌≡◌, ◌+◌, ◌*◌, ◌≤◌, length, take}
use Rattle.spectro_io.specs.QuotedLabels.{escaped}
use Rattle.spectro_hmltext.proofs.label.label_bytes.Given as goal

abbrev pub invariant-loop-byte : goal.invariant-loop-byte
invariant-loop-byte l = record {
  value : l.bytes ≡ 2 + length (escaped (take l.byte-index l.label));
  few : l.bytes ≤ 2 + 2 * l.byte-index;
}
