use Rattle.std.proofs.Common.{◌≡◌, ◌++◌, ◌<◌, ℕ, map, length, slice_index, slice_index_or, []}
use Rattle.std.specs.Prelude.{string_bytes}
use Rattle.spectro_lts.specs.Ranks.{texts_of, IsRank}
use Rattle.spectro_lts.proofs.ranks.ranks.Given as goal

abbrev pub invariant-loop-label : goal.invariant-loop-label
invariant-loop-label l = record {
  left : texts_of l.yielded ++ map string_bytes l.label-iterator ≡ map string_bytes l.labels.keys;
  long : length l.ranks.items ≡ length l.yielded;
  each : (label_no : ℕ) → label_no < length l.ranks.items
      → IsRank (texts_of l.sorted.items) (slice_index_or (map string_bytes l.labels.keys) label_no []) (slice_index l.ranks.items label_no);
}
