use Rattle.std.proofs.Common.{map}
use Rattle.std.specs.Prelude.{string_bytes}
use Rattle.spectro_lts.proofs.Ranking.{sorted_texts}
use Rattle.spectro_lts.proofs.ranks.sorted_labels.Goals as goal

pub returns : goal.returns
returns c =
    sorted_texts (map string_bytes c.args.labels.now.keys) c.loop-label.sorted.items c.sort_unstable.new.self.items c.loop-label.label-iterator
    c.loop-label.invariant c.in-None.ensures.steps.0
    c.sort_unstable.ensures.permutation c.sort_unstable.ensures.sorted
