use Rattle.std.proofs.Common.{[], refl}
use Rattle.spectro_lines.proofs.feed.Feed.new.Goals as goal

pub returns : goal.returns
returns g c = record {
  front = [];
  begun = 0;
  whole = λ rest. rw c.new.ensures.items refl;
  follow = rw c.start.ensures refl;
  counted = rw c.new.ensures.items refl;
}
