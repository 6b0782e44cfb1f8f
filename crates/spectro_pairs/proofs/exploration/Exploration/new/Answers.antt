-- No number is put down yet.
use Rattle.std.proofs.Common.{◌∙◌}
use Rattle.spectro_pairs.proofs.exploration.Exploration.new.Goals as goal

pub returns-clause-posts : goal.returns-clause-posts
returns-clause-posts c = record {
  wide = c.new-4.ensures.width ∙ c.label_count.ensures.value;
  exact = λ q label_no n knows. absurd (c.new-4.ensures.nothing q label_no n knows);
}
