use Rattle.std.proofs.Common.{[], ◌∷◌, ◌++◌}
use Rattle.std.specs.Prelude.{string_bytes}
use Rattle.spectro_hmltext.proofs.WrittenLabels.{letters-more}
use Rattle.spectro_hmltext.proofs.label.push_label.Goals as goal

pub loop-letter-preserved : goal.loop-letter-preserved
loop-letter-preserved c =
    letters-more (string_bytes c.args.text.now ++ 34 ∷ []) (string_bytes c.loop-letter.text)
    (string_bytes c.push_escaped.new.text) c.loop-letter.yielded c.in-Some.letter c.loop-letter.invariant c.in_ok-push_escaped.ensures
