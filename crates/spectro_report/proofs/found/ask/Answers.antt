use Rattle.std.proofs.Common.{◌∙◌, ◌++◌, [], ◌∷◌, ap, sym, append_assoc, slice_index_or, take}
use Rattle.std.specs.Prelude.{None}
use Rattle.spectro_report.specs.Firsts.{wanted_of}
use Rattle.spectro_report.proofs.Asking.{wanted-more}
use Rattle.spectro_report.proofs.found.ask.Goals as goal

pub loop-first-preserved : goal.loop-first-preserved
loop-first-preserved c =
    c.in_ok-ask_one.ensures
    ∙ ap (λ wanted. wanted ++ wanted_of c.args.pair (slice_index_or c.args.firsts.now c.loop-first.first-index None ∷ [])) c.loop-first.invariant
    ∙ append_assoc c.args.wanted.now.items (wanted_of c.args.pair (take c.loop-first.first-index c.args.firsts.now)) _
    ∙ ap (λ more. c.args.wanted.now.items ++ more) (sym (wanted-more c.args.pair c.args.firsts.now c.loop-first.first-index None c.loop-first-test.true))
