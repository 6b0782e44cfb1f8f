use Rattle.std.proofs.Common.{◌∷◌, []}
use Rattle.std.proofs.lemmas.Result.{on_ok_weaker}
use Rattle.spectro_lines.proofs.Taking.{Takes-append}
use Rattle.spectro_lines.proofs.feed.Feed.take_line.Goals as goal

pub returns : goal.returns
returns g c =
    on_ok_weaker c.end_line.result
    (Takes-append g.G.Grammar.form c.args.self.now c.hold.new.self c.end_line.new.self c.args.part.now (10 ∷ []) c.in_ok-hold.ensures) c.end_line.ensures
