use Rattle.std.proofs.Common.{subst}
use Rattle.std.specs.Prelude.{OnOk}
use Rattle.spectro_lines.specs.Feeding.{Takes}
use Rattle.spectro_aut.specs.Texts.{aut_form}
use Rattle.spectro_aut.proofs.feed.Feed.feed.Goals as goal

pub returns-clause-ok : goal.returns-clause-ok
returns-clause-ok c = subst (λ fed. OnOk c.feed.result (Takes aut_form fed c.feed.new.self c.args.piece.now)) c.self.view_is c.feed.ensures.ok
