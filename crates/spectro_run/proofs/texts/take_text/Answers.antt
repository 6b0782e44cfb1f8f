-- What was read is what the name holds, since the shelf has opened it.
use Rattle.std.proofs.Common.{subst}
use Rattle.spectro_io.specs.Shelves.{Opens}
use Rattle.spectro_run.proofs.Taken.{text_taken}
use Rattle.spectro_run.proofs.texts.take_text.Goals as goal

pub returns-clause-text : goal.returns-clause-text
returns-clause-text g c =
    text_taken g.I.Intake.has_taken (g.H.Source.texts c.args.shelf.now) c.args.name.now (g.H.Source.left c.open.new.self)
    (g.H.Source.left c.read_into.new.source) c.args.intake.now c.read_into.new.intake
    (subst (λ found. Opens (g.H.Source.texts c.args.shelf.now) c.args.name.now found (g.H.Source.left c.open.new.self)) c.in-Ok-true.field-0-test
    c.in-Ok-true.ensures.opened) c.in_ok-read_into.ensures.all
