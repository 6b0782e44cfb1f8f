-- The one stage stops as the chain says, and else the system is that of the file.
use Rattle.std.proofs.Common.{refl}
use Rattle.std.specs.Prelude.{None}
use Rattle.std.proofs.lemmas.Result.{err_from_is_err_and}
use Rattle.spectro_aut.specs.Written.{text_of}
use Rattle.spectro_run.specs.Refusals.{system_of}
use Rattle.spectro_run.specs.Stages.{Writes, given}
use Rattle.spectro_words.specs.Commands.{rewrite}
use Rattle.spectro_run.specs.declared.status.Which.TheVariants.{Left}
use Rattle.spectro_run.proofs.FilesHeld.{are-held, files_held}
use Rattle.spectro_run.proofs.Stopping.{stops-first}
use Rattle.spectro_run.proofs.commands.rewrite.rewrite.Goals as goal

pub returns-in_err-lts-clause-prepared : goal.returns-in_err-lts-clause-prepared
returns-in_err-lts-clause-prepared g c =
    let p = err_from_is_err_and c.from_residual.result c.from_residual.ensures.1 in
    let file = c.in_err-lts.ensures.stage in
    rw (p.1, p.2) (record {
      held = files_held file.held None None None;
      are = are-held (g.H.Source.texts c.args.shelf.now) (rewrite c.args.file.now) file.held None None None file.is refl refl refl;
      ends = stops-first (system_of Left file.held) (λ system. Writes (text_of system)) _ (λ failed. failed) file.ends;
    })

pub returns-clause-prepared : goal.returns-clause-prepared
returns-clause-prepared g c =
    let file = c.in_ok-lts.ensures.stage in
    record {
      held = files_held file.held None None None;
      are = are-held (g.H.Source.texts c.args.shelf.now) (rewrite c.args.file.now) file.held None None None file.is refl refl refl;
      ends = given c.in_ok-lts.lts file.ends (refl, refl);
    }
