use Rattle.std.proofs.Common.{◌∙◌, ap, sym, subst}
use Rattle.std.specs.Fmt.{decimal}
use Rattle.spectro_io.specs.Batches.{Puts}
use Rattle.spectro_report.proofs.PutLines.{game-pieces}
use Rattle.spectro_report.proofs.extents.put_game.Goals as goal

pub returns-clause-bytes : goal.returns-clause-bytes
returns-clause-bytes g c = subst (Puts _ _ _ _) (sym (game-pieces c.args.batch.now c.args.report.now))
    (rw (
      c.as_bytes.ensures ∙ c.digits-pairs.ensures ∙ ap decimal c.pairs.ensures,
      c.as_bytes-2.ensures ∙ c.digits-size.ensures ∙ ap decimal c.size.ensures,
      c.as_bytes-3.ensures ∙ c.of-energies.ensures ∙ ap decimal c.energies.ensures,
    ) at c.put_all.ensures.bytes)
