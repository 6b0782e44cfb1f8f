use Rattle.std.proofs.Common.{◌∙◌, sym, subst}
use Rattle.spectro_io.specs.Batches.{Puts}
use Rattle.spectro_report.specs.Kept.{extent_in}
use Rattle.spectro_report.proofs.PutLines.{side-pieces}
use Rattle.spectro_report.proofs.extents.put_side.Goals as goal

pub returns-clause-bytes : goal.returns-clause-bytes
returns-clause-bytes g c = subst (Puts _ _ _ _) (sym (side-pieces c.args.batch.now c.args.side.now (extent_in c.args.extent)))
    (rw (c.as_bytes.ensures ∙ c.digits-states.ensures, c.as_bytes-2.ensures ∙ c.digits-transitions.ensures) at c.put_all.ensures.bytes)
