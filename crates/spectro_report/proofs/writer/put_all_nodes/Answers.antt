use Rattle.std.proofs.Common.{sym, subst}
use Rattle.std.specs.Prelude.{codes}
use Rattle.std.proofs.lemmas.Result.{err_from_is_err_and}
use Rattle.spectro_io.specs.Batches.{Puts}
use Rattle.spectro_io.specs.Bytes.{AppendsPart}
use Rattle.spectro_io.proofs.Written.{AppendsPart-front}
use Rattle.spectro_io.proofs.Batches.{puts-more}
use Rattle.spectro_hmltext.specs.SheetTexts.{sheet_text}
use Rattle.spectro_report.proofs.PutLines.{two-pieces}
use Rattle.spectro_report.proofs.writer.put_all_nodes.Goals as goal

pub returns-in_err-put-clause-bytes : goal.returns-in_err-put-clause-bytes
returns-in_err-put-clause-bytes g c =
    let p = err_from_is_err_and c.from_residual.result c.from_residual.ensures.1 in
    rw p.1 (subst (AppendsPart _ _) (sym (two-pieces c.args.batch.now (codes "nodes\n") (sheet_text c.args.sheet.now)))
    (AppendsPart-front _ _ _ _ c.in_err-put.ensures.bytes))

pub returns-clause-bytes : goal.returns-clause-bytes
returns-clause-bytes g c = subst (Puts _ _ _ _) (sym (two-pieces c.args.batch.now (codes "nodes\n") (sheet_text c.args.sheet.now)))
    (puts-more _ _ _ _ _ _ _ _ c.in_ok-put.ensures.bytes c.put_sheet.ensures.bytes)
