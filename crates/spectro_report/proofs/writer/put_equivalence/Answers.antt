use Rattle.std.proofs.Common.{◌∙◌, ap, sym, subst}
use Rattle.spectro_io.specs.Batches.{Puts}
use Rattle.spectro_io.proofs.Batches.{puts-more}
use Rattle.spectro_report.specs.Texts.{answer_text}
use Rattle.spectro_report.specs.Verdicts.{verdict_of}
use Rattle.spectro_report.proofs.PutLines.{equivalence-pieces}
use Rattle.spectro_report.proofs.writer.put_equivalence.Goals as goal

pub returns-clause-bytes : goal.returns-clause-bytes
returns-clause-bytes g c =
    let name = rw c.as_bytes.ensures.value at c.in_ok-put.ensures.bytes in
    let answer = rw (c.answer.ensures ∙ ap answer_text c.is_equivalence.ensures) at c.put-2.ensures.bytes in
    subst (Puts _ _ _ _) (sym (equivalence-pieces c.args.batch.now c.args.name.now (verdict_of c.args.forth.now) (verdict_of c.args.back.now)))
    (puts-more _ _ _ _ _ _ _ _ name answer)
