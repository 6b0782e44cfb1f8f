use Rattle.std.proofs.Common.{sym, subst}
use Rattle.std.proofs.lemmas.Result.{err_from_is_err_and}
use Rattle.spectro_io.specs.Bytes.{AppendsPart, WritesWhole}
use Rattle.spectro_io.proofs.Written.{AppendsPart-front}
use Rattle.spectro_io.proofs.Batches.{pending-more, pending-part, pending-whole}
use Rattle.spectro_report.proofs.PutLines.{report-pieces}
use Rattle.spectro_report.proofs.writer.text.Goals as goal

pub returns-in_err-put_extents-clause-bytes : goal.returns-in_err-put_extents-clause-bytes
returns-in_err-put_extents-clause-bytes g c =
    let p = err_from_is_err_and c.from_residual.result c.from_residual.ensures.1 in
    let part = rw c.new-batch.ensures at c.in_err-put_extents.ensures.bytes in
    rw p.1 (subst (AppendsPart _ _) (sym (report-pieces c.args.notions.now c.args.parts c.args.report.now))
    (AppendsPart-front _ _ _ _ (AppendsPart-front _ _ _ _ (AppendsPart-front _ _ _ _ (AppendsPart-front _ _ _ _ part)))))

pub returns-in_err-put_section-clause-bytes : goal.returns-in_err-put_section-clause-bytes
returns-in_err-put_section-clause-bytes g c =
    let p = err_from_is_err_and c.from_residual-in_err-put_section.result c.from_residual-in_err-put_section.ensures.1 in
    let extents = rw c.new-batch.ensures at c.in_ok-put_extents.ensures.bytes in
    let part = pending-part _ _ _ _ _ _ extents (rw c.all_forth.ensures at c.in_err-put_section.ensures.bytes) in
    rw p.1 (subst (AppendsPart _ _) (sym (report-pieces c.args.notions.now c.args.parts c.args.report.now))
    (AppendsPart-front _ _ _ _ (AppendsPart-front _ _ _ _ (AppendsPart-front _ _ _ _ part))))

pub returns-in_err-put_section-2-clause-bytes : goal.returns-in_err-put_section-2-clause-bytes
returns-in_err-put_section-2-clause-bytes g c =
    let p = err_from_is_err_and c.from_residual-in_err-put_section-2.result c.from_residual-in_err-put_section-2.ensures.1 in
    let extents = rw c.new-batch.ensures at c.in_ok-put_extents.ensures.bytes in
    let forth = pending-more _ _ _ _ _ _ _ extents (rw c.all_forth.ensures at c.in_ok-put_section.ensures.bytes) in
    let part = pending-part _ _ _ _ _ _ forth (rw c.all_back.ensures at c.in_err-put_section-2.ensures.bytes) in
    rw p.1 (subst (AppendsPart _ _) (sym (report-pieces c.args.notions.now c.args.parts c.args.report.now))
    (AppendsPart-front _ _ _ _ (AppendsPart-front _ _ _ _ part)))

pub returns-in_err-put_equivalences-clause-bytes : goal.returns-in_err-put_equivalences-clause-bytes
returns-in_err-put_equivalences-clause-bytes g c =
    let p = err_from_is_err_and c.from_residual-in_err-put_equivalences.result c.from_residual-in_err-put_equivalences.ensures.1 in
    let extents = rw c.new-batch.ensures at c.in_ok-put_extents.ensures.bytes in
    let forth = pending-more _ _ _ _ _ _ _ extents (rw c.all_forth.ensures at c.in_ok-put_section.ensures.bytes) in
    let back = pending-more _ _ _ _ _ _ _ forth (rw c.all_back.ensures at c.in_ok-put_section-2.ensures.bytes) in
    let part = pending-part _ _ _ _ _ _ back c.in_err-put_equivalences.ensures.bytes in
    rw p.1 (subst (AppendsPart _ _) (sym (report-pieces c.args.notions.now c.args.parts c.args.report.now)) (AppendsPart-front _ _ _ _ part))

pub returns-in_err-put_nodes-clause-bytes : goal.returns-in_err-put_nodes-clause-bytes
returns-in_err-put_nodes-clause-bytes g c =
    let p = err_from_is_err_and c.from_residual-in_err-put_nodes.result c.from_residual-in_err-put_nodes.ensures.1 in
    let extents = rw c.new-batch.ensures at c.in_ok-put_extents.ensures.bytes in
    let forth = pending-more _ _ _ _ _ _ _ extents (rw c.all_forth.ensures at c.in_ok-put_section.ensures.bytes) in
    let back = pending-more _ _ _ _ _ _ _ forth (rw c.all_back.ensures at c.in_ok-put_section-2.ensures.bytes) in
    let answers = pending-more _ _ _ _ _ _ _ back c.in_ok-put_equivalences.ensures.bytes in
    rw p.1 (subst (AppendsPart _ _) (sym (report-pieces c.args.notions.now c.args.parts c.args.report.now))
    (pending-part _ _ _ _ _ _ answers c.in_err-put_nodes.ensures.bytes))

-- all lines are out
pub returns-clause-bytes : goal.returns-clause-bytes
returns-clause-bytes g c =
    let extents = rw c.new-batch.ensures at c.in_ok-put_extents.ensures.bytes in
    let forth = pending-more _ _ _ _ _ _ _ extents (rw c.all_forth.ensures at c.in_ok-put_section.ensures.bytes) in
    let back = pending-more _ _ _ _ _ _ _ forth (rw c.all_back.ensures at c.in_ok-put_section-2.ensures.bytes) in
    let answers = pending-more _ _ _ _ _ _ _ back c.in_ok-put_equivalences.ensures.bytes in
    let nodes = pending-more _ _ _ _ _ _ _ answers c.in_ok-put_nodes.ensures.bytes in
    subst (WritesWhole _ _ _) (sym (report-pieces c.args.notions.now c.args.parts c.args.report.now)) (pending-whole _ _ _ _ _ _ nodes c.flush.ensures.bytes)
