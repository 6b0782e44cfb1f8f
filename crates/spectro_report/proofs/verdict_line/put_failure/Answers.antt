use Rattle.std.proofs.Common.{sym, subst}
use Rattle.std.proofs.lemmas.Result.{err_from_is_err_and}
use Rattle.spectro_io.specs.Batches.{Puts}
use Rattle.spectro_io.specs.Bytes.{AppendsPart}
use Rattle.spectro_io.proofs.Written.{AppendsPart-front}
use Rattle.spectro_io.proofs.Batches.{pending-more, pending-part, puts-more}
use Rattle.spectro_energy.specs.Energy.{price_of}
use Rattle.spectro_report.proofs.PutLines.{failure-pieces}
use Rattle.spectro_report.proofs.verdict_line.put_failure.Goals as goal

pub returns-in_err-put_all-clause-bytes : goal.returns-in_err-put_all-clause-bytes
returns-in_err-put_all-clause-bytes g c =
    let p = err_from_is_err_and c.from_residual.result c.from_residual.ensures.1 in
    rw p.1 (subst (AppendsPart _ _)
    (sym (failure-pieces c.args.batch.now c.args.name.now c.args.parts (price_of c.args.price.parts) c.args.node c.args.shown.now))
    (AppendsPart-front _ _ _ _ (AppendsPart-front _ _ _ _ (rw c.as_bytes.ensures.value at c.in_err-put_all.ensures.bytes))))

pub returns-in_err-put_price-clause-bytes : goal.returns-in_err-put_price-clause-bytes
returns-in_err-put_price-clause-bytes g c =
    let p = err_from_is_err_and c.from_residual-in_err-put_price.result c.from_residual-in_err-put_price.ensures.1 in
    let front = rw c.as_bytes.ensures.value at c.in_ok-put_all.ensures.bytes in
    rw p.1 (subst (AppendsPart _ _)
    (sym (failure-pieces c.args.batch.now c.args.name.now c.args.parts (price_of c.args.price.parts) c.args.node c.args.shown.now))
    (AppendsPart-front _ _ _ _ (pending-part _ _ _ _ _ _ front c.in_err-put_price.ensures.bytes)))

pub returns-clause-bytes : goal.returns-clause-bytes
returns-clause-bytes g c =
    let front = rw c.as_bytes.ensures.value at c.in_ok-put_all.ensures.bytes in
    let priced = pending-more _ _ _ _ _ _ _ front c.in_ok-put_price.ensures.bytes in
    subst (Puts _ _ _ _) (sym (failure-pieces c.args.batch.now c.args.name.now c.args.parts (price_of c.args.price.parts) c.args.node c.args.shown.now))
    (puts-more _ _ _ _ _ _ _ _ priced c.put_shown.ensures.bytes)
