-- The word, the price and the LF are the line.
use Rattle.std.proofs.Common.{sym, subst}
use Rattle.std.proofs.lemmas.Result.{err_from_is_err_and}
use Rattle.spectro_io.specs.Batches.{Puts}
use Rattle.spectro_io.specs.Bytes.{AppendsPart}
use Rattle.spectro_io.proofs.Written.{AppendsPart-front}
use Rattle.spectro_io.proofs.Batches.{pending-more, pending-part, puts-more}
use Rattle.spectro_energy.specs.Energy.{price_of}
use Rattle.spectro_run.proofs.PutLines.{price_line-pieces}
use Rattle.spectro_run.proofs.output.put_price_line.Goals as goal

pub returns-in_err-put-clause-bytes : goal.returns-in_err-put-clause-bytes
returns-in_err-put-clause-bytes g c =
    let p = err_from_is_err_and c.from_residual.result c.from_residual.ensures.1 in
    rw p.1 (subst (AppendsPart _ _) (sym (price_line-pieces c.args.batch.now c.args.parts (price_of c.args.price.parts)))
    (AppendsPart-front _ _ _ _ (AppendsPart-front _ _ _ _ c.in_err-put.ensures.bytes)))

pub returns-in_err-put_price-clause-bytes : goal.returns-in_err-put_price-clause-bytes
returns-in_err-put_price-clause-bytes g c =
    let p = err_from_is_err_and c.from_residual-in_err-put_price.result c.from_residual-in_err-put_price.ensures.1 in
    rw p.1 (subst (AppendsPart _ _) (sym (price_line-pieces c.args.batch.now c.args.parts (price_of c.args.price.parts)))
    (AppendsPart-front _ _ _ _ (pending-part _ _ _ _ _ _ c.in_ok-put.ensures.bytes c.in_err-put_price.ensures.bytes)))

pub returns-clause-bytes : goal.returns-clause-bytes
returns-clause-bytes g c =
    let first = pending-more _ _ _ _ _ _ _ c.in_ok-put.ensures.bytes c.in_ok-put_price.ensures.bytes in
    subst (Puts _ _ _ _) (sym (price_line-pieces c.args.batch.now c.args.parts (price_of c.args.price.parts)))
    (puts-more _ _ _ _ _ _ _ _ first c.put-2.ensures.bytes)
