use Rattle.std.proofs.Common.{sym, subst}
use Rattle.std.proofs.lemmas.Result.{err_from_is_err_and}
use Rattle.spectro_io.specs.Bytes.{AppendsPart, WritesWhole}
use Rattle.spectro_io.proofs.Written.{AppendsPart-front}
use Rattle.spectro_io.proofs.Batches.{pending-more, pending-part, pending-whole}
use Rattle.spectro_energy.specs.Energy.{price_of}
use Rattle.spectro_run.proofs.PutLines.{priced-pieces}
use Rattle.spectro_run.proofs.commands.price.PricedWritten.write.Goals as goal

pub returns-in_err-put-2-clause-bytes : goal.returns-in_err-put-2-clause-bytes
returns-in_err-put-2-clause-bytes g c =
    let p = err_from_is_err_and c.from_residual-in_err-put-2.result c.from_residual-in_err-put-2.ensures.1 in
    let text = rw (c.new-batch.ensures, c.as_bytes.ensures.value, c.as_str.ensures) at c.in_ok-put.ensures.bytes in
    rw p.1 (subst (AppendsPart _ _) (sym (priced-pieces c.args.self.now.text c.args.self.now.parts (price_of c.args.self.now.price.parts)))
    (AppendsPart-front _ _ _ _ (pending-part _ _ _ _ _ _ text c.in_err-put-2.ensures.bytes)))

pub returns-in_err-put_price_line-clause-bytes : goal.returns-in_err-put_price_line-clause-bytes
returns-in_err-put_price_line-clause-bytes g c =
    let p = err_from_is_err_and c.from_residual-in_err-put_price_line.result c.from_residual-in_err-put_price_line.ensures.1 in
    let text = rw (c.new-batch.ensures, c.as_bytes.ensures.value, c.as_str.ensures) at c.in_ok-put.ensures.bytes in
    let line = pending-more _ _ _ _ _ _ _ text c.in_ok-put-2.ensures.bytes in
    rw p.1 (subst (AppendsPart _ _) (sym (priced-pieces c.args.self.now.text c.args.self.now.parts (price_of c.args.self.now.price.parts)))
    (pending-part _ _ _ _ _ _ line c.in_err-put_price_line.ensures.bytes))

pub returns-clause-bytes : goal.returns-clause-bytes
returns-clause-bytes g c =
    let text = rw (c.new-batch.ensures, c.as_bytes.ensures.value, c.as_str.ensures) at c.in_ok-put.ensures.bytes in
    let line = pending-more _ _ _ _ _ _ _ text c.in_ok-put-2.ensures.bytes in
    let all = pending-more _ _ _ _ _ _ _ line c.in_ok-put_price_line.ensures.bytes in
    subst (WritesWhole _ _ _) (sym (priced-pieces c.args.self.now.text c.args.self.now.parts (price_of c.args.self.now.price.parts)))
    (pending-whole _ _ _ _ _ _ all c.flush.ensures.bytes)
