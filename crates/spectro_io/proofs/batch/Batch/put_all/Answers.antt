-- After each text those up to it are written or held.
use Rattle.std.proofs.Common.{◌∙◌, arith, subst}
use Rattle.std.proofs.lemmas.Result.{err_from_is_err_and}
use Rattle.std.specs.Borrow.{Bor}
use Rattle.std.specs.Prelude.{List, ℕ}
use Rattle.spectro_io.specs.Batches.{IsPending}
use Rattle.spectro_io.proofs.Batches.{pending-more, puts-stopped}
use Rattle.spectro_io.proofs.Rows.{row-more, row-stopped}
use Rattle.spectro_io.proofs.batch.Batch.put_all.Goals as goal

pub returns-in_err-put-clause-bytes : goal.returns-in_err-put-clause-bytes
returns-in_err-put-clause-bytes g c =
    let p = err_from_is_err_and c.from_residual.result c.from_residual.ensures.1 in
    let so_far = c.loop-text.invariant.bytes in
    rw p.1 (puts-stopped _ _ _ _ _ _ _ _ (row-stopped (λ (text : Bor (List ℕ)). text.now) c.args.self.now c.args.texts.now c.loop-text.text-index _
    (omega arith)) so_far c.in_err-put.ensures.bytes)

pub returns-in_err-put-clause-cause : goal.returns-in_err-put-clause-cause
returns-in_err-put-clause-cause g c =
    let p = err_from_is_err_and c.from_residual.result c.from_residual.ensures.1 in
    rw (p.1, ← c.loop-text.invariant.faults) c.in_err-put.ensures.cause

pub loop-text-preserved : goal.loop-text-preserved
loop-text-preserved g c = record {
  bytes = subst (IsPending _ _ _) (row-more (λ (text : Bor (List ℕ)). text.now) c.args.self.now c.args.texts.now c.loop-text.text-index _
      (omega arith)) (pending-more _ _ _ _ _ _ _ c.loop-text.invariant.bytes c.in_ok-put.ensures.bytes);
  faults = c.in_ok-put.ensures.cause.kept ∙ c.loop-text.invariant.faults;
}
