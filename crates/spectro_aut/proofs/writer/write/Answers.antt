use Rattle.std.proofs.Common.{◌≡◌, ◌∙◌, take, arith, subst}
use Rattle.std.specs.List.{flat_map}
use Rattle.std.proofs.lemmas.List.{take_all}
use Rattle.std.proofs.lemmas.Result.{err_from_is_err_and}
use Rattle.spectro_io.specs.Batches.{IsPending}
use Rattle.spectro_io.proofs.Written.{AppendsPart-front}
use Rattle.spectro_io.proofs.Batches.{pending-more, pending-whole, puts-stopped}
use Rattle.spectro_aut.specs.Written.{header_text, step_text}
use Rattle.spectro_aut.proofs.Writing.{step-at, steps-more, steps-parts}
use Rattle.spectro_aut.proofs.writer.write.Goals as goal

-- the sink failed before the header was out
pub returns-in_err-put_header-clause-bytes : goal.returns-in_err-put_header-clause-bytes
returns-in_err-put_header-clause-bytes g c =
    let p = err_from_is_err_and c.from_residual.result c.from_residual.ensures.1 in
    let part = rw c.new-batch.ensures at c.in_err-put_header.ensures.bytes in
    rw p.1 (AppendsPart-front _ _ (header_text c.args.lts.now) (flat_map step_text c.args.lts.now.steps) part)

-- the sink failed before the step was out
pub returns-in_err-put_step-clause-bytes : goal.returns-in_err-put_step-clause-bytes
returns-in_err-put_step-clause-bytes g c =
    let p = err_from_is_err_and c.from_residual-in_err-put_step.result c.from_residual-in_err-put_step.ensures.1 in
    let step = step-at c.args.lts.now.steps c.loop-k.k c.step-step.result.from c.step-step.result.label c.step-step.result.to c.label.result.now
    c.step-step.ensures.step c.label.ensures.label in
    rw p.1 (puts-stopped _ _ _ _ _ _ _ _
    (steps-parts (header_text c.args.lts.now) c.args.lts.now.steps c.loop-k.k _ step) c.loop-k.invariant.bytes c.in_err-put_step.ensures.bytes)

-- one step more is out or held
pub loop-k-preserved : goal.loop-k-preserved
loop-k-preserved g c =
    let step = step-at c.args.lts.now.steps c.loop-k.k c.step-step.result.from c.step-step.result.label c.step-step.result.to c.label.result.now
    c.step-step.ensures.step c.label.ensures.label in
    record {
      bytes = subst (IsPending _ _ _) (steps-more (header_text c.args.lts.now) c.args.lts.now.steps c.loop-k.k _ step)
          (pending-more _ _ _ _ _ _ _ c.loop-k.invariant.bytes c.in_ok-put_step.ensures.bytes);
      faults = c.in_ok-put_step.ensures.cause.kept ∙ c.loop-k.invariant.faults;
    }

-- all that was held is out
pub returns-clause-bytes : goal.returns-clause-bytes
returns-clause-bytes g c =
    let all : take c.loop-k.k c.args.lts.now.steps ≡ c.args.lts.now.steps = take_all c.loop-k.k c.args.lts.now.steps
    (omega (arith, c.step_count-k-end.ensures.value)) in
    pending-whole _ _ _ _ _ _ (rw all at c.loop-k.invariant.bytes) c.flush.ensures.bytes
