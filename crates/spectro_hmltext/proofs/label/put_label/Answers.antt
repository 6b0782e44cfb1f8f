use Rattle.std.proofs.Common.{◌≡◌, ◌∙◌, ◌<◌, [], ◌∷◌, length, take, ap, subst, arith, append_assoc}
use Rattle.std.proofs.lemmas.List.{take_all}
use Rattle.std.proofs.lemmas.Result.{err_from_is_err_and}
use Rattle.spectro_io.specs.Batches.{IsPending, Puts}
use Rattle.spectro_io.specs.QuotedLabels.{escaped}
use Rattle.spectro_io.proofs.Batches.{pending-more, puts-more, puts-stopped}
use Rattle.spectro_hmltext.proofs.WrittenLabels.{label-more, label-parts}
use Rattle.spectro_hmltext.proofs.label.put_label.Goals as goal

-- the sink failed before the byte was out
pub returns-in_err-put_escaped-clause-bytes : goal.returns-in_err-put_escaped-clause-bytes
returns-in_err-put_escaped-clause-bytes g c =
    let p = err_from_is_err_and c.from_residual-in_err-put_escaped.result c.from_residual-in_err-put_escaped.ensures.1 in
    let within : c.loop-byte.byte-index < length c.args.label.now = omega (arith, ap length c.as_bytes-byte-items.ensures.value) in
    rw p.1 (puts-stopped _ _ _ _ _ _ _ _ (label-parts c.args.batch.now c.args.label.now c.loop-byte.byte-index 0 within) c.loop-byte.invariant.bytes
    (rw c.as_bytes-byte-items.ensures.value at c.in_err-put_escaped.ensures.bytes))

-- one byte more is out or held
pub loop-byte-preserved : goal.loop-byte-preserved
loop-byte-preserved g c =
    let within : c.loop-byte.byte-index < length c.args.label.now = omega (arith, ap length c.as_bytes-byte-items.ensures.value) in
    record {
      bytes = subst (IsPending _ _ _) (label-more c.args.batch.now c.args.label.now c.loop-byte.byte-index 0 within)
          (pending-more _ _ _ _ _ _ _ c.loop-byte.invariant.bytes (rw c.as_bytes-byte-items.ensures.value at c.in_ok-put_escaped.ensures.bytes));
      faults = c.in_ok-put_escaped.ensures.cause.kept ∙ c.loop-byte.invariant.faults;
    }

-- all bytes are out or held, and the last quote is put
pub returns-clause-bytes : goal.returns-clause-bytes
returns-clause-bytes g c =
    let all : take c.loop-byte.byte-index c.args.label.now ≡ c.args.label.now = take_all c.loop-byte.byte-index c.args.label.now
    (omega (arith, ap length c.as_bytes-byte-items.ensures.value)) in
    subst (Puts _ _ _ _) (append_assoc c.args.batch.now (34 ∷ escaped c.args.label.now) (34 ∷ []))
    (puts-more _ _ _ _ _ _ _ _ (rw all at c.loop-byte.invariant.bytes) c.put-2.ensures.bytes)
