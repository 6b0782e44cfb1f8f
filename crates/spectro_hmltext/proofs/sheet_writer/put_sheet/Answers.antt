use Rattle.std.proofs.Common.{◌≡◌, ◌∙◌, ◌++◌, take, ap, sym, arith, subst, append_assoc}
use Rattle.std.proofs.lemmas.List.{take_all}
use Rattle.std.proofs.lemmas.Result.{err_from_is_err_and}
use Rattle.spectro_io.specs.Batches.{IsPending}
use Rattle.spectro_io.proofs.Batches.{pending-more, puts-stopped}
use Rattle.spectro_hmltext.specs.SheetTexts.{sheet_text}
use Rattle.spectro_hmltext.proofs.WrittenSheets.{held-nodes-more, held-nodes-parts}
use Rattle.spectro_hmltext.proofs.sheet_writer.put_sheet.Goals as goal

-- the sink failed before the line was out
pub returns-in_err-put_node-clause-bytes : goal.returns-in_err-put_node-clause-bytes
returns-in_err-put_node-clause-bytes g c =
    let p = err_from_is_err_and c.from_residual.result c.from_residual.ensures.1 in
    rw p.1 (puts-stopped _ _ _ _ _ _ _ _
    (held-nodes-parts c.args.batch.now c.args.sheet.now c.loop-k.k _ c.node.ensures.node) c.loop-k.invariant.bytes c.in_err-put_node.ensures.bytes)

-- one line more is out or held
pub loop-k-preserved : goal.loop-k-preserved
loop-k-preserved g c = record {
  bytes = subst (IsPending _ _ _) (held-nodes-more c.args.batch.now c.args.sheet.now c.loop-k.k _ c.node.ensures.node)
      (pending-more _ _ _ _ _ _ _ c.loop-k.invariant.bytes c.in_ok-put_node.ensures.bytes);
  faults = c.in_ok-put_node.ensures.cause.kept ∙ c.loop-k.invariant.faults;
}

-- all lines are out or held
pub returns-clause-bytes : goal.returns-clause-bytes
returns-clause-bytes g c =
    let all : take c.loop-k.k c.args.sheet.now ≡ c.args.sheet.now = take_all c.loop-k.k c.args.sheet.now (omega (arith, c.len-k-end.ensures.value)) in
    rw all at c.loop-k.invariant.bytes
