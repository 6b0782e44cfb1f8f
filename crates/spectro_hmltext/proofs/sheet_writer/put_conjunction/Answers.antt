use Rattle.std.proofs.Common.{◌≡◌, ◌∙◌, ◌++◌, take, sym, subst}
use Rattle.std.proofs.lemmas.List.{take_all}
use Rattle.std.proofs.lemmas.Result.{err_from_is_err_and}
use Rattle.spectro_io.specs.Batches.{IsPending, Puts}
use Rattle.spectro_io.specs.Bytes.{AppendsPart}
use Rattle.spectro_io.proofs.Written.{AppendsPart-front}
use Rattle.spectro_io.proofs.Batches.{pending-more, puts-more, puts-stopped}
use Rattle.spectro_io.proofs.Rows.{row-more}
use Rattle.spectro_hmltext.specs.SheetTexts.{clause_text}
use Rattle.spectro_hmltext.proofs.WrittenSheets.{conjunction_front, conjunction-parts, conjunction-whole}
use Rattle.spectro_hmltext.proofs.sheet_writer.put_conjunction.Goals as goal

-- the sink failed before the number and the word were out
pub returns-in_err-put_all-clause-bytes : goal.returns-in_err-put_all-clause-bytes
returns-in_err-put_all-clause-bytes g c =
    let p = err_from_is_err_and c.from_residual.result c.from_residual.ensures.1 in
    rw p.1 (subst (AppendsPart _ _) (sym (conjunction-whole c.args.batch.now c.args.number c.args.clauses.now))
    (AppendsPart-front _ _ _ _ (AppendsPart-front _ _ _ _ (rw (c.as_bytes.ensures ∙ c.digits.ensures) at c.in_err-put_all.ensures.bytes))))

-- the sink failed before the clause was out
pub returns-in_err-put_clause-clause-bytes : goal.returns-in_err-put_clause-clause-bytes
returns-in_err-put_clause-clause-bytes g c =
    let p = err_from_is_err_and c.from_residual-in_err-put_clause.result c.from_residual-in_err-put_clause.ensures.1 in
    rw p.1 (puts-stopped _ _ _ _ _ _ _ _
    (conjunction-parts c.args.batch.now c.args.number c.args.clauses.now c.loop-clause.clause-index _ c.loop-clause-test.true)
    c.loop-clause.invariant.bytes c.in_err-put_clause.ensures.bytes)

-- one clause more is out or held
pub loop-clause-preserved : goal.loop-clause-preserved
loop-clause-preserved g c = record {
  bytes = subst (IsPending _ _ _)
      (row-more clause_text (c.args.batch.now ++ conjunction_front c.args.number) c.args.clauses.now c.loop-clause.clause-index _ c.loop-clause-test.true)
      (pending-more _ _ _ _ _ _ _ c.loop-clause.invariant.bytes c.in_ok-put_clause.ensures.bytes);
  faults = c.in_ok-put_clause.ensures.cause.kept ∙ c.loop-clause.invariant.faults;
}

-- all clauses are out or held, and the line ends
pub returns-clause-bytes : goal.returns-clause-bytes
returns-clause-bytes g c =
    let all : take c.loop-clause.clause-index c.args.clauses.now ≡ c.args.clauses.now = take_all c.loop-clause.clause-index c.args.clauses.now
    c.loop-clause-test.false in
    subst (Puts _ _ _ _) (sym (conjunction-whole c.args.batch.now c.args.number c.args.clauses.now))
    (puts-more _ _ _ _ _ _ _ _ (rw all at c.loop-clause.invariant.bytes) c.put.ensures.bytes)
