use Rattle.std.proofs.Common.{List, ◌≡◌, ◌∙◌, ◌++◌, take, sym, subst, arith}
use Rattle.std.specs.Prelude.{codes}
use Rattle.std.specs.List.{zip}
use Rattle.std.proofs.lemmas.List.{take_all}
use Rattle.std.proofs.lemmas.Result.{err_from_is_err_and}
use Rattle.spectro_io.specs.Batches.{IsPending}
use Rattle.spectro_io.specs.Bytes.{AppendsPart}
use Rattle.spectro_io.proofs.Written.{AppendsPart-front}
use Rattle.spectro_io.proofs.Batches.{pending-more, puts-stopped}
use Rattle.spectro_notions.specs.Tables.{names_of}
use Rattle.spectro_report.specs.Texts.{equivalence_lines}
use Rattle.spectro_report.specs.Verdicts.{Verdict, verdict_of}
use Rattle.spectro_report.proofs.PutLines.{two-pieces}
use Rattle.spectro_report.proofs.Sections.{beside, beside-long, line_answered, lines-more, lines-stopped, name-at, pairs-long}
use Rattle.spectro_report.proofs.writer.put_equivalences.Goals as goal

-- the sink failed before the title was out
pub returns-in_err-put-clause-bytes : goal.returns-in_err-put-clause-bytes
returns-in_err-put-clause-bytes g c =
    let p = err_from_is_err_and c.from_residual.result c.from_residual.ensures.1 in
    rw p.1 (subst (AppendsPart _ _)
    (sym (two-pieces c.args.batch.now (codes "equivalences\n") (equivalence_lines c.args.notions.now c.args.report.now.forth c.args.report.now.back)))
    (AppendsPart-front _ _ _ _ c.in_err-put.ensures.bytes))

-- the sink failed before the line was out
pub returns-in_err-put_equivalence-clause-bytes : goal.returns-in_err-put_equivalence-clause-bytes
returns-in_err-put_equivalence-clause-bytes g c =
    let p = err_from_is_err_and c.from_residual-in_err-put_equivalence.result c.from_residual-in_err-put_equivalence.ensures.1 in
    let both : List (Verdict × Verdict) = zip c.args.report.now.forth c.args.report.now.back in
    let name = name-at c.args.notions.now c.loop-k.k c.name.result.now c.name.ensures in
    let said = beside c.args.report.now.forth c.args.report.now.back c.loop-k.k (verdict_of c.forth.result.now) (verdict_of c.back.result.now)
    c.forth.ensures c.back.ensures in
    rw p.1 (puts-stopped _ _ _ _ _ _ _ _
    (two-pieces c.args.batch.now (codes "equivalences\n") (equivalence_lines c.args.notions.now c.args.report.now.forth c.args.report.now.back)
    ∙ lines-stopped line_answered (c.args.batch.now ++ codes "equivalences\n") (names_of c.args.notions.now) both c.loop-k.k c.name.result.now
    (verdict_of c.forth.result.now, verdict_of c.back.result.now) name said)
    c.loop-k.invariant.bytes c.in_err-put_equivalence.ensures.bytes)

-- one line more is out or held
pub loop-k-preserved : goal.loop-k-preserved
loop-k-preserved g c =
    let both : List (Verdict × Verdict) = zip c.args.report.now.forth c.args.report.now.back in
    let name = name-at c.args.notions.now c.loop-k.k c.name.result.now c.name.ensures in
    let said = beside c.args.report.now.forth c.args.report.now.back c.loop-k.k (verdict_of c.forth.result.now) (verdict_of c.back.result.now)
    c.forth.ensures c.back.ensures in
    record {
      bytes = subst (IsPending _ _ _)
          (lines-more line_answered (c.args.batch.now ++ codes "equivalences\n") (names_of c.args.notions.now) both c.loop-k.k c.name.result.now
          (verdict_of c.forth.result.now, verdict_of c.back.result.now) name said)
          (pending-more _ _ _ _ _ _ _ c.loop-k.invariant.bytes c.in_ok-put_equivalence.ensures.bytes);
      faults = c.in_ok-put_equivalence.ensures.cause.kept ∙ c.loop-k.invariant.faults;
    }

-- all lines are out or held
pub returns-clause-bytes : goal.returns-clause-bytes
returns-clause-bytes g c =
    let both : List (Verdict × Verdict) = zip c.args.report.now.forth c.args.report.now.back in
    let same = pairs-long c.args.report.now.forth c.args.report.now.back (c.requires.forth ∙ sym c.requires.back) in
    let long = beside-long c.args.notions.now both (same ∙ c.requires.forth) in
    let all : take c.loop-k.k (zip (names_of c.args.notions.now) both) ≡ zip (names_of c.args.notions.now) both = take_all c.loop-k.k
    (zip (names_of c.args.notions.now) both) (omega (arith, long, c.loop-k-test.false, c.count-k-end.ensures.value)) in
    subst (IsPending _ _ _)
    (sym (two-pieces c.args.batch.now (codes "equivalences\n") (equivalence_lines c.args.notions.now c.args.report.now.forth c.args.report.now.back)))
    (rw all at c.loop-k.invariant.bytes)
