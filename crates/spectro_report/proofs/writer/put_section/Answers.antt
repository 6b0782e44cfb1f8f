use Rattle.std.proofs.Common.{List, ◌≡◌, ◌∙◌, ◌++◌, map, take, sym, subst, arith}
use Rattle.std.specs.List.{zip}
use Rattle.std.proofs.lemmas.List.{take_all, length-map}
use Rattle.std.proofs.lemmas.Result.{err_from_is_err_and}
use Rattle.spectro_io.specs.Batches.{IsPending}
use Rattle.spectro_io.specs.Bytes.{AppendsPart}
use Rattle.spectro_io.proofs.Written.{AppendsPart-front}
use Rattle.spectro_io.proofs.Batches.{pending-more, puts-stopped}
use Rattle.spectro_notions.specs.Tables.{names_of}
use Rattle.spectro_report.specs.Texts.{verdict_lines}
use Rattle.spectro_report.specs.Verdicts.{Verdict, verdict_of}
use Rattle.spectro_report.proofs.PutLines.{two-pieces}
use Rattle.spectro_report.proofs.Sections.{beside-long, line_said, lines-more, lines-stopped, name-at, verdict-at}
use Rattle.spectro_report.proofs.writer.put_section.Goals as goal

-- the sink failed before the title was out
pub returns-in_err-put-clause-bytes : goal.returns-in_err-put-clause-bytes
returns-in_err-put-clause-bytes g c =
    let p = err_from_is_err_and c.from_residual.result c.from_residual.ensures.1 in
    rw p.1 (subst (AppendsPart _ _)
    (sym (two-pieces c.args.batch.now c.args.title.now (verdict_lines c.args.parts c.args.notions.now (map verdict_of c.args.verdicts.now))))
    (AppendsPart-front _ _ _ _ c.in_err-put.ensures.bytes))

-- the sink failed before the line was out
pub returns-in_err-put_verdict-clause-bytes : goal.returns-in_err-put_verdict-clause-bytes
returns-in_err-put_verdict-clause-bytes g c =
    let p = err_from_is_err_and c.from_residual-in_err-put_verdict.result c.from_residual-in_err-put_verdict.ensures.1 in
    let verdicts : List Verdict = map verdict_of c.args.verdicts.now in
    let name = name-at c.args.notions.now c.loop-k.k c.name.result.now c.name.ensures in
    let verdict = verdict-at c.args.verdicts.now c.loop-k.k c.index-verdicts-k.result
    (omega (arith, c.requires, c.loop-k-test.true, c.count-k-end.ensures.value)) c.index-verdicts-k.is in
    rw p.1 (puts-stopped _ _ _ _ _ _ _ _
    (two-pieces c.args.batch.now c.args.title.now (verdict_lines c.args.parts c.args.notions.now verdicts)
    ∙ lines-stopped (line_said c.args.parts) (c.args.batch.now ++ c.args.title.now) (names_of c.args.notions.now) verdicts c.loop-k.k c.name.result.now
    (verdict_of c.index-verdicts-k.result) name verdict)
    c.loop-k.invariant.bytes c.in_err-put_verdict.ensures.bytes)

-- one line more is out or held
pub loop-k-preserved : goal.loop-k-preserved
loop-k-preserved g c =
    let verdicts : List Verdict = map verdict_of c.args.verdicts.now in
    let name = name-at c.args.notions.now c.loop-k.k c.name.result.now c.name.ensures in
    let verdict = verdict-at c.args.verdicts.now c.loop-k.k c.index-verdicts-k.result
    (omega (arith, c.requires, c.loop-k-test.true, c.count-k-end.ensures.value)) c.index-verdicts-k.is in
    record {
      bytes = subst (IsPending _ _ _)
          (lines-more (line_said c.args.parts) (c.args.batch.now ++ c.args.title.now) (names_of c.args.notions.now) verdicts c.loop-k.k c.name.result.now
          (verdict_of c.index-verdicts-k.result) name verdict)
          (pending-more _ _ _ _ _ _ _ c.loop-k.invariant.bytes c.in_ok-put_verdict.ensures.bytes);
      faults = c.in_ok-put_verdict.ensures.cause.kept ∙ c.loop-k.invariant.faults;
    }

-- all lines are out or held
pub returns-clause-bytes : goal.returns-clause-bytes
returns-clause-bytes g c =
    let verdicts : List Verdict = map verdict_of c.args.verdicts.now in
    let long = beside-long c.args.notions.now verdicts (length-map c.args.verdicts.now verdict_of ∙ c.requires) in
    let all : take c.loop-k.k (zip (names_of c.args.notions.now) verdicts) ≡ zip (names_of c.args.notions.now) verdicts = take_all c.loop-k.k
    (zip (names_of c.args.notions.now) verdicts) (omega (arith, long, c.loop-k-test.false, c.count-k-end.ensures.value)) in
    subst (IsPending _ _ _) (sym (two-pieces c.args.batch.now c.args.title.now (verdict_lines c.args.parts c.args.notions.now verdicts)))
    (rw all at c.loop-k.invariant.bytes)
