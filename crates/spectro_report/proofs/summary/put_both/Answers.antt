-- As many verdicts pass as they are kept as do as they are seen.
use Rattle.std.proofs.Common.{◌∙◌, ap, map, sym, subst}
use Rattle.std.specs.Fmt.{decimal}
use Rattle.std.specs.Prelude.{not}
use Rattle.spectro_io.specs.Batches.{Puts}
use Rattle.spectro_report.specs.Texts.{is_equivalence}
use Rattle.spectro_report.specs.Verdicts.{verdict_of}
use Rattle.spectro_report.proofs.PutLines.{answers-pieces}
use Rattle.spectro_report.proofs.Tallies.{passing_as_seen}
use Rattle.spectro_report.proofs.summary.put_both.Goals as goal

pub returns-clause-bytes : goal.returns-clause-bytes
returns-clause-bytes g c =
    let equal = c.equal.ensures ∙ passing_as_seen is_equivalence verdict_of c.args.forth.now c.args.back.now in
    let unequal = c.unequal.ensures
    ∙ passing_as_seen (λ forth back. not (is_equivalence forth back)) verdict_of c.args.forth.now c.args.back.now in
    subst (Puts _ _ _ _) (sym (answers-pieces c.args.batch.now (map verdict_of c.args.forth.now) (map verdict_of c.args.back.now)))
    (rw (c.as_bytes.ensures ∙ c.of-equal.ensures ∙ ap decimal equal, c.as_bytes-2.ensures ∙ c.of-unequal.ensures ∙ ap decimal unequal)
    at c.put_all.ensures.bytes)
