-- The bytes are what was read of the text.
use Rattle.std.proofs.Common.{◌∙◌}
use Rattle.std.proofs.lemmas.Result.{err_from_is_err_and}
use Rattle.spectro_notions.specs.NotionTexts.{IsNotionText}
use Rattle.spectro_run.specs.Refusals.{RefusesTable}
use Rattle.spectro_run.specs.declared.status.Which.TheVariants.{Notions}
use Rattle.spectro_run.proofs.StagesOfTexts.{read-stage, unread-stage, tables-judged}
use Rattle.spectro_run.proofs.texts.take_notions.Goals as goal

pub returns-in_err-take_text-clause-stage : goal.returns-in_err-take_text-clause-stage
returns-in_err-take_text-clause-stage g c =
    let p = err_from_is_err_and c.from_residual.result c.from_residual.ensures.1 in
    rw (p.1, p.2, c.in-Some.is) (unread-stage _ c.in-Some.name.now IsNotionText RefusesTable _ _ _ c.in_err-take_text.ensures.cause)

pub returns-clause-stage : goal.returns-clause-stage
returns-clause-stage g c =
    let text = c.in_ok-take_text.ensures.text in
    let same = c.deref.ensures.value ∙ text.taken _ c.new-bytes.ensures.items in
    rw c.in-Some.is (read-stage _ c.in-Some.name.now IsNotionText RefusesTable _ _ Notions tables-judged text.bytes c.read_table.result text.read
    (rw same at c.read_table.ensures.ok) (rw same at c.read_table.ensures.refused))
