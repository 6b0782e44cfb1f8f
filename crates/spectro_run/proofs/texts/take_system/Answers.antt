-- The feed took what was read of the text, and nothing before it.
use Rattle.std.proofs.Common.{[], inl}
use Rattle.std.proofs.lemmas.Result.{IfErr-weaker, IfOk-weaker, err_from_is_err_and}
use Rattle.spectro_aut.specs.Texts.{IsText}
use Rattle.spectro_aut.proofs.KeptLimits.{text_keeps_limits}
use Rattle.spectro_run.specs.Refusals.{RefusesSystem}
use Rattle.spectro_run.proofs.StagesOfTexts.{read-stage, read-whole, systems-judged, unread-stage}
use Rattle.spectro_run.proofs.texts.take_system.Goals as goal

pub returns-in_err-feed-clause-stage : goal.returns-in_err-feed-clause-stage
returns-in_err-feed-clause-stage g c =
    let p = err_from_is_err_and c.from_residual.result c.from_residual.ensures.1 in
    rw p.1 (unread-stage _ c.args.name.now IsText (RefusesSystem c.args.which) _ _ _ (inl p.2))

pub returns-in_err-take_text-clause-stage : goal.returns-in_err-take_text-clause-stage
returns-in_err-take_text-clause-stage g c =
    let p = err_from_is_err_and c.from_residual-in_err-take_text.result c.from_residual-in_err-take_text.ensures.1 in
    rw (p.1, p.2) (unread-stage _ c.args.name.now IsText (RefusesSystem c.args.which) _ _ _ c.in_err-take_text.ensures.cause)

pub returns-clause-stage : goal.returns-clause-stage
returns-clause-stage g c =
    let text = c.in_ok-take_text.ensures.text in
    let taken = text.taken [] c.in_ok-feed.ensures in
    read-stage _ c.args.name.now IsText (RefusesSystem c.args.which) _ _ c.args.which (systems-judged c.args.which) text.bytes c.read_system.result text.read
    (IfOk-weaker c.read_system.result _ _ (λ lts is. is text.bytes taken) c.read_system.ensures.ok)
    (IfErr-weaker c.read_system.result _ _ (λ status is. is text.bytes taken) c.read_system.ensures.refused)

pub returns-clause-whole : goal.returns-clause-whole
returns-clause-whole g c =
    let text = c.in_ok-take_text.ensures.text in
    let taken = text.taken [] c.in_ok-feed.ensures in
    read-whole IsText (RefusesSystem c.args.which) c.args.which (systems-judged c.args.which) (g.H.Source.texts c.args.shelf.now) c.args.name.now text.bytes
    (g.H.Source.left c.take_text.new.shelf) c.read_system.result c.in_ok-take_text.ensures.rest
    (IfErr-weaker c.read_system.result _ _ (λ status is. is text.bytes taken) c.read_system.ensures.refused)

pub returns-clause-limits : goal.returns-clause-limits
returns-clause-limits g c =
    let text = c.in_ok-take_text.ensures.text in
    let taken = text.taken [] c.in_ok-feed.ensures in
    IfOk-weaker c.read_system.result _ _ (λ lts is. text_keeps_limits text.bytes lts (is text.bytes taken)) c.read_system.ensures.ok
