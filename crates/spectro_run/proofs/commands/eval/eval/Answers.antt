-- The stages stop as the chain says, and behind the last one the truth and the price are those of the formula.
use Rattle.std.proofs.Common.{◌≡◌, ◌∙◌, ap, arith, refl, sym, subst}
use Rattle.std.specs.Prelude.{IsTrue, ◌↔◌, None, Some, Ok}
use Rattle.std.proofs.lemmas.Result.{err_from_is_err_and}
use Rattle.spectro_spec.specs.Formula.{Satisfies}
use Rattle.spectro_spec.specs.Pricing.{price}
use Rattle.spectro_energy.specs.Energy.{price_of}
use Rattle.spectro_words.specs.Words.{named}
use Rattle.spectro_run.specs.Commands.Eval.{eval_text}
use Rattle.spectro_run.specs.Reading.{JudgesWhole}
use Rattle.spectro_run.specs.Stages.{given}
use Rattle.spectro_run.specs.Stops.{no_memory}
use Rattle.spectro_words.specs.Commands.{eval}
use Rattle.spectro_run.proofs.FilesHeld.{are-held, files_held, some-held}
use Rattle.spectro_run.proofs.Stopping.{counts-same, rose-wider, stops-behind, stops-first, leaves-none, stops-whole}
use Rattle.spectro_run.proofs.commands.eval.eval.Goals as goal

pub returns-in_err-lts-clause-prepared : goal.returns-in_err-lts-clause-prepared
returns-in_err-lts-clause-prepared g c =
    let p = err_from_is_err_and c.from_residual.result c.from_residual.ensures.1 in
    let told = g.H.Source.texts c.args.shelf.now in
    let file = c.in_err-lts.ensures.stage in
    let weights = some-held told (named c.args.weights) in
    rw (p.1, p.2) (record {
      held = files_held file.held None weights.0 None;
      are = are-held told (eval c.args.formula.now c.args.file.now (named c.args.weights)) file.held None weights.0 None file.is refl weights.1 refl;
      ends = stops-first _ _ _ (λ failed. failed) file.ends;
    })

pub returns-in_err-parsed-clause-prepared : goal.returns-in_err-parsed-clause-prepared
returns-in_err-parsed-clause-prepared g c =
    let p = err_from_is_err_and c.from_residual-in_err-parsed.result c.from_residual-in_err-parsed.ensures.1 in
    let told = g.H.Source.texts c.args.shelf.now in
    let file = c.in_ok-lts.ensures.stage in
    let weights = some-held told (named c.args.weights) in
    rw (p.1, p.2) (record {
      held = files_held file.held None weights.0 None;
      are = are-held told (eval c.args.formula.now c.args.file.now (named c.args.weights)) file.held None weights.0 None file.is refl weights.1 refl;
      ends = stops-behind _ _ c.in_ok-lts.lts _ file.ends (λ failed. failed) (stops-first _ _ _ (λ failed. absurd failed) c.in_err-parsed.ensures.stopped);
    })

pub returns-in_err-weights-clause-prepared : goal.returns-in_err-weights-clause-prepared
returns-in_err-weights-clause-prepared g c =
    let p = err_from_is_err_and c.from_residual-in_err-weights.result c.from_residual-in_err-weights.ensures.1 in
    let parsed = c.in_ok-parsed.ensures.ok in
    let file = c.in_ok-lts.ensures.stage in
    let weights = rw c.in_ok-lts.ensures.texts at c.in_err-weights.ensures.stage in
    let rises = rose-wider _ _ _ _ c.in_ok-lts.ensures.counts.later (omega arith) in
    rw (p.1, p.2) (record {
      held = files_held file.held None weights.held None;
      are = are-held (g.H.Source.texts c.args.shelf.now)
          (eval c.args.formula.now c.args.file.now (named c.args.weights)) file.held None weights.held None file.is refl weights.is refl;
      ends = stops-behind _ _ c.in_ok-lts.lts _ file.ends (λ failed. failed)
          (stops-behind _ _ parsed.formula _ parsed.is_text rises (stops-first _ _ _ (λ failed. failed) weights.ends));
    })

pub returns-in_err-evaluate-clause-prepared : goal.returns-in_err-evaluate-clause-prepared
returns-in_err-evaluate-clause-prepared g c =
    let p = err_from_is_err_and c.from_residual-in_err-evaluate.result c.from_residual-in_err-evaluate.ensures.1 in
    let file = c.in_ok-lts.ensures.stage in
    let weights = rw c.in_ok-lts.ensures.texts at c.in_ok-weights.ensures.stage in
    rw p.1 (record {
      held = files_held file.held None weights.held None;
      are = are-held (g.H.Source.texts c.args.shelf.now)
          (eval c.args.formula.now c.args.file.now (named c.args.weights)) file.held None weights.held None file.is refl weights.is refl;
      ends = no_memory p.2;
    })

pub returns-clause-prepared : goal.returns-clause-prepared
returns-clause-prepared g c =
    let parsed = c.in_ok-parsed.ensures.ok in
    let system = c.in_ok-lts.lts in
    let found = c.in_ok-evaluate.field-0 in
    let file = c.in_ok-lts.ensures.stage in
    let weights = rw c.in_ok-lts.ensures.texts at c.in_ok-weights.ensures.stage in
    let truth = subst (λ formula. IsTrue found.truth ↔ Satisfies system system.initial formula) parsed.unfolds c.in_ok-evaluate.ensures.truth in
    let costs : price_of found.price.parts ≡ price c.in_ok-weights.weights parsed.formula = c.in_ok-evaluate.ensures.price
    ∙ ap (price c.in_ok-weights.weights) parsed.unfolds in
    let shown = c.in_ok-evaluate.ensures.parts ∙ c.parts_shown-parts.ensures in
    record {
      held = files_held file.held None weights.held None;
      are = are-held (g.H.Source.texts c.args.shelf.now)
          (eval c.args.formula.now c.args.file.now (named c.args.weights)) file.held None weights.held None file.is refl weights.is refl;
      ends = given system file.ends
          (given parsed.formula parsed.is_text
          (given c.in_ok-weights.weights weights.ends (given found.truth truth (refl, λ i. eval_text found.truth (shown i) (costs i)))));
    }

pub returns-clause-counts : goal.returns-clause-counts
returns-clause-counts g c = counts-same _ _ (Ok c.in_ok-evaluate.field-0) (c.in_ok-weights.ensures.counts.kept ∙ c.in_ok-lts.ensures.counts.kept)

pub returns-in_err-parsed-clause-whole : goal.returns-in_err-parsed-clause-whole
returns-in_err-parsed-clause-whole g c =
    let p = err_from_is_err_and c.from_residual-in_err-parsed.result c.from_residual-in_err-parsed.ensures.1 in
    let told = g.H.Source.texts c.args.shelf.now in
    let asked = eval c.args.formula.now c.args.file.now (named c.args.weights) in
    let left = g.H.Source.left c.take_system.new.shelf in
    rw (p.1, p.2) (stops-whole told asked left _ (λ refusal. subst (JudgesWhole told (Some asked) left) (sym refusal.2) (leaves-none told left))
    c.in_err-parsed.ensures.stopped)
