-- The stages stop as the chain says, and behind the last one the text and the price are those of the formula.
use Rattle.std.proofs.Common.{◌≤◌, ◌≡◌, ◌∙◌, length, ap, refl, sym, subst}
use Rattle.std.specs.Prelude.{None}
use Rattle.std.proofs.lemmas.Result.{err_from_is_err_and}
use Rattle.spectro_spec.specs.Pricing as spec
use Rattle.spectro_energy.specs.Energy.{price_of}
use Rattle.spectro_hmltext.specs.Printed.{formula_text}
use Rattle.spectro_hmltext.proofs.PrintedLengths.{printed_is_short}
use Rattle.spectro_words.specs.Words.{named}
use Rattle.spectro_run.specs.Commands.Price.{priced_text}
use Rattle.spectro_run.specs.Stages.{given}
use Rattle.spectro_run.specs.Stops.{no_memory}
use Rattle.spectro_words.specs.Commands.{price}
use Rattle.spectro_run.proofs.FilesHeld.{are-held, files_held, some-held}
use Rattle.spectro_run.proofs.Stopping.{stops-behind, stops-first}
use Rattle.spectro_run.proofs.commands.price.price.Goals as goal

pub returns-in_err-parsed-clause-prepared : goal.returns-in_err-parsed-clause-prepared
returns-in_err-parsed-clause-prepared g c =
    let p = err_from_is_err_and c.from_residual.result c.from_residual.ensures.1 in
    let told = g.H.Source.texts c.args.shelf.now in
    let weights = some-held told (named c.args.weights) in
    rw (p.1, p.2) (record {
      held = files_held None None weights.0 None;
      are = are-held told (price c.args.formula.now (named c.args.weights)) None None weights.0 None refl refl weights.1 refl;
      ends = stops-first _ _ _ (λ failed. absurd failed) c.in_err-parsed.ensures.stopped;
    })

pub returns-in_err-weights-clause-prepared : goal.returns-in_err-weights-clause-prepared
returns-in_err-weights-clause-prepared g c =
    let p = err_from_is_err_and c.from_residual-in_err-weights.result c.from_residual-in_err-weights.ensures.1 in
    let weights = c.in_err-weights.ensures.stage in
    rw (p.1, p.2) (record {
      held = files_held None None weights.held None;
      are = are-held (g.H.Source.texts c.args.shelf.now) (price c.args.formula.now (named c.args.weights)) None None weights.held None refl refl weights.is refl;
      ends = stops-behind _ _ c.in_ok-parsed.ensures.ok.formula _ c.in_ok-parsed.ensures.ok.is_text (λ failed. failed)
          (stops-first _ _ _ (λ failed. failed) weights.ends);
    })

pub returns-in_err-price-clause-prepared : goal.returns-in_err-price-clause-prepared
returns-in_err-price-clause-prepared g c =
    let p = err_from_is_err_and c.from_residual-in_err-price.result c.from_residual-in_err-price.ensures.1 in
    let weights = c.in_ok-weights.ensures.stage in
    rw p.1 (record {
      held = files_held None None weights.held None;
      are = are-held (g.H.Source.texts c.args.shelf.now) (price c.args.formula.now (named c.args.weights)) None None weights.held None refl refl weights.is refl;
      ends = no_memory p.2;
    })

pub returns-in_err-text-clause-prepared : goal.returns-in_err-text-clause-prepared
returns-in_err-text-clause-prepared g c =
    let p = err_from_is_err_and c.from_residual-in_err-text.result c.from_residual-in_err-text.ensures.1 in
    let weights = c.in_ok-weights.ensures.stage in
    rw p.1 (record {
      held = files_held None None weights.held None;
      are = are-held (g.H.Source.texts c.args.shelf.now) (price c.args.formula.now (named c.args.weights)) None None weights.held None refl refl weights.is refl;
      ends = no_memory p.2;
    })

-- the formula is that of a text
pub printed-requires-clause-short : goal.printed-requires-clause-short
printed-requires-clause-short g c =
    let parsed = c.in_ok-parsed.ensures.ok in
    subst (λ formula. length (formula_text formula) ≤ 131072) (sym parsed.unfolds) (printed_is_short _ parsed.formula parsed.is_text)

pub returns-clause-prepared : goal.returns-clause-prepared
returns-clause-prepared g c =
    let parsed = c.in_ok-parsed.ensures.ok in
    let weights = c.in_ok-weights.ensures.stage in
    let text : c.in_ok-text.text ≡ formula_text parsed.formula = c.in_ok-text.ensures ∙ ap formula_text parsed.unfolds in
    let costs : price_of c.in_ok-price.price.parts ≡ spec.price c.in_ok-weights.weights parsed.formula = c.in_ok-price.ensures
    ∙ ap (spec.price c.in_ok-weights.weights) parsed.unfolds in
    record {
      held = files_held None None weights.held None;
      are = are-held (g.H.Source.texts c.args.shelf.now) (price c.args.formula.now (named c.args.weights)) None None weights.held None refl refl weights.is refl;
      ends = given parsed.formula parsed.is_text
          (given c.in_ok-weights.weights weights.ends (refl, λ i. priced_text (text i) (c.parts_shown-parts.ensures i) (costs i)));
    }
