-- The stages stop as the chain says, and behind the last one the text is that of the report.
use Rattle.std.proofs.Common.{◌∙◌, refl, sym, subst, arith}
use Rattle.std.specs.Prelude.{None, Some}
use Rattle.std.proofs.lemmas.Result.{err_from_is_err_and, IfErr-weaker}
use Rattle.spectro_run.specs.Reading.{JudgesWhole}
use Rattle.spectro_run.specs.Stages.{given}
use Rattle.spectro_words.specs.Commands.{compare}
use Rattle.spectro_words.specs.Words.{named}
use Rattle.spectro_run.proofs.FilesHeld.{are-held, files_held, some-held}
use Rattle.spectro_run.specs.declared.status.Which.TheVariants.{Notions, Weights}
use Rattle.spectro_run.proofs.Stopping.{counts-same, counts-stop, ends-as, judges-whole, rose-wider, stops-behind, stops-first, stops-whole}
use Rattle.spectro_run.proofs.commands.compare.compare.Goals as goal

pub returns-in_err-left-clause-prepared : goal.returns-in_err-left-clause-prepared
returns-in_err-left-clause-prepared g c =
    let p = err_from_is_err_and c.from_residual.result c.from_residual.ensures.1 in
    let told = g.H.Source.texts c.args.shelf.now in
    let asked = compare c.args.left.now c.args.right.now (named c.args.weights) (named c.args.notions) c.args.limit in
    let first = c.in_err-left.ensures.stage in
    let second = some-held told (Some c.args.right.now) in
    let third = some-held told (named c.args.weights) in
    let fourth = some-held told (named c.args.notions) in
    rw (p.1, p.2) (record {
      held = files_held first.held second.0 third.0 fourth.0;
      are = are-held told asked first.held second.0 third.0 fourth.0 first.is second.1 third.1 fourth.1;
      ends = stops-first _ _ _ (λ failed. failed) first.ends;
    })

pub returns-in_err-right-clause-prepared : goal.returns-in_err-right-clause-prepared
returns-in_err-right-clause-prepared g c =
    let p = err_from_is_err_and c.from_residual-in_err-right.result c.from_residual-in_err-right.ensures.1 in
    let told = g.H.Source.texts c.args.shelf.now in
    let asked = compare c.args.left.now c.args.right.now (named c.args.weights) (named c.args.notions) c.args.limit in
    let first = c.in_ok-left.ensures.stage in
    let second = rw c.in_ok-left.ensures.texts at c.in_err-right.ensures.stage in
    let third = some-held told (named c.args.weights) in
    let fourth = some-held told (named c.args.notions) in
    rw (p.1, p.2) (record {
      held = files_held first.held second.held third.0 fourth.0;
      are = are-held told asked first.held second.held third.0 fourth.0 first.is second.is third.1 fourth.1;
      ends = stops-behind _ _ c.in_ok-left.left _ first.ends (rose-wider _ _ _ _ c.in_ok-left.ensures.counts.later (omega arith))
          (stops-first _ _ _ (λ failed. failed) second.ends);
    })

pub returns-in_err-weights-clause-prepared : goal.returns-in_err-weights-clause-prepared
returns-in_err-weights-clause-prepared g c =
    let p = err_from_is_err_and c.from_residual-in_err-weights.result c.from_residual-in_err-weights.ensures.1 in
    let told = g.H.Source.texts c.args.shelf.now in
    let asked = compare c.args.left.now c.args.right.now (named c.args.weights) (named c.args.notions) c.args.limit in
    let first = c.in_ok-left.ensures.stage in
    let second = rw c.in_ok-left.ensures.texts at c.in_ok-right.ensures.stage in
    let third = rw (c.in_ok-right.ensures.texts, c.in_ok-left.ensures.texts) at c.in_err-weights.ensures.stage in
    let fourth = some-held told (named c.args.notions) in
    let later = rose-wider _ _ _ _ (omega (arith, c.in_ok-left.ensures.counts.later, c.in_ok-right.ensures.counts.later)) (omega arith) in
    rw (p.1, p.2) (record {
      held = files_held first.held second.held third.held fourth.0;
      are = are-held told asked first.held second.held third.held fourth.0 first.is second.is third.is fourth.1;
      ends = stops-behind _ _ c.in_ok-left.left _ first.ends later
          (stops-behind _ _ c.in_ok-right.right _ second.ends (λ failed. failed) (stops-first _ _ _ (λ failed. failed) third.ends));
    })

pub returns-in_err-notions-clause-prepared : goal.returns-in_err-notions-clause-prepared
returns-in_err-notions-clause-prepared g c =
    let p = err_from_is_err_and c.from_residual-in_err-notions.result c.from_residual-in_err-notions.ensures.1 in
    let told = g.H.Source.texts c.args.shelf.now in
    let asked = compare c.args.left.now c.args.right.now (named c.args.weights) (named c.args.notions) c.args.limit in
    let first = c.in_ok-left.ensures.stage in
    let second = rw c.in_ok-left.ensures.texts at c.in_ok-right.ensures.stage in
    let third = rw (c.in_ok-right.ensures.texts, c.in_ok-left.ensures.texts) at c.in_ok-weights.ensures.stage in
    let fourth = rw (c.in_ok-weights.ensures.texts, c.in_ok-right.ensures.texts, c.in_ok-left.ensures.texts) at c.in_err-notions.ensures.stage in
    let later = rose-wider _ _ _ _
    (omega (arith, c.in_ok-left.ensures.counts.later, c.in_ok-right.ensures.counts.later, c.in_ok-weights.ensures.counts.later)) (omega arith) in
    rw (p.1, p.2) (record {
      held = files_held first.held second.held third.held fourth.held;
      are = are-held told asked first.held second.held third.held fourth.held first.is second.is third.is fourth.is;
      ends = stops-behind _ _ c.in_ok-left.left _ first.ends later
          (stops-behind _ _ c.in_ok-right.right _ second.ends (λ failed. failed)
          (stops-behind _ _ c.in_ok-weights.weights _ third.ends (λ failed. failed) (stops-first _ _ _ (λ failed. failed) fourth.ends)));
    })

pub returns-clause-prepared : goal.returns-clause-prepared
returns-clause-prepared g c =
    let told = g.H.Source.texts c.args.shelf.now in
    let asked = compare c.args.left.now c.args.right.now (named c.args.weights) (named c.args.notions) c.args.limit in
    let first = c.in_ok-left.ensures.stage in
    let second = rw c.in_ok-left.ensures.texts at c.in_ok-right.ensures.stage in
    let third = rw (c.in_ok-right.ensures.texts, c.in_ok-left.ensures.texts) at c.in_ok-weights.ensures.stage in
    let fourth = rw (c.in_ok-weights.ensures.texts, c.in_ok-right.ensures.texts, c.in_ok-left.ensures.texts) at c.in_ok-notions.ensures.stage in
    let shown = c.parts_shown-parts.ensures in
    record {
      held = files_held first.held second.held third.held fourth.held;
      are = are-held told asked first.held second.held third.held fourth.held first.is second.is third.is fourth.is;
      ends =
          ends-as c.report_on.result c.report_on.ensures.text c.report_on.ensures.stopped
          (λ text is. given c.in_ok-left.left first.ends
          (given c.in_ok-right.right second.ends
          (given c.in_ok-weights.weights third.ends
          (given c.in_ok-notions.notions fourth.ends (given is.report is.is (refl, rw shown at is.written))))))
          (λ status stopped. stops-behind _ _ c.in_ok-left.left status first.ends (λ failed. failed)
          (stops-behind _ _ c.in_ok-right.right status second.ends (λ failed. failed)
          (stops-behind _ _ c.in_ok-weights.weights status third.ends (λ failed. failed)
          (stops-behind _ _ c.in_ok-notions.notions status fourth.ends (λ failed. failed)
          (stops-first _ _ status (λ failed. absurd failed) stopped)))));
    }

pub returns-in_err-weights-clause-whole : goal.returns-in_err-weights-clause-whole
returns-in_err-weights-clause-whole g c =
    let p = err_from_is_err_and c.from_residual-in_err-weights.result c.from_residual-in_err-weights.ensures.1 in
    let asked = compare c.args.left.now c.args.right.now (named c.args.weights) (named c.args.notions) c.args.limit in
    rw (p.1, p.2) (judges-whole (g.H.Source.texts c.args.shelf.now) asked (named c.args.weights) Weights (g.H.Source.left c.take_weights.new.shelf) _ refl
    (rw (c.in_ok-right.ensures.texts, c.in_ok-left.ensures.texts) at c.in_err-weights.ensures.whole))

pub returns-in_err-notions-clause-whole : goal.returns-in_err-notions-clause-whole
returns-in_err-notions-clause-whole g c =
    let p = err_from_is_err_and c.from_residual-in_err-notions.result c.from_residual-in_err-notions.ensures.1 in
    let asked = compare c.args.left.now c.args.right.now (named c.args.weights) (named c.args.notions) c.args.limit in
    rw (p.1, p.2) (judges-whole (g.H.Source.texts c.args.shelf.now) asked (named c.args.notions) Notions (g.H.Source.left c.take_notions.new.shelf) _ refl
    (rw (c.in_ok-weights.ensures.texts, c.in_ok-right.ensures.texts, c.in_ok-left.ensures.texts) at c.in_err-notions.ensures.whole))

pub returns-clause-whole : goal.returns-clause-whole
returns-clause-whole g c =
    let told = g.H.Source.texts c.args.shelf.now in
    let asked = compare c.args.left.now c.args.right.now (named c.args.weights) (named c.args.notions) c.args.limit in
    let left = g.H.Source.left c.take_notions.new.shelf in
    IfErr-weaker c.report_on.result _ (JudgesWhole told (Some asked) left)
    (λ status. stops-whole told asked left status (λ refusal. subst (JudgesWhole told (Some asked) left) (sym refusal.0) tt)) c.report_on.ensures.stopped

pub returns-in_err-weights-clause-counts : goal.returns-in_err-weights-clause-counts
returns-in_err-weights-clause-counts g c =
    let p = err_from_is_err_and c.from_residual-in_err-weights.result c.from_residual-in_err-weights.ensures.1 in
    rw (p.1, p.2) (counts-stop _ _ _ _ (c.in_ok-right.ensures.counts.kept ∙ c.in_ok-left.ensures.counts.kept) c.in_err-weights.ensures.counts)

pub returns-in_err-notions-clause-counts : goal.returns-in_err-notions-clause-counts
returns-in_err-notions-clause-counts g c =
    let p = err_from_is_err_and c.from_residual-in_err-notions.result c.from_residual-in_err-notions.ensures.1 in
    rw (p.1, p.2) (counts-stop _ _ _ _
    (c.in_ok-weights.ensures.counts.kept ∙ c.in_ok-right.ensures.counts.kept ∙ c.in_ok-left.ensures.counts.kept) c.in_err-notions.ensures.counts)

pub returns-clause-counts : goal.returns-clause-counts
returns-clause-counts g c = counts-same _ _ c.report_on.result
    (c.in_ok-notions.ensures.counts.kept ∙ c.in_ok-weights.ensures.counts.kept ∙ c.in_ok-right.ensures.counts.kept ∙ c.in_ok-left.ensures.counts.kept)
