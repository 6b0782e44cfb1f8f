-- The stages stop as the chain says, and behind the last one the line is that of the pairs.
use Rattle.std.proofs.Common.{refl, sym, subst, arith}
use Rattle.std.specs.Prelude.{None, Some}
use Rattle.std.proofs.lemmas.Result.{err_from_is_err_and, IfErr-weaker}
use Rattle.spectro_run.specs.Commands.Size.{size_line}
use Rattle.spectro_run.specs.Reading.{JudgesWhole}
use Rattle.spectro_run.specs.Stages.{given}
use Rattle.spectro_words.specs.Commands.{size}
use Rattle.spectro_run.proofs.FilesHeld.{are-held, files_held, some-held}
use Rattle.spectro_run.proofs.Stopping.{ends-as, rose-wider, stops-behind, stops-first, stops-whole}
use Rattle.spectro_run.proofs.commands.size.size.Goals as goal

pub returns-in_err-left-clause-prepared : goal.returns-in_err-left-clause-prepared
returns-in_err-left-clause-prepared g c =
    let p = err_from_is_err_and c.from_residual.result c.from_residual.ensures.1 in
    let told = g.H.Source.texts c.args.shelf.now in
    let first = c.in_err-left.ensures.stage in
    let second = some-held told (Some c.args.right.now) in
    rw (p.1, p.2) (record {
      held = files_held first.held second.0 None None;
      are = are-held told (size c.args.left.now c.args.right.now c.args.limit) first.held second.0 None None first.is second.1 refl refl;
      ends = stops-first _ _ _ (λ failed. failed) first.ends;
    })

pub returns-in_err-right-clause-prepared : goal.returns-in_err-right-clause-prepared
returns-in_err-right-clause-prepared g c =
    let p = err_from_is_err_and c.from_residual-in_err-right.result c.from_residual-in_err-right.ensures.1 in
    let told = g.H.Source.texts c.args.shelf.now in
    let first = c.in_ok-left.ensures.stage in
    let second = rw c.in_ok-left.ensures.texts at c.in_err-right.ensures.stage in
    rw (p.1, p.2) (record {
      held = files_held first.held second.held None None;
      are = are-held told (size c.args.left.now c.args.right.now c.args.limit) first.held second.held None None first.is second.is refl refl;
      ends = stops-behind _ _ c.in_ok-left.left _ first.ends (rose-wider _ _ _ _ c.in_ok-left.ensures.counts.later (omega arith))
          (stops-first _ _ _ (λ failed. failed) second.ends);
    })

pub returns-clause-prepared : goal.returns-clause-prepared
returns-clause-prepared g c =
    let told = g.H.Source.texts c.args.shelf.now in
    let first = c.in_ok-left.ensures.stage in
    let second = rw c.in_ok-left.ensures.texts at c.in_ok-right.ensures.stage in
    record {
      held = files_held first.held second.held None None;
      are = are-held told (size c.args.left.now c.args.right.now c.args.limit) first.held second.held None None first.is second.is refl refl;
      ends =
          ends-as c.extent_of.result c.extent_of.ensures.ok c.extent_of.ensures.stopped
          (λ extent is. given c.in_ok-left.left first.ends
          (given c.in_ok-right.right second.ends (given is.pairs is.are (refl, λ i. size_line (is.counted i) (is.sized i)))))
          (λ status stopped. stops-behind _ _ c.in_ok-left.left status first.ends (λ failed. failed)
          (stops-behind _ _ c.in_ok-right.right status second.ends (λ failed. failed) (stops-first _ _ status (λ failed. absurd failed) stopped)));
    }

pub returns-clause-whole : goal.returns-clause-whole
returns-clause-whole g c =
    let told = g.H.Source.texts c.args.shelf.now in
    let asked = size c.args.left.now c.args.right.now c.args.limit in
    let left = g.H.Source.left c.take_system-2.new.shelf in
    IfErr-weaker c.extent_of.result _ (JudgesWhole told (Some asked) left)
    (λ status. stops-whole told asked left status (λ refusal. subst (JudgesWhole told (Some asked) left) (sym refusal.0) tt)) c.extent_of.ensures.stopped
