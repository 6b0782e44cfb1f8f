-- The clauses come member by member.
use Rattle.std.proofs.Common.{◌∙◌, ◌++◌, take, get_or, sym, ap, arith, append_assoc, None}
use Rattle.std.proofs.lemmas.List.{append-nil}
use Rattle.spectro_build.specs.Splits.{clause_outside, clauses_outside, left_clauses}
use Rattle.spectro_build.proofs.MaskSplits.{clauses_outside-none, outside-next}
use Rattle.spectro_build.proofs.splitting.list_clauses.Goals as goal

pub loop-i-init : goal.loop-i-init
loop-i-init c =
    let left = left_clauses c.args.split.left in
    c.in_ok-add_left.ensures ∙ ap (λ l. l ++ left) c.clear.ensures.items
    ∙ sym (ap (λ l. left ++ l) (clauses_outside-none c.args.split.mask) ∙ append-nil left)

pub loop-i-preserved : goal.loop-i-preserved
loop-i-preserved c =
    let left = left_clauses c.args.split.left in
    let mask = c.args.split.mask in
    let others = c.args.others.now in
    let i = c.loop-i.i in
    let other = get_or others i None in
    c.in_ok-add_outside.ensures ∙ ap (λ l. l ++ clause_outside mask i other) c.loop-i.invariant
    ∙ append_assoc left (clauses_outside mask (take i others)) (clause_outside mask i other)
    ∙ ap (λ l. left ++ l) (sym (outside-next mask others i None (omega (arith, c.loop-i-test.true))))
