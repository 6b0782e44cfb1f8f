use Rattle.std.proofs.Common.{◌≡◌, subst}
use Rattle.std.specs.Prelude.{IfOk}
use Rattle.spectro_spec.specs.System.{System}
use Rattle.spectro_lts.proofs.Joining.{joined}
use Rattle.spectro_lts.proofs.lts.Lts.join.Goals as goal

pub returns : goal.returns
returns c = subst (λ (system : System). IfOk c.finish.result (λ lts. lts ≡ system))
    (joined c.args.left.now c.args.right.now c.in_ok-draft.draft c.add_shifted.new.draft c.add_shifted-2.new.draft c.states-shift.result c.states.result
    c.initial.result c.states-shift.ensures.value c.states.ensures.value c.initial.ensures.value
    c.in_ok-draft.ensures c.in_ok-add_shifted.ensures c.in_ok-add_shifted-2.ensures)
    c.finish.ensures
