use Rattle.std.proofs.Common.{◌≡◌, ◌∙◌, arith, length, replicate, false, subst, sym, ap}
use Rattle.std.proofs.lemmas.List.{take_all}
use Rattle.spectro_eval.specs.Rows.{bits_of}
use Rattle.spectro_eval.proofs.Bits.{bits_of-zeros, bits_of-get}
use Rattle.spectro_eval.proofs.Marking.{IsMarked, marked_none, marked_more, before_marked, are_states}
use Rattle.spectro_eval.proofs.row.write_observation.Goals as goal

pub loop-step-init : goal.loop-step-init
loop-step-init c =
    let states = c.args.lts.now.states in
    let table = bits_of states c.args.next.now in
    let clear : bits_of states c.fill.new.self ≡ replicate states false = ap (bits_of states) (c.fill.ensures.after (λ y e. e))
    ∙ bits_of-zeros states (length c.args.row.now) in
    subst (IsMarked _ table) (sym clear) (marked_none table states)

pub bit_of-requires : goal.bit_of-requires
bit_of-requires c =
    let step = are_states c.args.lts.now c.args.label.now c.under-step-items.result.now c.loop-step.step-index c.requires.whole c.under-step-items.ensures
    (omega arith) in
    omega (arith, step.to)

pub mark-requires : goal.mark-requires
mark-requires c =
    let step = are_states c.args.lts.now c.args.label.now c.under-step-items.result.now c.loop-step.step-index c.requires.whole c.under-step-items.ensures
    (omega arith) in
    omega (arith, step.from, c.loop-step.auto.row, c.fill.ensures.len)

pub loop-step-preserved : goal.loop-step-preserved
loop-step-preserved c =
    let states = c.args.lts.now.states in
    let ends = c.under-step-items.result.now in
    let table = bits_of states c.args.next.now in
    let step = are_states c.args.lts.now c.args.label.now ends c.loop-step.step-index c.requires.whole c.under-step-items.ensures (omega arith) in
    let read = bits_of-get states c.args.next.now _ step.to in
    let old = c.loop-step.invariant in
    rw (c.mark.ensures states)
    (marked_more ends c.loop-step.step-index table (bits_of states c.loop-step.row) c.bit_of.result (omega arith) old (read ∙ sym c.bit_of.ensures))

pub returns : goal.returns
returns c =
    let states = c.args.lts.now.states in
    let ends = c.under-step-items.result.now in
    let all = take_all c.loop-step.step-index ends (omega arith) in
    let marked = subst (λ ends. IsMarked ends (bits_of states c.args.next.now) (bits_of states c.loop-step.row)) all c.loop-step.invariant in
    before_marked c.args.lts.now.steps c.args.label.now ends (bits_of states c.args.next.now) (bits_of states c.loop-step.row) c.under-step-items.ensures marked
