use Rattle.std.proofs.Common.{◌≡◌, ◌∙◌, get_or, bit_and, sym, ap, arith}
use Rattle.spectro_eval.proofs.Meets.{signed, has_met_more, meets}
use Rattle.spectro_eval.proofs.row.narrow.Goals.{then-positive, else-positive}
use Rattle.spectro_eval.proofs.row.narrow.Goals as goal

pub loop-k-preserved : goal.loop-k-preserved
loop-k-preserved c =
    let part = get_or c.args.part.now c.loop-k.k 0 in
    let sign : c.if-positive.row ≡ signed c.args.positive part = elim c.if-positive.branch [
      | then-positive w ↦ w.row-is ∙ ap (λ positive. signed positive part) (sym w.if-positive.true)
      | else-positive w ↦ w.row-is ∙ ap (λ positive. signed positive part) (sym w.if-positive.false)
    ] in
    let word = get_or c.loop-k.row c.loop-k.k 0 in
    has_met_more c.args.positive c.args.part.now c.args.row.now c.loop-k.k c.loop-k.row (bit_and word c.if-positive.row) c.loop-k.invariant (omega arith)
    (ap (bit_and word) sign)

pub returns : goal.returns
returns c = λ state within. meets c.args.positive c.args.part.now c.args.row.now c.loop-k.row c.loop-k.k c.loop-k.invariant (omega arith)
    (λ j. c.type_inv.part j) state within
