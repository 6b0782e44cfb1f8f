use Rattle.std.proofs.Common.{◌≡◌, ◌∙◌, length, sym, ap, subst, arith}
use Rattle.std.proofs.lemmas.List.{take_all}
use Rattle.spectro_eval.specs.Rows.{words_of, rows_of}
use Rattle.spectro_eval.specs.Truths.{AreSheetTruths}
use Rattle.spectro_eval.proofs.Tables.{rows_more, table_truths}
use Rattle.spectro_eval.proofs.truth.Truth.of.Goals as goal

pub loop-node-preserved : goal.loop-node-preserved
loop-node-preserved c =
    let sized = ap words_of c.states-states.ensures.value in
    let wide : length c.write_row.new.row ≡ words_of c.args.lts.now.states = c.write_row.auto.row ∙ c.loop-node.auto.row ∙ c.as_mut_slice-row.ensures.len
    ∙ c.in_ok-words.ensures.len ∙ c.words_of.ensures ∙ sized in
    rw c.in_ok-extend_from_slice.ensures.items
    (rows_more c.args.lts.now c.args.sheet.now c.loop-node.node c.loop-node.rows.items c.write_row.new.row
    (omega arith) c.loop-node.invariant c.write_row.ensures wide)

pub returns : goal.returns
returns c =
    let all = take_all c.loop-node.node c.args.sheet.now (omega arith) in
    let told = table_truths c.args.lts.now c.args.sheet.now c.loop-node.rows.items c.states-states.ensures.whole (rw all at c.loop-node.invariant) in
    subst (λ states. AreSheetTruths c.args.lts.now c.args.sheet.now (rows_of states c.loop-node.rows.items)) (sym c.states-states.ensures.value) told
