use Rattle.std.proofs.Common.{◌∙◌, length, arith, ap}
use Rattle.spectro_eval.specs.Rows.{bit_of}
use Rattle.spectro_eval.proofs.Bits.{bit_of-ones}
use Rattle.spectro_eval.proofs.Meets.{meets_more}
use Rattle.spectro_eval.proofs.row.write_conjunction.Goals as goal

pub loop-clause-init : goal.loop-clause-init
loop-clause-init c = λ state within. (
  λ set k d below. absurd (omega arith),
  λ none. ap (λ row. bit_of row state) (c.fill.ensures.after (λ y e. e))
      ∙ bit_of-ones (length c.args.row.now) state within,
)

pub loop-clause-preserved : goal.loop-clause-preserved
loop-clause-preserved c = λ state within.
    let same = c.loop-clause.auto.row ∙ c.fill.ensures.len in
    let step = c.narrow.ensures state (omega arith) in
    meets_more c.args.rows.now c.row_at-part.result.now (length c.args.row.now)
    (length c.loop-clause.row) state c.args.clauses.now c.loop-clause.clause-index _ (bit_of c.loop-clause.row state)
    (bit_of c.narrow.new.row state) c.loop-clause-test.true same c.row_at-part.ensures.value (c.loop-clause.invariant state within) step
