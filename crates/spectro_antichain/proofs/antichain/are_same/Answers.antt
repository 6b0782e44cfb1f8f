use Rattle.std.proofs.Common.{[], sym, ◌∙◌, arith}
use Rattle.spectro_antichain.proofs.Prices.{same_by, apart_by, same_more, same_at}
use Rattle.spectro_antichain.proofs.antichain.are_same.Goals as goal

pub loop-k-preserved : goal.loop-k-preserved
loop-k-preserved c =
    same_more c.args.left.now c.args.right.now c.loop-k.k (record { parts = [] }) (omega arith) c.loop-k-test.true c.loop-k.invariant
    (same_by c.lex.result _ _ c.lex.ensures (sym c.ne.ensures ∙ c.if-ne.false))

pub returns-then-ne : goal.returns-then-ne
returns-then-ne c = (
  (λ h. cc),
  (λ same. absurd (apart_by c.lex.result _ _ c.lex.ensures (sym c.ne.ensures ∙ c.if-ne.true)
      (same_at c.args.left.now c.args.right.now c.loop-k.k (record { parts = [] }) (omega arith) c.loop-k-test.true same))),
)
