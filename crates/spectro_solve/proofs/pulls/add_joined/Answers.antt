use Rattle.std.proofs.Common.{arith, ◌+◌, subst, take}
use Rattle.std.proofs.lemmas.List.{take_all}
use Rattle.spectro_energy.specs.Energy.{price_of}
use Rattle.spectro_solve.specs.Added.{IsAdded, IsJoinedBy, IsJoinedWith}
use Rattle.spectro_solve.proofs.Adding.{added-then, joined-more, low-item}
use Rattle.spectro_solve.proofs.pulls.add_joined.Goals as goal

pub add_joined_with-requires-clause-chosen : goal.add_joined_with-requires-clause-chosen
add_joined_with-requires-clause-chosen c = low-item c.args.chosen.now c.loop-k.k (price_of c.item.result.parts) c.requires.chosen
    (omega (arith, c.loop-k-test.true, c.len-k-end.ensures)) c.item.ensures

pub loop-k-preserved : goal.loop-k-preserved
loop-k-preserved c = added-then (IsJoinedBy (take c.loop-k.k c.args.chosen.now) c.args.from.now) (IsJoinedWith (price_of c.item.result.parts) c.args.from.now)
    (IsJoinedBy (take (c.loop-k.k + 1) c.args.chosen.now) c.args.from.now) c.args.made.now c.loop-k.made c.add_joined_with.new.made
    c.loop-k.invariant c.in_ok-add_joined_with.ensures
    (joined-more c.args.chosen.now c.args.from.now c.loop-k.k (price_of c.item.result.parts)
    (omega (arith, c.loop-k-test.true, c.len-k-end.ensures)) c.item.ensures)

pub returns : goal.returns
returns c = subst (λ es. IsAdded (IsJoinedBy es c.args.from.now) c.args.made.now c.loop-k.made)
    (take_all c.loop-k.k c.args.chosen.now (omega (arith, c.loop-k-test.false, c.len-k-end.ensures))) c.loop-k.invariant
