-- Nothing is kept at first.
use Rattle.spectro_pairs.specs.Interned.{interned, lists_of, pairs_of}
use Rattle.spectro_pairs.proofs.KeptPairs.{interned-nil}
use Rattle.spectro_pairs.proofs.pairs.Pairs.new.Goals as goal

pub invariant_of-result : goal.invariant_of-result
invariant_of-result c =
    interned-nil c.args.states c.args.limit c.new-3.result c.new-4.result c.new.result.keys c.new-2.result.keys c.new.ensures.empty
    c.new-2.ensures.empty c.requires c.new-3.ensures.width c.new-3.ensures.nothing c.new-4.ensures.width c.new-4.ensures.nothing

pub returns : goal.returns
unfolding lists_of pairs_of
returns c =
    let sets = c.new.ensures.empty in
    let keys = c.new-2.ensures.empty in
    λ i. interned c.args.states c.args.limit (sets i) (keys i)
