use Rattle.std.proofs.Common.{arith, ◌++◌, ◌∙◌, ap, map}
use Rattle.std.proofs.lemmas.List.{take_all}
use Rattle.spectro_game.specs.MinimalElements.{minimal_elements}
use Rattle.spectro_game.specs.Sup.{sup}
use Rattle.spectro_energy.specs.Energy.{price_of}
use Rattle.spectro_antichain.proofs.Growth.{minimal_elements-more}
use Rattle.spectro_lanes.proofs.antichain.insert_sups.Goals as goal

pub loop-k-preserved : goal.loop-k-preserved
loop-k-preserved c es was =
    minimal_elements-more c.minimal_elements_grow.ensures (sup (price_of c.args.e.parts)) es c.args.others.now c.loop-k.made c.insert.new.self c.loop-k.k
    (price_of c.sup.result.parts) (price_of c.item.result.parts) (omega (arith, c.loop-k-test.true, c.len-k-end.ensures))
    (c.loop-k.invariant es was) c.in_ok-insert.ensures.list c.sup.ensures c.item.ensures

pub returns : goal.returns
returns c es was =
    c.loop-k.invariant es was
    ∙ ap (λ fs. minimal_elements (es ++ map (sup (price_of c.args.e.parts)) fs))
    (take_all c.loop-k.k c.args.others.now (omega (arith, c.loop-k-test.false, c.len-k-end.ensures)))
