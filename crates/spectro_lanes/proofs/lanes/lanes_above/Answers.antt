use Rattle.std.proofs.Common.{◌≡◌, ◌↔◌, ◌+◌, ◌*◌, ◌≤◌, get_or, subst, add_assoc}
use Rattle.spectro_lanes.proofs.Vectors.{kept_more}
use Rattle.spectro_lanes.proofs.lanes.lanes_above.Goals as goal

pub loop-part-preserved : goal.loop-part-preserved
loop-part-preserved c i low =
    let lane = get_or c.kept_above-kept.result i 0 in
    let kept = get_or c.loop-part.kept i 0 in
    let bound = get_or c.args.e.now.parts c.loop-part.part 0 in
    kept_more (λ j. get_or c.args.e.now.parts j 0 ≤ get_or c.args.numbers.now (j * c.args.stride + (c.args.k + i)) 0) c.loop-part.part lane kept
    (subst (λ at. lane ≡ 1 ↔ (kept ≡ 1) × (bound ≤ get_or c.args.numbers.now at 0))
    (add_assoc (c.loop-part.part * c.args.stride) c.args.k i) (c.kept_above-kept.ensures i low))
    (c.loop-part.invariant i low)
