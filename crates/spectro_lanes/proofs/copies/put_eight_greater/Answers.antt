use Rattle.std.proofs.Common.{◌≡◌, ◌∙◌, arith, inl, inr, length}
use Rattle.std.proofs.lemmas.Simd.{get_or-put_chunk_at, get_or-put_chunk_below, get_or-put_chunk_above}
use Rattle.spectro_lanes.proofs.Vectors.{greater_lanes, length-greater_lanes, get_or-greater_lanes}
use Rattle.spectro_lanes.proofs.copies.put_eight_greater.Goals as goal

pub returns-clause-here : goal.returns-clause-here
returns-clause-here c i low =
    let lanes = greater_lanes c.args.from.now c.args.at c.args.bound in
    let long : length lanes ≡ 8 = length-greater_lanes c.args.from.now c.args.at c.args.bound c.requires.source in
    get_or-put_chunk_at c.args.place c.args.to.now lanes i 0 (omega arith) (omega arith)
    ∙ get_or-greater_lanes c.args.from.now c.args.at c.args.bound i c.requires.source low

pub returns-clause-others : goal.returns-clause-others
returns-clause-others c p aside =
    let lanes = greater_lanes c.args.from.now c.args.at c.args.bound in
    let long : length lanes ≡ 8 = length-greater_lanes c.args.from.now c.args.at c.args.bound c.requires.source in
    elim aside [
      | inl before ↦ get_or-put_chunk_below c.args.place c.args.to.now lanes p 0 before
      | inr after ↦ get_or-put_chunk_above c.args.place c.args.to.now lanes p 0 (omega arith)
    ]
