use Rattle.std.proofs.Common.{◌≢◌, ◌∷◌, ◌++◌, [], sym, ap, ◌∙◌, subst, arith}
use Rattle.std.proofs.lemmas.Bool.{true≢false}
use Rattle.std.proofs.lemmas.List.{append-nil}
use Rattle.spectro_spec.specs.Price.{IsAtMost}
use Rattle.spectro_energy.specs.Energy.{price_of}
use Rattle.spectro_lanes.specs.Columns.{price_at, prices_in}
use Rattle.spectro_lanes.proofs.Lists.{firsts-same, firsts-more, not_above-kept, not_above-dropped}
use Rattle.spectro_lanes.proofs.edits.keep.Goals as goal

pub returns-then-leq-clause-list : goal.returns-then-leq-clause-list
returns-then-leq-clause-list c =
    let e = price_of c.args.e.now.parts in
    let kept = prices_in c.args.stride c.args.numbers.now c.args.kept in
    let above = subst (λ f. IsAtMost e f) c.energy_at-member.ensures (c.leq.ensures.0 c.if-leq.true) in
    sym (ap (λ ps. kept ++ ps) (not_above-dropped e (price_at c.args.stride c.args.numbers.now c.args.k) above) ∙ append-nil kept)

pub returns-clause-list : goal.returns-clause-list
returns-clause-list c =
    let e = price_of c.args.e.now.parts in
    let old = price_at c.args.stride c.args.numbers.now in
    let new = price_at c.args.stride c.put_energy.new.numbers in
    let kept = prices_in c.args.stride c.args.numbers.now c.args.kept in
    let apart = λ (above : IsAtMost e (old c.args.k)).
    true≢false (sym (c.leq.ensures.1 (subst (λ f. IsAtMost e f) (sym c.energy_at-member.ensures) above)) ∙ c.if-leq.false) in
    firsts-more new c.args.kept
    ∙ ap (λ ps. ps ++ new c.args.kept ∷ [])
    (firsts-same new old c.args.kept (λ i low. let other : i ≢ c.args.kept = omega arith in c.put_energy.ensures.others i (omega arith) other))
    ∙ ap (λ p. kept ++ p ∷ []) (c.put_energy.ensures.here ∙ c.energy_at-member.ensures)
    ∙ ap (λ ps. kept ++ ps) (sym (not_above-kept e (old c.args.k) apart))

pub returns-clause-later : goal.returns-clause-later
returns-clause-later c i after low = let apart : i ≢ c.args.kept = omega arith in c.put_energy.ensures.others i low apart
