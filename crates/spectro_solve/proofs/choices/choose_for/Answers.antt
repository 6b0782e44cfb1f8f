use Rattle.std.proofs.Common.{◌-◌, ◌*◌, ◌%◌, ◌^◌, ◌∙◌, [], ap, w64, length, subst, sym}
use Rattle.std.specs.Int.{trailing_zeros}
use Rattle.spectro_spec.proofs.Members.{Contains-none}
use Rattle.spectro_game.specs.MinimalElements.{inserted}
use Rattle.spectro_game.specs.Sup.{zero_price}
use Rattle.spectro_solve.specs.Added.{AreChosen, CanBeConjoined, IsCoveredByBoth}
use Rattle.spectro_solve.specs.Choices.{IsChosenFor}
use Rattle.spectro_solve.proofs.Choosing.{chosen-empty, chosen-next}
use Rattle.spectro_solve.proofs.Listing.{row-is}
use Rattle.spectro_solve.proofs.Results.{on_ok_both}
use Rattle.spectro_solve.proofs.MaskBits.{lowest-bit}
use Rattle.spectro_solve.proofs.choices.choose_for.Goals as goal

pub returns-then-mask-eq0 : goal.returns-then-mask-eq0
returns-then-mask-eq0 c = subst (λ n. IsChosenFor c.args.clauses.now c.args.made.now n c.insert.new.self) (sym c.if-mask-eq0.true)
    (chosen-empty c.args.clauses.now c.args.made.now c.insert.new.self (c.in_ok-insert.ensures.list ∙ ap (inserted zero_price) c.clear.ensures))

pub overflow_sub-mask : goal.overflow_sub-mask
overflow_sub-mask c = (lowest-bit (length c.args.smaller.now) (length c.args.clauses.now) c.if-mask-eq0.false c.requires.mask c.requires.few).less

pub bounds-clauses-i : goal.bounds-clauses-i
bounds-clauses-i c = (lowest-bit (length c.args.smaller.now) (length c.args.clauses.now) c.if-mask-eq0.false c.requires.mask c.requires.few).within

pub choose_both-requires-clause-left : goal.choose_both-requires-clause-left
choose_both-requires-clause-left c =
    let lowest = lowest-bit (length c.args.smaller.now) (length c.args.clauses.now) c.if-mask-eq0.false c.requires.mask c.requires.few in
    subst CanBeConjoined (row-is c.args.smaller.now
    (length c.args.smaller.now - (1 * 2 ^ trailing_zeros w64 (length c.args.smaller.now)) % 18446744073709551616)
    c.index-smaller-mask.result lowest.smaller c.index-smaller-mask.is) (c.requires.smaller _ lowest.smaller).low

pub choose_both-requires-clause-right : goal.choose_both-requires-clause-right
choose_both-requires-clause-right c =
    let lowest = lowest-bit (length c.args.smaller.now) (length c.args.clauses.now) c.if-mask-eq0.false c.requires.mask c.requires.few in
    subst CanBeConjoined (row-is c.args.clauses.now (trailing_zeros w64 (length c.args.smaller.now)) c.index-clauses-i.result lowest.within
    c.index-clauses-i.is) (c.requires.low _ lowest.within)

pub returns : goal.returns
returns c = on_ok_both c.choose_both.result (λ chosen low.
    let lowest = lowest-bit (length c.args.smaller.now) (length c.args.clauses.now) c.if-mask-eq0.false c.requires.mask c.requires.few in
    chosen-next c.args.clauses.now c.args.made.now c.index-smaller-mask.result c.choose_both.new.chosen (length c.args.smaller.now)
    (length c.args.smaller.now - (1 * 2 ^ trailing_zeros w64 (length c.args.smaller.now)) % 18446744073709551616)
    (trailing_zeros w64 (length c.args.smaller.now))
    lowest.set lowest.without
    (subst (IsChosenFor c.args.clauses.now c.args.made.now _) (row-is c.args.smaller.now _ c.index-smaller-mask.result lowest.smaller c.index-smaller-mask.is)
    (c.requires.smaller _ lowest.smaller))
    (subst (λ es. AreChosen (IsCoveredByBoth c.index-smaller-mask.result es) c.args.made.now [] c.choose_both.new.chosen)
    (sym (row-is c.args.clauses.now _ c.index-clauses-i.result lowest.within c.index-clauses-i.is))
    (subst (λ es. AreChosen (IsCoveredByBoth c.index-smaller-mask.result c.index-clauses-i.result) c.args.made.now es c.choose_both.new.chosen)
    c.clear.ensures chosen))
    (low (subst CanBeConjoined (sym c.clear.ensures) (λ e member. absurd (Contains-none e member))))) c.choose_both.ensures.chosen c.choose_both.ensures.low
