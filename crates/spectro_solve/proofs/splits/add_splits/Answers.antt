use Rattle.std.proofs.Common.{arith, ◌≡◌, ◌^◌, ◌∙◌, ap, length, sym, subst, take}
use Rattle.std.proofs.lemmas.Result.{on_ok_weaker}
use Rattle.std.proofs.lemmas.List.{length-take-le}
use Rattle.spectro_game.specs.Rows.{listed_at}
use Rattle.spectro_solve.specs.Choices.{AffordsConjunction, AffordsSplitAmong}
use Rattle.spectro_solve.specs.Clauses.{AreClauseLists}
use Rattle.spectro_solve.proofs.Adding.{added-same}
use Rattle.spectro_solve.proofs.AllSplits.{all-splits}
use Rattle.spectro_solve.proofs.Listing.{pair-holds}
use Rattle.spectro_solve.proofs.splits.add_splits.Goals as goal

pub add_masks-requires-clause-low : goal.add_masks-requires-clause-low
add_masks-requires-clause-low c i below = c.in_ok-list_clauses.ensures.low i (omega (arith, below, c.in_ok-list_clauses.ensures.len))

pub returns : goal.returns
returns c = on_ok_weaker c.add_masks.result (λ added system weighing starts source x here.
    let size : length (take (length c.set-size.result.now) c.deref_mut.result.now) ≡ length x.set =
    length-take-le (length c.set-size.result.now) c.deref_mut.result.now (omega (arith, c.deref_mut.ensures.len, c.in_ok-grow.ensures))
    ∙ ap length (sym (pair-holds c.args.arena.now.pairs c.args.k (λ y. y.set ≡ c.set-size.result.now) c.set-size.ensures.value x here)) in
    added-same (AffordsSplitAmong (listed_at c.args.arena.now.pairs c.args.lists.now) x c.list_clauses.new.clauses (2 ^ length c.list_clauses.new.clauses))
    (AffordsConjunction (listed_at c.args.arena.now.pairs c.args.lists.now) x) c.args.made.now c.add_masks.new.made
    (added system weighing starts source x here)
    (all-splits (listed_at c.args.arena.now.pairs c.args.lists.now) x c.list_clauses.new.clauses
    (subst (λ n. AreClauseLists (listed_at c.args.arena.now.pairs c.args.lists.now) x n c.list_clauses.new.clauses) size
    (c.in_ok-list_clauses.ensures.clauses system weighing starts source x here))
    (2 ^ length c.list_clauses.new.clauses) (ap (λ n. 2 ^ n) (c.in_ok-list_clauses.ensures.len ∙ size)))) c.add_masks.ensures
