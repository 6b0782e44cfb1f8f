use Rattle.std.proofs.Common.{arith, ◌-◌, ◌^◌, ◌∙◌, ap, length, subst, sym}
use Rattle.std.proofs.lemmas.Result.{on_ok_weaker}
use Rattle.spectro_game.specs.Rows.{listed_at}
use Rattle.spectro_solve.specs.Added.{CanBeConjoined, IsAdded}
use Rattle.spectro_solve.specs.Choices.{AffordsBy, IsChosenFor}
use Rattle.spectro_solve.proofs.Choosing.{chosen-front, chosen-more}
use Rattle.spectro_solve.proofs.Listing.{first-is}
use Rattle.spectro_solve.proofs.SubsetPairs.{set-is}
use Rattle.spectro_solve.proofs.SplitPrices.{mask-added}
use Rattle.spectro_solve.proofs.splits.add_next.Goals as goal

pub choose_for-requires-clause-smaller : goal.choose_for-requires-clause-smaller
choose_for-requires-clause-smaller c = chosen-front c.args.clauses.now c.args.made.now c.args.mask c.args.chosen.now c.split_at_mut-smaller.result.0.now
    c.split_at_mut-smaller.result.1.now c.split_at_mut-smaller.ensures.value c.split_at_mut-smaller.ensures.front_len c.requires.smaller

pub add_split-requires-clause-low : goal.add_split-requires-clause-low
add_split-requires-clause-low c = subst CanBeConjoined
    (sym (first-is c.split_at_mut-smaller.result.1.now c.choose_for.new.list c.index-rest-0-2.result
    (omega (arith, c.split_at_mut-smaller.ensures.back_len, c.requires.place)))) c.in_ok-choose_for.ensures.low

pub returns-clause-chosen : goal.returns-clause-chosen
returns-clause-chosen c = on_ok_weaker c.add_split.result (λ grows.
    chosen-more c.args.clauses.now c.args.made.now c.add_split.new.made c.args.mask c.split_at_mut-smaller.result.0.now c.split_at_mut-smaller.result.1.now
    c.choose_for.new.list c.split_at_mut-smaller.ensures.front_len (omega (arith, c.split_at_mut-smaller.ensures.back_len, c.requires.place)) grows
    (chosen-front c.args.clauses.now c.args.made.now c.args.mask c.args.chosen.now c.split_at_mut-smaller.result.0.now c.split_at_mut-smaller.result.1.now
    c.split_at_mut-smaller.ensures.value c.split_at_mut-smaller.ensures.front_len c.requires.smaller)
    (subst (λ n. IsChosenFor c.args.clauses.now c.args.made.now n c.choose_for.new.list) c.split_at_mut-smaller.ensures.front_len c.in_ok-choose_for.ensures))
    c.add_split.ensures.grows

pub returns-clause-added : goal.returns-clause-added
returns-clause-added c = on_ok_weaker c.add_split.result (λ added system weighing starts source x here.
    mask-added (listed_at c.args.arena.now.pairs c.args.lists.now) x c.args.clauses.now c.args.mask c.choose_for.new.list c.args.made.now c.add_split.new.made
    (subst (λ n. IsChosenFor c.args.clauses.now c.args.made.now n c.choose_for.new.list) c.split_at_mut-smaller.ensures.front_len c.in_ok-choose_for.ensures)
    (subst (λ m. IsAdded (AffordsBy (listed_at c.args.arena.now.pairs c.args.lists.now) x m c.choose_for.new.list) c.args.made.now c.add_split.new.made)
    (c.mask_of_others-others.ensures ∙ ap (λ n. 2 ^ n - 1 - c.args.mask) (c.requires.clauses ∙ ap length (set-is c.args.arena.now.pairs c.args.k x here)))
    (subst (λ l. IsAdded (AffordsBy (listed_at c.args.arena.now.pairs c.args.lists.now) x c.mask_of_others-others.result l) c.args.made.now
    c.add_split.new.made)
    (first-is c.split_at_mut-smaller.result.1.now c.choose_for.new.list c.index-rest-0-2.result
    (omega (arith, c.split_at_mut-smaller.ensures.back_len, c.requires.place))) (added system weighing starts source x here)))) c.add_split.ensures.added
