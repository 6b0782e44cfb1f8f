use Rattle.spectro_game.specs.Rows.{listed_at}
use Rattle.spectro_solve.specs.Added.{IsAdded}
use Rattle.spectro_solve.specs.Choices.{AffordsSplitAmong, AreChosenTo}
use Rattle.spectro_solve.specs.Evaluations.{AtPair}
use Rattle.spectro_solve.proofs.splits.add_masks.Given as goal

abbrev pub invariant-loop-mask : goal.invariant-loop-mask
invariant-loop-mask l =
    AreChosenTo l.clauses l.made l.mask l.chosen
    × AtPair l.arena l.k (λ system weighing x. IsAdded (AffordsSplitAmong (listed_at l.arena.pairs l.lists) x l.clauses l.mask) l.fn.made l.made)
