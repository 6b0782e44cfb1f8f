-- The pair is within the states of the system.
use Rattle.std.proofs.Common.{◌≡◌, subst}
use Rattle.spectro_game.specs.Pairs.{Pair}
use Rattle.spectro_pairs.specs.Explored.{Explored}
use Rattle.spectro_pairs.specs.Interned.{IsPairAt}
use Rattle.spectro_pairs.proofs.Interning.{set-within}
use Rattle.spectro_pairs.proofs.arena.Arena.set.Goals as goal

pub returns-clause-in_range : goal.returns-clause-in_range
returns-clause-in_range c system weighing starts source =
    (set-within system.states c.args.self.now.pairs c.args.k c.set.result.now source.within
    (subst (λ (e : Explored). IsPairAt e.pairs c.args.k (λ (pair : Pair). pair.set ≡ c.set.result.now)) c.self.view_is c.set.ensures.set)).in_range
