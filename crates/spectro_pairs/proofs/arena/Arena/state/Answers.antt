-- The pair is within the states of the system.
use Rattle.std.proofs.Common.{◌≡◌, subst}
use Rattle.spectro_game.specs.Pairs.{Pair}
use Rattle.spectro_pairs.specs.Explored.{Explored}
use Rattle.spectro_pairs.specs.Interned.{IsPairAt}
use Rattle.spectro_pairs.proofs.Interning.{state-within}
use Rattle.spectro_pairs.proofs.arena.Arena.state.Goals as goal

pub returns-clause-in_range : goal.returns-clause-in_range
returns-clause-in_range c system weighing starts source =
    state-within system.states c.args.self.now.pairs c.args.k c.state.result source.within
    (subst (λ (e : Explored). IsPairAt e.pairs c.args.k (λ (pair : Pair). pair.state ≡ c.state.result)) c.self.view_is c.state.ensures.state)
