-- The state of the pair is that of its key.
use Rattle.std.proofs.Common.{arith, subst, refl, length, ap, ◌≡◌, ◌<◌}
use Rattle.spectro_game.specs.Pairs.{Pair}
use Rattle.spectro_theory.proofs.Places.{holds-at}
use Rattle.spectro_pairs.specs.declared.pairs.Key.{Key}
use Rattle.spectro_pairs.specs.Interned.{Interned, IsPairAt, lists_of, pair_at}
use Rattle.spectro_pairs.proofs.Interning.{length-pairs_of, stands-pairs}
use Rattle.spectro_pairs.proofs.pairs.Pairs.state.Goals as goal

pub index-requires : goal.index-requires
index-requires c =
    let below = c.requires in
    omega (arith, below, length-pairs_of (lists_of c.self.inside.sets.keys) c.self.inside.keys.keys, ap (λ (v : Interned). length v.pairs) c.self.view_is)

pub returns-clause-state : goal.returns-clause-state
unfolding pair_at
returns-clause-state c =
    subst (λ (v : Interned). IsPairAt v.pairs c.args.k (λ (pair : Pair). pair.state ≡ c.index.result.now.state)) c.self.view_is (
      pair_at (lists_of c.self.inside.sets.keys) c.index.result.now.state c.index.result.now.set,
      stands-pairs (lists_of c.self.inside.sets.keys) c.self.inside.keys.keys c.args.k c.index.result.now c.index.ensures,
      refl,
    )

pub returns-clause-in_range : goal.returns-clause-in_range
returns-clause-in_range c =
    subst (λ (v : Interned). c.index.result.now.state < v.states) c.self.view_is
    (holds-at (λ (key : Key). key.state < c.self.inside.states) c.self.inside.keys.keys c.args.k c.index.result.now c.self.invariant.in_range c.index.ensures)
