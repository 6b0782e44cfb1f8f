-- The set of the pair stands at the number in its key.
use Rattle.std.proofs.Common.{arith, refl, subst, sym, length, ap, ◌≡◌, ◌<◌}
use Rattle.spectro_game.specs.Pairs.{Pair}
use Rattle.spectro_game.specs.Reached.{StandsAt}
use Rattle.spectro_theory.proofs.Places.{holds-at}
use Rattle.spectro_pairs.specs.declared.pairs.Key.{Key}
use Rattle.spectro_pairs.specs.Explored.{IsSetWithin}
use Rattle.spectro_pairs.specs.Interned.{Interned, IsPairAt, lists_of, pairs_of}
use Rattle.spectro_pairs.proofs.Sets.{length-lists_of, stands-lists}
use Rattle.spectro_pairs.proofs.Interning.{length-pairs_of, pair_at-set, stands-pairs}
use Rattle.spectro_pairs.proofs.KeptPairs.{few-members}
use Rattle.spectro_pairs.proofs.pairs.Pairs.set.Goals as goal

pub index-key-requires : goal.index-key-requires
index-key-requires c =
    let below = c.requires in
    omega (arith, below, length-pairs_of (lists_of c.self.inside.sets.keys) c.self.inside.keys.keys, ap (λ (v : Interned). length v.pairs) c.self.view_is)

pub index-requires : goal.index-requires
index-requires c =
    let below : c.index-key.result.now.set < length (lists_of c.self.inside.sets.keys) =
    holds-at (λ (key : Key). key.set < length
    (lists_of c.self.inside.sets.keys)) c.self.inside.keys.keys c.args.k c.index-key.result.now c.self.invariant.numbered c.index-key.ensures in
    omega (arith, below, length-lists_of c.self.inside.sets.keys)

-- the set stands at its number, and the pair at its own
here : (c : goal.After-as_slice) → StandsAt (lists_of c.self.inside.sets.keys) c.index-key.result.now.set c.as_slice.result.now
here c = subst (StandsAt (lists_of c.self.inside.sets.keys) c.index-key.result.now.set) (sym c.as_slice.ensures.value)
    (stands-lists c.self.inside.sets.keys c.index-key.result.now.set c.index.result.now c.index.ensures)

pair-here : (c : goal.After-as_slice)
    → StandsAt (pairs_of (lists_of c.self.inside.sets.keys) c.self.inside.keys.keys) c.args.k
    (record { state = c.index-key.result.now.state; set = c.as_slice.result.now })
pair-here c = subst (StandsAt (pairs_of (lists_of c.self.inside.sets.keys) c.self.inside.keys.keys) c.args.k)
    (pair_at-set (lists_of c.self.inside.sets.keys) c.index-key.result.now.state c.index-key.result.now.set c.as_slice.result.now (here c))
    (stands-pairs (lists_of c.self.inside.sets.keys) c.self.inside.keys.keys c.args.k c.index-key.result.now c.index-key.ensures)

pub returns-clause-set : goal.returns-clause-set
returns-clause-set c =
    subst (λ (v : Interned). IsPairAt v.pairs c.args.k (λ (pair : Pair). pair.set ≡ c.as_slice.result.now)) c.self.view_is
    (record { state = c.index-key.result.now.state; set = c.as_slice.result.now }, pair-here c, refl)

pub returns-clause-within : goal.returns-clause-within
returns-clause-within c =
    subst (λ (v : Interned). IsSetWithin v.states c.as_slice.result.now) c.self.view_is
    (holds-at (IsSetWithin c.self.inside.states) (lists_of c.self.inside.sets.keys) c.index-key.result.now.set c.as_slice.result.now c.self.invariant.within
    (here c))

pub returns-clause-few : goal.returns-clause-few
returns-clause-few c =
    few-members c.self.invariant c.args.k (record { state = c.index-key.result.now.state; set = c.as_slice.result.now }) (pair-here c)
