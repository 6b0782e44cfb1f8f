-- A pair is found by its key, or put last where the size with it is within the limit.
use Rattle.std.proofs.Common.{◌≡◌, ◌∙◌, ◌<◌, ◌≤◌, ◌+◌, ℕ, arith, ap, subst, sym}
use Rattle.spectro_game.specs.Pairs.{size}
use Rattle.spectro_game.specs.Reached.{StandsAt}
use Rattle.spectro_theory.specs.Reaching.{is_same_pair, with_last}
use Rattle.spectro_pairs.specs.declared.pairs.Key.{Key}
use Rattle.spectro_pairs.specs.Interned.{Interned, interned, lists_of, pair_at, pairs_of}
use Rattle.spectro_pairs.proofs.Sets.{length-lists_of}
use Rattle.spectro_pairs.proofs.Interning.{found-key, same_key-equal, stands-pairs}
use Rattle.spectro_pairs.proofs.KeptPairs.{half-limit, interned-key, known-pair, new-size, put-pair, positions-new}
use Rattle.spectro_pairs.proofs.pairs.Pairs.number.Goals as goal
use Rattle.spectro_pairs.proofs.pairs.Pairs.number.Goals.{After-positions}

abbrev key_of : ℕ → ℕ → Key
key_of state set = record { state = state; set = set }

-- ---- a pair that is there
pub overflow_cast-result : goal.overflow_cast-result
overflow_cast-result c =
    let bound = c.self.invariant.bound in
    omega (arith, half-limit c.self.invariant, bound, c.in-Some.ensures.within)

pub returns-in-Some-clause-ok : goal.returns-in-Some-clause-ok
returns-in-Some-clause-ok c =
    let below = rw (← c.self.view_is) at c.requires.set in
    let same = known-pair c.self.invariant (key_of c.args.state c.args.set) below (sym c.in-Some.ensures.found) in
    subst (λ (v : Interned). v ≡ record v { pairs = with_last is_same_pair v.pairs (pair_at v.sets c.args.state c.args.set) }) c.self.view_is
    (λ i. record {
      states = c.self.inside.states;
      limit = c.self.inside.limit;
      sets = lists_of c.self.inside.sets.keys;
      pairs = sym same i;
    })

pub returns-in-Some-clause-number : goal.returns-in-Some-clause-number
returns-in-Some-clause-number c =
    subst (λ (v : Interned). StandsAt v.pairs c.in-Some.k (pair_at v.sets c.args.state c.args.set)) c.self.view_is
    (stands-pairs (lists_of c.self.inside.sets.keys) c.self.inside.keys.keys c.in-Some.k (key_of c.args.state c.args.set)
    (found-key (key_of c.args.state c.args.set) c.self.inside.keys.keys c.in-Some.k (sym c.in-Some.ensures.index)))

-- ---- a new pair
pub index-requires : goal.index-requires
index-requires c =
    let below = rw (← c.self.view_is) at c.requires.set in
    omega (arith, below, length-lists_of c.self.inside.sets.keys)

-- the new size is at most that with the pair, and is that where it is at most a million
sized : (c : After-positions)
    → let with_pair = size (with_last is_same_pair (pairs_of (lists_of c.self.inside.sets.keys) c.self.inside.keys.keys)
    (pair_at (lists_of c.self.inside.sets.keys) c.args.state c.args.set)) in
    (c.from.result + c.positions.result ≤ with_pair) × (c.from.result + c.positions.result ≤ 1000000 → c.from.result + c.positions.result ≡ with_pair)
sized c =
    let below = rw (← c.self.view_is) at c.requires.set in
    let whole = new-size c.self.invariant (key_of c.args.state c.args.set) below (sym c.in_default.ensures.found) in
    let one = positions-new c.self.invariant
    (key_of c.args.state c.args.set) below c.index.result.now c.len.result c.positions.result c.index.ensures c.len.ensures c.positions.ensures.few
    c.positions.ensures.many in
    (omega (arith, whole, one.0, c.from.ensures), λ small. omega (arith, whole, one.1 (omega (arith, small)), c.from.ensures))

pub returns-then-size-from-clause-limit : goal.returns-then-size-from-clause-limit
returns-then-size-from-clause-limit c =
    subst
    (λ (v : Interned). (v.limit < c.from.result + c.positions.result)
    × (c.from.result + c.positions.result ≤ size (with_last is_same_pair v.pairs (pair_at v.sets c.args.state c.args.set))))
    c.self.view_is
    (omega (arith, c.if-size-from.true, c.from-2.ensures), (sized (goal.at.returns-then-size-from-clause-limit c).After-positions).0)

pub invariant_of-self-2 : goal.invariant_of-self-2
unfolding with_last
invariant_of-self-2 c =
    let below = rw (← c.self.view_is) at c.requires.set in
    let in_range : c.args.state < c.self.inside.states = subst (λ (v : Interned). c.args.state < v.states) (sym c.self.view_is) c.requires.state in
    let bound = c.self.invariant.bound in
    let small : c.from.result + c.positions.result ≤ c.self.inside.limit = omega (arith, c.if-size-from.false, c.from-2.ensures) in
    let exact = (sized (goal.at.invariant_of-self-2 c).After-positions).1 (omega (arith, small, bound)) in
    interned-key c.self.invariant (key_of c.args.state c.args.set) below
    (c.from.result + c.positions.result) c.insert_full.new.self.keys c.in_ok-k.ensures.keys in_range exact small

pub overflow_cast-result-2 : goal.overflow_cast-result-2
overflow_cast-result-2 c =
    let bound = c.self.invariant.bound in
    omega (arith, half-limit (invariant_of-self-2 c), bound, c.in_ok-k.ensures.within)

pub returns-clause-ok : goal.returns-clause-ok
unfolding with_last
returns-clause-ok c =
    let below = rw (← c.self.view_is) at c.requires.set in
    subst
    (λ (v : Interned). interned c.self.inside.states c.self.inside.limit c.self.inside.sets.keys c.insert_full.new.self.keys ≡ record v
    { pairs = with_last is_same_pair v.pairs (pair_at v.sets c.args.state c.args.set) })
    c.self.view_is
    (λ i. record {
      states = c.self.inside.states;
      limit = c.self.inside.limit;
      sets = lists_of c.self.inside.sets.keys;
      pairs = (ap (pairs_of (lists_of c.self.inside.sets.keys)) c.in_ok-k.ensures.keys ∙ put-pair c.self.invariant (key_of c.args.state c.args.set) below) i;
    })

pub returns-clause-number : goal.returns-clause-number
returns-clause-number c =
    let stored = c.in_ok-k.ensures.stored in
    let e : key_of c.args.state c.args.set ≡ stored.0 = same_key-equal (key_of c.args.state c.args.set) stored.0 stored.2 in
    subst (λ (v : Interned). StandsAt (pairs_of (lists_of c.self.inside.sets.keys) c.insert_full.new.self.keys) c.in_ok-k.k
    (pair_at v.sets c.args.state c.args.set)) c.self.view_is
    (stands-pairs (lists_of c.self.inside.sets.keys) c.insert_full.new.self.keys c.in_ok-k.k (key_of c.args.state c.args.set)
    (subst (StandsAt c.insert_full.new.self.keys c.in_ok-k.k) (sym e) stored.1))
