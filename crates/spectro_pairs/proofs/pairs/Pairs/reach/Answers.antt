-- A pair whose number is known is there, and a number that was found is kept.
use Rattle.std.proofs.Common.{◌≡◌, ◌<◌, ℕ, List, Vec, length, arith, ap, subst, sym}
use Rattle.std.specs.declared.alloc.Global.{Global}
use Rattle.spectro_game.specs.Reached.{StandsAt}
use Rattle.spectro_theory.specs.Reaching.{is_same_pair, with_last}
use Rattle.spectro_theory.proofs.Places.{stands-below}
use Rattle.spectro_theory.proofs.PutLast.{stands-any}
use Rattle.spectro_pairs.specs.declared.pairs.Key.{Key}
use Rattle.spectro_pairs.specs.declared.known.Known.{Known}
use Rattle.spectro_pairs.specs.Interned.{AreInterned, Interned, interned, lists_of, pair_at}
use Rattle.spectro_pairs.proofs.Interning.{is_same_key, key-here, same_key-equal, same_key-itself, stands-pairs}
use Rattle.spectro_pairs.proofs.KeptPairs.{half-limit, interned-known, known-pair}
use Rattle.spectro_pairs.proofs.pairs.Pairs.reach.Goals as goal
use Rattle.spectro_pairs.proofs.pairs.Pairs.reach.Goals.{In-Some}

abbrev key_of : ℕ → ℕ → Key
key_of state set = record { state = state; set = set }

-- the key stands at the number that is known
here : (c : In-Some) → StandsAt c.self.inside.keys.keys c.in-Some.k (key_of c.args.state c.args.set)
here c = c.self.invariant.exact c.args.set c.args.state c.in-Some.k c.in-Some.ensures

pub get-requires : goal.get-requires
get-requires c = omega (arith, c.requires.state, c.self.invariant.wide, ap (λ (v : Interned). v.states) c.self.view_is)

pub returns-in-Some-clause-ok : goal.returns-in-Some-clause-ok
returns-in-Some-clause-ok c =
    let below = rw (← c.self.view_is) at c.requires.set in
    let key = key_of c.args.state c.args.set in
    let found = stands-any is_same_key same_key-equal same_key-itself key c.self.inside.keys.keys c.in-Some.k
    (here (goal.at.returns-in-Some-clause-ok c).In-Some) in
    let same = known-pair c.self.invariant key below found in
    subst (λ (v : Interned). v ≡ record v { pairs = with_last is_same_pair v.pairs (pair_at v.sets c.args.state c.args.set) }) c.self.view_is
    (λ i. record {
      states = c.self.inside.states;
      limit = c.self.inside.limit;
      sets = lists_of c.self.inside.sets.keys;
      pairs = sym same i;
    })

pub returns-in-Some-clause-number : goal.returns-in-Some-clause-number
returns-in-Some-clause-number c =
    subst (λ (v : Interned). StandsAt v.pairs c.in-Some.k (pair_at v.sets c.args.state c.args.set)) c.self.view_is
    (stands-pairs (lists_of c.self.inside.sets.keys) c.self.inside.keys.keys c.in-Some.k (key_of c.args.state c.args.set)
    (here (goal.at.returns-in-Some-clause-number c).In-Some))

-- the key stands at the number that was found
found : (states limit n : ℕ) (known singletons : Known) (sets : List (Vec ℕ Global)) (keys : List Key) → AreInterned states limit n known singletons sets keys
    → (before now : Interned) → interned states limit sets keys ≡ now → (state set k : ℕ)
    → now ≡ record before { pairs = with_last is_same_pair before.pairs (pair_at before.sets state set) }
    → set < length before.sets → StandsAt now.pairs k (pair_at before.sets state set) → StandsAt keys k (key_of state set)
found states limit n known singletons sets keys well before now view state set k put below here =
    let same : now.sets ≡ before.sets = ap (λ (v : Interned). v.sets) put in
    let stands = subst (λ (l : List (List ℕ)). StandsAt now.pairs k (pair_at l state set)) (sym same) here in
    let kept = subst (λ (v : Interned). StandsAt v.pairs k (pair_at v.sets state set)) (sym view) stands in
    key-here (lists_of sets) well.once keys k (key_of state set)
    (omega (arith, below, ap length same, ap (λ (v : Interned). length v.sets) view)) well.numbered kept

pub put-requires-clause-column : goal.put-requires-clause-column
put-requires-clause-column c =
    omega (
      arith,
      c.requires.state,
      c.self-2.invariant.wide,
      ap (λ (v : Interned). v.states) c.self-2.view_is,
      ap
          (λ (v : Interned). v.states) c.in_ok-k.ensures.ok,
    )

pub put-requires-clause-bound : goal.put-requires-clause-bound
put-requires-clause-bound c =
    let inside = c.self-2.inside in
    let here = found inside.states inside.limit inside.size inside.known inside.singletons inside.sets.keys inside.keys.keys c.self-2.invariant c.args.self.now
    c.number.new.self c.self-2.view_is
    c.args.state c.args.set c.in_ok-k.k c.in_ok-k.ensures.ok c.requires.set c.in_ok-k.ensures.number in
    let bound = c.self-2.invariant.bound in
    omega (arith, half-limit c.self-2.invariant, bound, stands-below c.self-2.inside.keys.keys c.in_ok-k.k (key_of c.args.state c.args.set) here)

pub invariant_of-self : goal.invariant_of-self
invariant_of-self c =
    let inside = c.self-2.inside in
    let here = found inside.states inside.limit inside.size inside.known inside.singletons inside.sets.keys inside.keys.keys c.self-2.invariant c.args.self.now
    c.number.new.self c.self-2.view_is
    c.args.state c.args.set c.in_ok-k.k c.in_ok-k.ensures.ok c.requires.set c.in_ok-k.ensures.number in
    interned-known c.self-2.invariant c.args.set c.args.state c.in_ok-k.k c.put.new.self c.put.ensures.width here c.put.ensures.knows
