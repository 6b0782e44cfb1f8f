-- A pair is found by its set and then by its key, or is not there.
use Rattle.std.proofs.Common.{◌≡◌, ◌∙◌, Some, arith, false, position, subst, sym}
use Rattle.std.specs.List.{list_any}
use Rattle.std.specs.Str.{bytes_eq}
use Rattle.spectro_theory.specs.Reaching.{is_same_pair}
use Rattle.spectro_pairs.specs.Interned.{Interned, lists_of, pairs_of}
use Rattle.spectro_pairs.proofs.Sets.{any-lists, found-lists, length-lists_of}
use Rattle.spectro_pairs.proofs.Interning.{is_same_key, position-no_set, position-set}
use Rattle.spectro_pairs.proofs.KeptPairs.{half-limit}
use Rattle.spectro_pairs.proofs.pairs.Pairs.find.Goals as goal
use Rattle.spectro_pairs.proofs.pairs.Pairs.find.Goals.{In_ok-set}

-- the number of the pair is that of the key with the number of the set
number : (c : In_ok-set) → position (is_same_key (record { state = c.args.state; set = c.in_ok-set.set })) c.self.inside.keys.keys
    ≡ position (is_same_pair (record { state = c.args.state; set = c.args.set.now })) (pairs_of (lists_of c.self.inside.sets.keys) c.self.inside.keys.keys)
number c =
    position-set (lists_of c.self.inside.sets.keys) c.self.invariant.once
    (record { state = c.args.state; set = c.in_ok-set.set }) c.args.set.now c.self.inside.keys.keys
    (found-lists c.args.set.now c.self.inside.sets.keys c.in_ok-set.set (sym c.in_ok-set.ensures.index)) c.self.invariant.numbered

pub returns-in_err-set : goal.returns-in_err-set
returns-in_err-set c =
    let none : list_any (bytes_eq c.args.set.now) (lists_of c.self.inside.sets.keys) ≡ false = sym (c.in_err-set.ensures.found
    ∙ any-lists c.args.set.now c.self.inside.sets.keys) in
    subst (λ (v : Interned). c.from_residual.result ≡ position (is_same_pair (record { state = c.args.state; set = c.args.set.now })) v.pairs) c.self.view_is
    (c.from_residual.ensures
    ∙ sym (position-no_set (lists_of c.self.inside.sets.keys) c.args.state c.args.set.now none c.self.inside.keys.keys c.self.invariant.numbered))

pub returns-in_err-k : goal.returns-in_err-k
returns-in_err-k c =
    subst (λ (v : Interned). c.from_residual-in_err-k.result ≡ position
    (is_same_pair (record { state = c.args.state; set = c.args.set.now })) v.pairs) c.self.view_is
    (c.from_residual-in_err-k.ensures ∙ c.in_err-k.ensures.index
    ∙ number (goal.at.returns-in_err-k c).In_ok-set)

pub overflow_cast-set : goal.overflow_cast-set
overflow_cast-set c = omega (arith, c.self.invariant.few, length-lists_of c.self.inside.sets.keys, c.in_ok-set.ensures.within)

pub overflow_cast-result : goal.overflow_cast-result
overflow_cast-result c =
    let bound = c.self.invariant.bound in
    omega (arith, half-limit c.self.invariant, bound, c.in_ok-k.ensures.within)

pub returns : goal.returns
returns c =
    subst (λ (v : Interned). Some c.in_ok-k.k ≡ position (is_same_pair (record { state = c.args.state; set = c.args.set.now })) v.pairs) c.self.view_is
    (c.in_ok-k.ensures.index
    ∙ number (goal.at.returns c).In_ok-set)
