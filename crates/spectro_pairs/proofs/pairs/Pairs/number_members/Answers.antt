-- The set is found, or put last.
use Rattle.std.proofs.Common.{◌≡◌, ◌∙◌, ◌<◌, ◌≤◌, ◌+◌, List, [], ◌∷◌, ℕ, length, length-append, ap, subst, sym, true, arith}
use Rattle.std.specs.List.{list_any}
use Rattle.std.specs.Str.{bytes_eq}
use Rattle.spectro_game.specs.Reached.{StandsAt}
use Rattle.spectro_theory.specs.Reaching.{with_last}
use Rattle.spectro_theory.proofs.PutLast.{with_last-cases, with_last-known}
use Rattle.spectro_pairs.specs.Explored.{IsSetWithin}
use Rattle.spectro_pairs.specs.Interned.{Interned, interned, lists_of, pairs_of}
use Rattle.spectro_pairs.proofs.Sets.{any-lists, found-lists, length-lists_of, lists_of-insert_key, set-equal, set-itself, stands-same}
use Rattle.spectro_pairs.proofs.KeptPairs.{interned-set, same-pairs}
use Rattle.spectro_pairs.proofs.pairs.Pairs.number_members.Goals as goal

-- the number of a set that is there
below : (c : goal.In-Some) → c.in-Some.no < 4294967295
below c = omega (arith, c.self.invariant.few, length-lists_of c.self.inside.sets.keys, c.in-Some.ensures.within)

pub overflow_cast-result : goal.overflow_cast-result
overflow_cast-result c = omega (arith, below c)

pub returns-in-Some-clause-bound : goal.returns-in-Some-clause-bound
returns-in-Some-clause-bound c = below c

pub returns-in-Some-clause-ok : goal.returns-in-Some-clause-ok
returns-in-Some-clause-ok c =
    let known : list_any (bytes_eq c.args.set.now) (lists_of c.self.inside.sets.keys) ≡ true = sym (c.in-Some.ensures.found
    ∙ any-lists c.args.set.now c.self.inside.sets.keys) in
    let same = with_last-known bytes_eq (lists_of c.self.inside.sets.keys) c.args.set.now known in
    subst (λ (v : Interned). v ≡ record v { sets = with_last bytes_eq v.sets c.args.set.now }) c.self.view_is
    (λ i. record {
      states = c.self.inside.states;
      limit = c.self.inside.limit;
      sets = sym same i;
      pairs = pairs_of (lists_of c.self.inside.sets.keys) c.self.inside.keys.keys;
    })

pub returns-in-Some-clause-number : goal.returns-in-Some-clause-number
returns-in-Some-clause-number c =
    subst (λ (v : Interned). StandsAt v.sets c.in-Some.no c.args.set.now) c.self.view_is
    (found-lists c.args.set.now c.self.inside.sets.keys c.in-Some.no (sym c.in-Some.ensures.index))

-- there is at most one set more
longer : (sets : List (List ℕ)) (set : List ℕ) → length (with_last bytes_eq sets set) ≤ length sets + 1
longer sets set =
    with_last-cases bytes_eq set-equal set-itself (λ l. length l ≤ length sets + 1) sets set (λ known. omega arith)
    (λ new. omega (arith, length-append sets (set ∷ [])))

-- the set went last
put : (c : goal.In_ok-no) → lists_of c.insert_full.new.self.keys ≡ with_last bytes_eq (lists_of c.self.inside.sets.keys) c.args.set.now
put c =
    ap lists_of c.in_ok-no.ensures.keys ∙ lists_of-insert_key c.self.inside.sets.keys c.in_ok-from_slice.field-0
    ∙ ap (with_last bytes_eq (lists_of c.self.inside.sets.keys)) c.in_ok-from_slice.ensures.items

pub invariant_of-self-2 : goal.invariant_of-self-2
invariant_of-self-2 c =
    interned-set c.self.invariant c.insert_full.new.self.keys c.args.set.now (put c)
    (subst (λ (v : Interned). IsSetWithin v.states c.args.set.now) (sym c.self.view_is) c.requires)
    (omega (
      arith,
      ap length (put c),
      longer (lists_of c.self.inside.sets.keys) c.args.set.now,
      c.if-len-ge-MAX_SETS.false,
      c.len.ensures.len,
      length-lists_of c.self.inside.sets.keys,
    ))

pub returns-clause-ok : goal.returns-clause-ok
returns-clause-ok c =
    subst (λ (v : Interned). interned c.self.inside.states c.self.inside.limit c.insert_full.new.self.keys c.self.inside.keys.keys ≡ record v
    { sets = with_last bytes_eq v.sets c.args.set.now })
    c.self.view_is
    (λ i. record {
      states = c.self.inside.states;
      limit = c.self.inside.limit;
      sets = put c i;
      pairs = same-pairs c.self.invariant c.insert_full.new.self.keys c.args.set.now (put c) i;
    })

pub returns-clause-number : goal.returns-clause-number
returns-clause-number c =
    let stored = c.in_ok-no.ensures.stored in
    let same : bytes_eq c.args.set.now stored.0.items ≡ true = subst
    (λ (l : List ℕ). bytes_eq l stored.0.items ≡ true) c.in_ok-from_slice.ensures.items stored.2 in
    stands-same c.insert_full.new.self.keys c.in_ok-no.no stored.0 c.args.set.now stored.1 same
