-- A number that is known is that of the set of the state, and one that was found is kept.
use Rattle.std.proofs.Common.{◌≡◌, [], ◌∷◌, subst, sym, arith}
use Rattle.std.specs.Str.{bytes_eq}
use Rattle.spectro_game.specs.Reached.{StandsAt}
use Rattle.spectro_theory.specs.Reaching.{with_last}
use Rattle.spectro_theory.proofs.Places.{stands-below}
use Rattle.spectro_theory.proofs.PutLast.{stands-any, with_last-known}
use Rattle.spectro_pairs.specs.Interned.{Interned, lists_of, pairs_of}
use Rattle.spectro_pairs.proofs.Sets.{set-equal, set-itself}
use Rattle.spectro_pairs.proofs.KeptPairs.{interned-singleton}
use Rattle.spectro_pairs.proofs.pairs.Pairs.number_singleton.Goals as goal
use Rattle.spectro_pairs.proofs.pairs.Pairs.number_singleton.Goals.{In-Some}

-- the set stands at the number that is known
here : (c : In-Some) → StandsAt (lists_of c.self.inside.sets.keys) c.in-Some.no (c.args.q ∷ [])
here c = c.self.invariant.alone c.args.q 0 c.in-Some.no c.in-Some.ensures

pub returns-in-Some-clause-ok : goal.returns-in-Some-clause-ok
returns-in-Some-clause-ok c =
    let lists = lists_of c.self.inside.sets.keys in
    let set = c.args.q ∷ [] in
    let stands = here (goal.at.returns-in-Some-clause-ok c).In-Some in
    let same = with_last-known bytes_eq lists set (stands-any bytes_eq set-equal set-itself set lists c.in-Some.no stands) in
    subst (λ (v : Interned). v ≡ record v { sets = with_last bytes_eq v.sets (c.args.q ∷ []) }) c.self.view_is
    (λ i. record {
      states = c.self.inside.states;
      limit = c.self.inside.limit;
      sets = sym same i;
      pairs = pairs_of (lists_of c.self.inside.sets.keys) c.self.inside.keys.keys;
    })

pub returns-in-Some-clause-number : goal.returns-in-Some-clause-number
returns-in-Some-clause-number c =
    subst (λ (v : Interned). StandsAt v.sets c.in-Some.no (c.args.q ∷ [])) c.self.view_is (here (goal.at.returns-in-Some-clause-number c).In-Some)

pub returns-in-Some-clause-bound : goal.returns-in-Some-clause-bound
returns-in-Some-clause-bound c =
    let few = c.self.invariant.few in
    let stands = here (goal.at.returns-in-Some-clause-bound c).In-Some in
    omega (arith, few, stands-below (lists_of c.self.inside.sets.keys) c.in-Some.no (c.args.q ∷ []) stands)

pub invariant_of-self : goal.invariant_of-self
invariant_of-self c =
    let stands = subst (λ (v : Interned). StandsAt v.sets c.in_ok-no.no (c.args.q ∷ [])) (sym c.self-2.view_is) c.in_ok-no.ensures.number in
    interned-singleton c.self-2.invariant c.args.q c.in_ok-no.no c.put.new.self c.put.ensures.width stands c.put.ensures.knows
