-- There are as many pairs as keys.
use Rattle.std.proofs.Common.{All, arith, sym, ◌∙◌, length, ap, subst}
use Rattle.spectro_pairs.specs.Explored.{IsPairWithin}
use Rattle.spectro_pairs.specs.Interned.{Interned, lists_of}
use Rattle.spectro_pairs.proofs.Interning.{length-pairs_of}
use Rattle.spectro_pairs.proofs.KeptPairs.{half-limit, pairs-within}
use Rattle.spectro_pairs.proofs.pairs.Pairs.len.Goals as goal

pub overflow_cast-result : goal.overflow_cast-result
overflow_cast-result c =
    let bound = c.self.invariant.bound in
    omega (arith, half-limit c.self.invariant, bound, c.len.ensures.len)

pub returns-clause-value : goal.returns-clause-value
returns-clause-value c =
    c.len.ensures.len ∙ sym (length-pairs_of (lists_of c.self.inside.sets.keys) c.self.inside.keys.keys) ∙ ap (λ (v : Interned). length v.pairs) c.self.view_is

pub returns-clause-half : goal.returns-clause-half
returns-clause-half c = omega (arith, half-limit c.self.invariant, c.len.ensures.len, ap (λ (v : Interned). v.limit) c.self.view_is)

pub returns-clause-within : goal.returns-clause-within
returns-clause-within c =
    let inside = c.self.inside in
    subst (λ (v : Interned). All (IsPairWithin v.states) v.pairs) c.self.view_is
    (pairs-within inside.states inside.limit inside.size inside.known inside.singletons inside.sets.keys inside.keys.keys c.self.invariant)
