-- The keys of a set differ.
use Rattle.std.proofs.Common.{List, subst}
use Rattle.spectro_theory.specs.Reaching.{StandOnce}
use Rattle.spectro_build.specs.declared.key.Key.{Key}
use Rattle.spectro_build.proofs.KeyOrders.{distinct-once}
use Rattle.spectro_build.proofs.KeySets.{is_same_key, same_key-itself}
use Rattle.spectro_build.proofs.needs.Needs.len.Goals as goal

pub returns-clause-once : goal.returns-clause-once
returns-clause-once c = subst (λ (keys : List Key). StandOnce keys) c.self.view_is
    (distinct-once is_same_key same_key-itself c.self.inside.keys.keys c.len.ensures.unique)
