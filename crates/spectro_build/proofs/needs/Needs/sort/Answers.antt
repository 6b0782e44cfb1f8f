-- Sorting moves keys alone, and leaves those that differ rising.
use Rattle.std.proofs.Common.{List, subst, Contains}
use Rattle.std.specs.Prelude.{◌↔◌}
use Rattle.std.proofs.lemmas.List.Sorted.{Contains-permutation, IsPermutation-sym}
use Rattle.spectro_build.specs.declared.key.Key.{Key}
use Rattle.spectro_build.proofs.KeyOrders.{distinct-once, sorted-up}
use Rattle.spectro_build.proofs.KeySets.{is_same_key, same_key-itself}
use Rattle.spectro_build.proofs.needs.Needs.sort.Goals as goal

pub returns-clause-members : goal.returns-clause-members
returns-clause-members c key =
    let old = c.self.inside.keys.keys in
    let new = c.sort_unstable.new.self.keys in
    let moved = c.in_ok-sort_unstable.ensures.reordered.0 in
    subst (λ (keys : List Key). Contains keys key ↔ Contains new key) c.self.view_is
    (Contains-permutation old new key moved, Contains-permutation new old key (IsPermutation-sym old new moved))

pub returns-clause-order : goal.returns-clause-order
returns-clause-order c =
    let new = c.sort_unstable.new.self.keys in
    sorted-up new (distinct-once is_same_key same_key-itself new c.in_ok-sort_unstable.ensures.unique) c.in_ok-sort_unstable.ensures.sorted
