use Rattle.std.proofs.Common.{◌≡◌, ◌∙◌, ℕ, List, drop, length, ap, sym, subst}
use Rattle.std.specs.List.{dedup, refill}
use Rattle.std.specs.List.Sorted.{IsPermutation, IsSorted, IsStrictlyIncreasing}
use Rattle.std.specs.Ordering.{nat_cmp}
use Rattle.std.proofs.Math.Dec.{eqb}
use Rattle.std.proofs.lemmas.List.{take_at}
use Rattle.spectro_spec.specs.System.{rising}
use Rattle.spectro_spec.proofs.Rising.{IsStrictlyIncreasing-rising}
use Rattle.spectro_lts.proofs.Sorting.{from_sorted}
use Rattle.spectro_lts.proofs.state_set.StateSet.of.Goals as goal

-- the states that are left, where the others were lent out to be sorted
set_is : (states lent sorted left : List ℕ) → lent ≡ states → length sorted ≡ length lent → IsPermutation lent sorted → IsSorted nat_cmp sorted
    → left ≡ dedup eqb (refill (length states) states sorted) → left ≡ rising states
set_is states lent sorted left same long moved in_order is =
    let back : refill (length states) states sorted ≡ sorted = take_at sorted (drop (length sorted) states) (length states) (long ∙ ap length same) in
    is ∙ ap (dedup eqb) back ∙ from_sorted lent sorted moved in_order ∙ ap rising same

pub invariant_of-result : goal.invariant_of-result
invariant_of-result c =
    let states = c.args.states.items in
    subst (λ xs. IsStrictlyIncreasing xs)
    (sym (set_is states c.deref_mut.result.now c.sort_unstable.new.self c.dedup.new.self.items c.deref_mut.ensures.value c.sort_unstable.ensures.len
    c.sort_unstable.ensures.permutation c.sort_unstable.ensures.sorted c.dedup.ensures.items))
    (IsStrictlyIncreasing-rising states)

pub returns : goal.returns
returns c =
    set_is c.args.states.items c.deref_mut.result.now c.sort_unstable.new.self c.dedup.new.self.items c.deref_mut.ensures.value c.sort_unstable.ensures.len
    c.sort_unstable.ensures.permutation c.sort_unstable.ensures.sorted c.dedup.ensures.items
