-- The members that were taken are the subset of the mask.
use Rattle.std.proofs.Common.{[], ◌∷◌, ◌≡◌, ◌∙◌, subst, sym, IfErr, IfOk}
use Rattle.std.specs.Prelude.{OnOk}
use Rattle.spectro_game.specs.Reached.{StandsAt}
use Rattle.spectro_pairs.specs.Explored.{IsSetWithin}
use Rattle.spectro_pairs.specs.Growth.{HasReached, IsPastWith, pair_of}
use Rattle.spectro_pairs.specs.Subsets.{subset_at}
use Rattle.spectro_pairs.proofs.Submasks.{subset_at-taken}
use Rattle.spectro_pairs.proofs.exploration.Exploration.add_subset.Goals as goal
use Rattle.spectro_pairs.proofs.exploration.Exploration.add_subset.Goals.{After-as_slice}

taken : (c : After-as_slice) → c.as_slice.result.now ≡ subset_at c.args.set.now c.args.mask
taken c = c.as_slice.ensures ∙ subset_at-taken c.args.set.now c.args.mask c.take_subset.new.subset.items c.in_ok-take_subset.ensures.subset

pub add_pair-requires-clause-set : goal.add_pair-requires-clause-set
add_pair-requires-clause-set c =
    subst (IsSetWithin c.args.self.now.pairs.states) (sym c.as_slice.ensures)
    (c.in_ok-take_subset.ensures.within c.args.self.now.pairs.states c.requires.set)

pub returns-clause-ok : goal.returns-clause-ok
returns-clause-ok c =
    subst (λ s. OnOk c.add_pair.result (HasReached c.args.self.now c.add_pair.new.self (pair_of c.args.state s ∷ []) []))
    (taken (goal.at.returns-clause-ok c).After-as_slice) c.add_pair.ensures.ok

pub returns-clause-number : goal.returns-clause-number
returns-clause-number c =
    subst (λ s. IfOk c.add_pair.result (λ k. StandsAt c.add_pair.new.self.pairs.pairs k (pair_of c.args.state s)))
    (taken (goal.at.returns-clause-number c).After-as_slice) c.add_pair.ensures.number

pub returns-clause-limit : goal.returns-clause-limit
returns-clause-limit c =
    subst (λ s. IfErr c.add_pair.result (λ e. IsPastWith e c.args.self.now (pair_of c.args.state s ∷ [])))
    (taken (goal.at.returns-clause-limit c).After-as_slice) c.add_pair.ensures.limit
