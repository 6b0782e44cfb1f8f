-- The followers are what is observed, then the subsets, then the swaps, in a row more.
use Rattle.std.proofs.Common.{[], ◌++◌, sym, subst, append-nil, refl}
use Rattle.std.proofs.lemmas.Result.{err_from_is_err_and}
use Rattle.spectro_game.specs.Pairs.{followers, observed, subsets, swaps}
use Rattle.spectro_game.specs.Reached.{StandsAt}
use Rattle.spectro_theory.specs.Reaching.{is_same_pair}
use Rattle.spectro_theory.proofs.PutLast.{stands-with_all}
use Rattle.spectro_theory.proofs.Reaching.{same_pair-equal, same_pair-itself}
use Rattle.spectro_pairs.specs.Growth.{HasObserved, HasReached, pair_of}
use Rattle.spectro_pairs.proofs.Growths.{closed-opened, has-next, has-then, past-more, past-then}
use Rattle.spectro_pairs.proofs.Posts.{posts-kept}
use Rattle.spectro_pairs.proofs.exploration.Exploration.add_followers.Goals as goal
use Rattle.spectro_pairs.proofs.exploration.Exploration.add_followers.Goals.{In_ok-add_observations, In_ok-add_subsets}

-- what is reached from the pair in turn
reached_observed : (c : In_ok-add_observations)
    → HasObserved c.args.lts.now c.args.self.now c.add_observations.new.self (pair_of c.args.state c.args.set.now)
reached_observed c = c.in_ok-add_observations.ensures.ok

reached_subsets : (c : In_ok-add_subsets)
    → HasReached c.add_observations.new.self c.add_subsets.new.self (subsets (pair_of c.args.state c.args.set.now)) []
reached_subsets c = c.in_ok-add_subsets.ensures.ok

pub returns-in_err-add_observations-clause-limit : goal.returns-in_err-add_observations-clause-limit
unfolding followers
returns-in_err-add_observations-clause-limit c =
    let p = err_from_is_err_and c.from_residual.result c.from_residual.ensures.1 in
    let a = c.args.self.now in
    let e = c.in_err-add_observations.field-0.0 in
    let x = pair_of c.args.state c.args.set.now in
    rw (p.1, p.2) (
      x,
      c.requires.here,
      past-more e a (observed c.args.lts.now x) (subsets x ++ swaps x) c.in_err-add_observations.ensures.limit,
    )

pub returns-in_err-add_subsets-clause-limit : goal.returns-in_err-add_subsets-clause-limit
unfolding followers
returns-in_err-add_subsets-clause-limit c =
    let p = err_from_is_err_and c.from_residual-in_err-add_subsets.result c.from_residual-in_err-add_subsets.ensures.1 in
    let a = c.args.self.now in
    let b = c.add_observations.new.self in
    let e = c.in_err-add_subsets.field-0.0 in
    let x = pair_of c.args.state c.args.set.now in
    let has = reached_observed (goal.at.returns-in_err-add_subsets-clause-limit c).In_ok-add_observations in
    let past = c.in_err-add_subsets.ensures.limit in
    rw (p.1, p.2) (
      x,
      c.requires.here,
      past-then e a b (observed c.args.lts.now x) (subsets x ++ swaps x) has.reached.limit has.reached.pairs (past-more e b (subsets x) (swaps x) past),
    )

pub returns-in_err-add_swaps-clause-limit : goal.returns-in_err-add_swaps-clause-limit
unfolding followers
returns-in_err-add_swaps-clause-limit c =
    let p = err_from_is_err_and c.from_residual-in_err-add_swaps.result c.from_residual-in_err-add_swaps.ensures.1 in
    let a = c.args.self.now in
    let b = c.add_observations.new.self in
    let d = c.add_subsets.new.self in
    let e = c.in_err-add_swaps.field-0.0 in
    let x = pair_of c.args.state c.args.set.now in
    let has = reached_observed (goal.at.returns-in_err-add_swaps-clause-limit c).In_ok-add_observations in
    let then = reached_subsets (goal.at.returns-in_err-add_swaps-clause-limit c).In_ok-add_subsets in
    let past = c.in_err-add_swaps.ensures.limit in
    rw (p.1, p.2) (
      x,
      c.requires.here,
      past-then e a b (observed c.args.lts.now x) (subsets x ++ swaps x) has.reached.limit has.reached.pairs
          (past-then e b d (subsets x) (swaps x) then.limit then.pairs past),
    )

pub returns-clause-ok : goal.returns-clause-ok
unfolding followers
returns-clause-ok c =
    let a = c.args.self.now in
    let b = c.add_observations.new.self in
    let d = c.add_subsets.new.self in
    let f = c.add_swaps.new.self in
    let x = pair_of c.args.state c.args.set.now in
    let has = reached_observed (goal.at.returns-clause-ok c).In_ok-add_observations in
    let then = reached_subsets (goal.at.returns-clause-ok c).In_ok-add_subsets in
    let last = c.in_ok-add_swaps.ensures.ok in
    let all =
    has-next a b f (observed c.args.lts.now x) (subsets x ++ swaps x) (followers c.args.lts.now x) has.label_nos [] has.label_nos has.reached
    (has-then b d f (subsets x) (swaps x) [] [] then last) refl (sym (append-nil has.label_nos)) in
    record {
      x = x;
      here = c.requires.here;
      states = all.states;
      limit = all.limit;
      pairs = all.pairs;
      numbers = all.numbers;
      rows = closed-opened a.followers f.followers c.close.new.self all.numbers all.followers c.requires.closed.0 c.in_ok-close.ensures.ok;
      named = all.named;
      label_nos = has.label_nos;
      label_rows = closed-opened a.labels f.labels c.close-2.new.self has.label_nos all.labels c.requires.closed.1 c.in_ok-close-2.ensures.ok;
      labelled = has.labelled;
      lattices = all.lattices;
    }

pub returns-clause-posts : goal.returns-clause-posts
returns-clause-posts c =
    let f = c.add_swaps.new.self in
    posts-kept f (record f { followers = c.close.new.self; labels = c.close-2.new.self }) refl (λ n set here. here) c.args.lts.now
    (c.in_ok-add_swaps.ensures.posts c.args.lts.now (c.in_ok-add_subsets.ensures.posts c.args.lts.now c.in_ok-add_observations.ensures.posts))

pub add_subsets-requires-clause-here : goal.add_subsets-requires-clause-here
add_subsets-requires-clause-here c =
    let has = c.in_ok-add_observations.ensures.ok.reached in
    subst (λ l. StandsAt l c.args.k (pair_of c.args.state c.args.set.now)) (sym has.pairs)
    (stands-with_all is_same_pair same_pair-equal same_pair-itself (observed c.args.lts.now (pair_of c.args.state c.args.set.now))
    c.args.self.now.pairs.pairs c.args.k (pair_of c.args.state c.args.set.now) c.requires.here)

pub add_subsets-requires-clause-lattices : goal.add_subsets-requires-clause-lattices
add_subsets-requires-clause-lattices c = c.in_ok-add_observations.ensures.ok.reached.lattices c.requires.lattices
