-- The number is the one that was put down, or the set is numbered and its number put down.
use Rattle.std.proofs.Common.{[], bytes_eq, subst}
use Rattle.spectro_game.specs.Reached.{StandsAt}
use Rattle.spectro_theory.specs.Reaching.{with_last}
use Rattle.spectro_pairs.proofs.Growths.{has-kept, has-none, has-numbered}
use Rattle.spectro_pairs.proofs.Posts.{posts-numbered, posts-put}
use Rattle.spectro_pairs.proofs.exploration.Exploration.number_successors.Goals as goal

pub returns-in-Some-clause-ok : goal.returns-in-Some-clause-ok
returns-in-Some-clause-ok c = has-none c.args.self.now

pub returns-clause-ok : goal.returns-clause-ok
returns-clause-ok c =
    let a = c.args.self.now in
    has-kept a (record a { pairs = c.number_set.new.self }) c.put.new.self [] []
    (has-numbered a a c.number_set.new.self (with_last bytes_eq a.pairs.sets c.successors.result.now) [] [] c.in_ok-n.ensures.ok (has-none a))

pub returns-clause-posts : goal.returns-clause-posts
returns-clause-posts c =
    let a = c.args.self.now in
    let here = subst (StandsAt c.number_set.new.self.sets c.in_ok-n.n) c.successors.ensures.value c.in_ok-n.ensures.number in
    posts-put c.args.lts.now
    (record a { pairs = c.number_set.new.self }) c.put.new.self c.args.q c.args.no c.in_ok-n.n c.put.ensures.width c.put.ensures.knows here
    (posts-numbered a c.number_set.new.self c.successors.result.now c.in_ok-n.ensures.ok c.args.lts.now c.requires.posts)
