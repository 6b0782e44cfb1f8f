-- The set of the successors of several states is numbered at once.
use Rattle.std.proofs.Common.{[], bytes_eq}
use Rattle.std.proofs.lemmas.Result.{on_ok_weaker}
use Rattle.spectro_theory.specs.Reaching.{with_last}
use Rattle.spectro_pairs.proofs.Growths.{has-none, has-numbered}
use Rattle.spectro_pairs.proofs.Posts.{posts-numbered}
use Rattle.spectro_pairs.proofs.exploration.Exploration.number_post.Goals as goal

pub returns-in_ok-after-in_default-clause-ok : goal.returns-in_ok-after-in_default-clause-ok
returns-in_ok-after-in_default-clause-ok c =
    let a = c.args.self.now in
    on_ok_weaker c.number_set.result
    (λ numbered. has-numbered a a c.number_set.new.self (with_last bytes_eq a.pairs.sets c.as_slice.result.now) [] [] numbered
    (has-none a)) c.number_set.ensures.ok

pub returns-in_ok-after-in_default-clause-posts : goal.returns-in_ok-after-in_default-clause-posts
returns-in_ok-after-in_default-clause-posts c =
    on_ok_weaker c.number_set.result
    (λ numbered. posts-numbered c.args.self.now c.number_set.new.self c.as_slice.result.now numbered c.args.lts.now c.requires.posts) c.number_set.ensures.ok
