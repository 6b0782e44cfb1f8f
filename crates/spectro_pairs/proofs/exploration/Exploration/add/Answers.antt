-- The pair is reached, and its number goes behind the open row.
use Rattle.std.proofs.lemmas.Result.{err_from_is_err_and}
use Rattle.std.proofs.Common.{refl, sym, subst}
use Rattle.spectro_game.specs.Pairs.{size}
use Rattle.spectro_theory.specs.Reaching.{is_same_pair}
use Rattle.spectro_theory.proofs.PutLast.{with_all-one}
use Rattle.spectro_game.specs.Reached.{StandsAt}
use Rattle.spectro_pairs.specs.Interned.{Interned, pair_at}
use Rattle.spectro_pairs.specs.Limits.{IsPastLimit}
use Rattle.spectro_pairs.proofs.Growths.{has-one}
use Rattle.spectro_pairs.proofs.Posts.{posts-kept}
use Rattle.spectro_pairs.proofs.exploration.Exploration.add.Goals as goal

pub returns-in_err-k-clause-limit : goal.returns-in_err-k-clause-limit
returns-in_err-k-clause-limit c =
    let p = err_from_is_err_and c.from_residual.result c.from_residual.ensures.1 in
    let a = c.args.self.now in
    rw (p.1, p.2)
    (subst (λ l. IsPastLimit c.in_err-k.field-0.0 a.pairs.limit (size l))
    (sym (with_all-one is_same_pair a.pairs.pairs (pair_at a.pairs.sets c.args.state c.args.set))) c.in_err-k.ensures.limit)

pub returns-clause-ok : goal.returns-clause-ok
returns-clause-ok c =
    has-one c.args.self.now c.reach.new.self c.push.new.self c.in_ok-k.k (pair_at c.args.self.now.pairs.sets c.args.state c.args.set)
    c.in_ok-k.ensures.ok c.in_ok-k.ensures.number c.in_ok-push.ensures.ok

pub returns-clause-posts : goal.returns-clause-posts
returns-clause-posts c =
    posts-kept c.args.self.now (record c.args.self.now { pairs = c.reach.new.self; followers = c.push.new.self }) refl
    (λ n set here. subst (λ (p : Interned). StandsAt p.sets n set) (sym c.in_ok-k.ensures.ok) here)
