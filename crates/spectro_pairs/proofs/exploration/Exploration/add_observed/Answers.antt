-- Each target is reached against the set, and the label is put down for it.
use Rattle.std.proofs.Common.{ℕ, List, [], ◌∷◌, map, refl, ◌∙◌, subst, take, drop, get_or, ◌+◌, arith}
use Rattle.std.proofs.lemmas.List.{map_more, take_all}
use Rattle.std.proofs.lemmas.Result.{err_from_is_err_and}
use Rattle.spectro_pairs.specs.Growth.{HasReached, IsPastWith}
use Rattle.spectro_pairs.specs.Interned.{pair_at}
use Rattle.spectro_pairs.proofs.Growths.{has-labelled, has-next, has-none, past-whole}
use Rattle.spectro_pairs.proofs.Posts.{posts-kept}
use Rattle.spectro_pairs.proofs.Turns.{map-whole}
use Rattle.spectro_pairs.proofs.exploration.Exploration.add_observed.Goals as goal

pub loop-t-init : goal.loop-t-init
loop-t-init c = record { sets = refl; reached = has-none c.args.self.now; posts = λ system posts. posts }

pub add-requires-clause-state : goal.add-requires-clause-state
add-requires-clause-state c =
    let below = c.requires.targets c.loop-t.t-index 0 c.loop-t-test.true in
    omega (arith, below, c.loop-t.invariant.reached.states)

pub add-requires-clause-set : goal.add-requires-clause-set
add-requires-clause-set c = rw c.loop-t.invariant.sets c.requires.set

pub returns-in_err-add-clause-limit : goal.returns-in_err-add-clause-limit
returns-in_err-add-clause-limit c =
    let p = err_from_is_err_and c.from_residual.result c.from_residual.ensures.1 in
    let a = c.args.self.now in
    let b = c.loop-t.self in
    let made = λ (t : ℕ). pair_at a.pairs.sets t c.args.set in
    let targets = c.args.targets.now in
    let t = get_or targets c.loop-t.t-index 0 in
    let past = subst (λ sets. IsPastWith c.in_err-add.field-0.0 b (pair_at sets t c.args.set ∷ [])) c.loop-t.invariant.sets c.in_err-add.ensures.limit in
    rw (p.1, p.2)
    (past-whole c.in_err-add.field-0.0 a b (map made (take c.loop-t.t-index targets)) (made t ∷ []) (map made (drop (c.loop-t.t-index + 1) targets))
    (map made targets) c.loop-t.invariant.reached.limit c.loop-t.invariant.reached.pairs past (map-whole made targets c.loop-t.t-index 0 c.loop-t-test.true))

pub loop-t-preserved : goal.loop-t-preserved
loop-t-preserved c =
    let a = c.args.self.now in
    let b = c.loop-t.self in
    let grown = c.add.new.self in
    let made = λ (t : ℕ). pair_at a.pairs.sets t c.args.set in
    let told = λ (t : ℕ). c.args.no in
    let targets = c.args.targets.now in
    let t = get_or targets c.loop-t.t-index 0 in
    let added = subst (λ sets. HasReached b grown (pair_at sets t c.args.set ∷ []) []) c.loop-t.invariant.sets c.in_ok-add.ensures.ok in
    record {
      sets = c.in_ok-add.ensures.sets ∙ c.loop-t.invariant.sets;
      reached =
          has-next a b (record grown { labels = c.push.new.self }) (map made (take c.loop-t.t-index targets)) (made t ∷ [])
          (map made (take (c.loop-t.t-index + 1) targets))
          (map told (take c.loop-t.t-index targets)) (c.args.no ∷ []) (map told (take (c.loop-t.t-index + 1) targets)) c.loop-t.invariant.reached
          (has-labelled b grown c.push.new.self (made t ∷ []) [] (c.args.no ∷ []) c.in_ok-push.ensures.ok added)
          (map_more made targets c.loop-t.t-index 0 c.loop-t-test.true) (map_more told targets c.loop-t.t-index 0 c.loop-t-test.true);
      posts = λ system posts. posts-kept grown (record grown { labels = c.push.new.self }) refl (λ n set here. here) system
          (c.in_ok-add.ensures.posts system (c.loop-t.invariant.posts system posts));
    }

pub returns-clause-ok : goal.returns-clause-ok
returns-clause-ok c =
    let made = λ (t : ℕ). pair_at c.args.self.now.pairs.sets t c.args.set in
    let all = take_all c.loop-t.t-index c.args.targets.now c.loop-t-test.false in
    subst (λ (l : List ℕ). HasReached c.args.self.now c.loop-t.self (map made l) (map {A = ℕ} {B = ℕ} (λ t. c.args.no) l)) all c.loop-t.invariant.reached
