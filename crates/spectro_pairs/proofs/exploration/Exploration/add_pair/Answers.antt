-- The set is numbered, and then the pair is reached.
use Rattle.std.proofs.Common.{◌≡◌, [], ◌∷◌, bytes_eq, ap, subst, arith, refl, IfOk}
use Rattle.std.proofs.lemmas.Result.{IfErr-weaker, on_ok_weaker}
use Rattle.spectro_game.specs.Reached.{StandsAt}
use Rattle.spectro_theory.specs.Reaching.{with_last}
use Rattle.spectro_theory.proofs.Places.{stands-below}
use Rattle.spectro_pairs.specs.Interned.{Interned, pair_at}
use Rattle.spectro_pairs.specs.Growth.{HasReached, IsPastWith, pair_of}
use Rattle.spectro_pairs.proofs.Growths.{has-next, has-none, has-numbered, past-whole}
use Rattle.spectro_pairs.proofs.Interning.{pair_at-set}
use Rattle.spectro_pairs.proofs.Posts.{posts-numbered}
use Rattle.spectro_pairs.proofs.exploration.Exploration.add_pair.Goals as goal
use Rattle.spectro_pairs.proofs.exploration.Exploration.add_pair.Goals.{In_ok-set_no}

-- nothing is reached by numbering the set
numbered : (c : In_ok-set_no) → HasReached c.args.self.now (record c.args.self.now { pairs = c.number_set.new.self }) [] []
numbered c =
    has-numbered c.args.self.now c.args.self.now c.number_set.new.self
    (with_last bytes_eq c.args.self.now.pairs.sets c.args.set.now) [] [] c.in_ok-set_no.ensures.ok (has-none c.args.self.now)

pair-is : (c : In_ok-set_no) → pair_at c.number_set.new.self.sets c.args.state c.in_ok-set_no.set_no ≡ pair_of c.args.state c.args.set.now
pair-is c = pair_at-set c.number_set.new.self.sets c.args.state c.in_ok-set_no.set_no c.args.set.now c.in_ok-set_no.ensures.number

pub add-requires-clause-state : goal.add-requires-clause-state
add-requires-clause-state c = omega (arith, c.requires.state, ap (λ (p : Interned). p.states) c.in_ok-set_no.ensures.ok)

pub add-requires-clause-set : goal.add-requires-clause-set
add-requires-clause-set c = stands-below c.number_set.new.self.sets c.in_ok-set_no.set_no _ c.in_ok-set_no.ensures.number

pub returns-clause-limit : goal.returns-clause-limit
returns-clause-limit c =
    let a = c.args.self.now in
    let b = record a { pairs = c.number_set.new.self } in
    let x = pair_of c.args.state c.args.set.now in
    let added = pair_at c.number_set.new.self.sets c.args.state c.in_ok-set_no.set_no in
    let has = numbered (goal.at.returns-clause-limit c).In_ok-set_no in
    let is = pair-is (goal.at.returns-clause-limit c).In_ok-set_no in
    IfErr-weaker c.add.result (λ e. IsPastWith e b (added ∷ [])) (λ e. IsPastWith e a (x ∷ []))
    (λ e past. past-whole e a b [] (x ∷ []) [] (x ∷ []) has.limit has.pairs (subst (λ y. IsPastWith e b (y ∷ [])) is past) refl) c.add.ensures.limit

pub returns-clause-ok : goal.returns-clause-ok
returns-clause-ok c =
    let a = c.args.self.now in
    let b = record a { pairs = c.number_set.new.self } in
    let x = pair_of c.args.state c.args.set.now in
    let has = numbered (goal.at.returns-clause-ok c).In_ok-set_no in
    let is = pair-is (goal.at.returns-clause-ok c).In_ok-set_no in
    on_ok_weaker c.add.result
    (λ added. has-next a b c.add.new.self [] (x ∷ []) (x ∷ []) [] [] [] has (subst (λ y. HasReached b c.add.new.self (y ∷ []) []) is added) refl refl)
    c.add.ensures.ok

pub returns-clause-number : goal.returns-clause-number
returns-clause-number c =
    subst (λ y. IfOk c.add.result (λ k. StandsAt c.add.new.self.pairs.pairs k y)) (pair-is (goal.at.returns-clause-number c).In_ok-set_no)
    c.add.ensures.number

pub returns-clause-posts : goal.returns-clause-posts
returns-clause-posts c =
    on_ok_weaker c.add.result
    (λ kept system posts. kept system
    (posts-numbered c.args.self.now c.number_set.new.self c.args.set.now c.in_ok-set_no.ensures.ok system posts))
    c.add.ensures.posts
