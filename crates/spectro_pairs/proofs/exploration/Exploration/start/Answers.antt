-- Each start is reached as a pair.
use Rattle.std.proofs.Common.{◌≡◌, bytes_eq, refl, take_all, [], ◌∷◌, map, sym, ap, ◌∙◌, subst, take, drop, get_or, ◌+◌, arith}
use Rattle.std.proofs.lemmas.List.{map_more}
use Rattle.std.proofs.lemmas.Result.{err_from_is_err_and}
use Rattle.spectro_theory.proofs.Places.{stands-below}
use Rattle.spectro_theory.specs.Reaching.{is_same_pair, with_last}
use Rattle.spectro_pairs.specs.Explored.{start_pair}
use Rattle.spectro_pairs.specs.Interned.{Interned, pair_at}
use Rattle.spectro_pairs.specs.Growth.{HasStarted}
use Rattle.spectro_pairs.proofs.Growths.{past-one, past-whole, started-none, started-numbered, started-one}
use Rattle.spectro_pairs.proofs.Interning.{pair_at-set}
use Rattle.spectro_game.specs.Reached.{StandsAt}
use Rattle.spectro_pairs.proofs.Posts.{posts-kept, posts-numbered}
use Rattle.spectro_pairs.proofs.Sets.{alone}
use Rattle.spectro_pairs.proofs.Turns.{map-whole}
use Rattle.spectro_pairs.proofs.exploration.Exploration.start.Goals as goal
use Rattle.spectro_pairs.proofs.exploration.Exploration.start.Goals.{In_ok-set}

-- with the set of the start numbered, the pair is that of the start
numbered : (c : In_ok-set)
    → HasStarted c.args.self.now (record c.loop-p.self { pairs = c.number_set.new.self }) (map start_pair (take c.loop-p.p-index c.args.starts.now))
numbered c =
    started-numbered c.args.self.now c.loop-p.self c.number_set.new.self
    (with_last bytes_eq c.loop-p.self.pairs.sets ((get_or c.args.starts.now c.loop-p.p-index (0, 0)).1 ∷ []))
    (map start_pair (take c.loop-p.p-index c.args.starts.now)) c.in_ok-set.ensures.ok c.loop-p.invariant.started

pair-is : (c : In_ok-set)
    → let start = get_or c.args.starts.now c.loop-p.p-index (0, 0) in pair_at c.number_set.new.self.sets start.0 c.in_ok-set.set ≡ start_pair start
pair-is c =
    let start = get_or c.args.starts.now c.loop-p.p-index (0, 0) in
    pair_at-set c.number_set.new.self.sets start.0 c.in_ok-set.set (start.1 ∷ []) c.in_ok-set.ensures.number

pub loop-p-init : goal.loop-p-init
loop-p-init c = record { started = started-none c.args.self.now; posts = λ system posts. posts }

pub number_set-requires : goal.number_set-requires
number_set-requires c =
    let within = c.requires.in_range c.loop-p.p-index (0, 0) c.loop-p-test.true in
    alone c.loop-p.self.pairs.states (get_or c.args.starts.now c.loop-p.p-index (0, 0)).1 (omega (arith, within.1, c.loop-p.invariant.started.states))

pub reach-requires-clause-state : goal.reach-requires-clause-state
reach-requires-clause-state c =
    let within = c.requires.in_range c.loop-p.p-index (0, 0) c.loop-p-test.true in
    omega (arith, within.0, c.loop-p.invariant.started.states, ap (λ (p : Interned). p.states) c.in_ok-set.ensures.ok)

pub reach-requires-clause-set : goal.reach-requires-clause-set
reach-requires-clause-set c = stands-below c.number_set.new.self.sets c.in_ok-set.set _ c.in_ok-set.ensures.number

pub returns-in_err-reach-clause-limit : goal.returns-in_err-reach-clause-limit
returns-in_err-reach-clause-limit c =
    let p = err_from_is_err_and c.from_residual-in_err-reach.result c.from_residual-in_err-reach.ensures.1 in
    let a = c.args.self.now in
    let b = c.loop-p.self in
    let set = c.number_set.new.self in
    let start = get_or c.args.starts.now c.loop-p.p-index (0, 0) in
    let has = numbered (goal.at.returns-in_err-reach-clause-limit c).In_ok-set in
    let is = pair-is (goal.at.returns-in_err-reach-clause-limit c).In_ok-set in
    let past = past-one c.in_err-reach.field-0.0 set.limit set.pairs (start_pair start)
    (pair_at set.sets start.0 c.in_ok-set.set) is c.in_err-reach.ensures.limit in
    rw (p.1, p.2)
    (past-whole c.in_err-reach.field-0.0 a (record b { pairs = set }) (map start_pair (take c.loop-p.p-index c.args.starts.now)) (start_pair start ∷ [])
    (map start_pair (drop (c.loop-p.p-index + 1) c.args.starts.now)) (map start_pair c.args.starts.now) has.limit has.pairs past
    (map-whole start_pair c.args.starts.now c.loop-p.p-index (0, 0) c.loop-p-test.true))

pub loop-p-preserved : goal.loop-p-preserved
loop-p-preserved c =
    let a = c.args.self.now in
    let b = c.loop-p.self in
    let set = c.number_set.new.self in
    let start = get_or c.args.starts.now c.loop-p.p-index (0, 0) in
    let done = map start_pair (take c.loop-p.p-index c.args.starts.now) in
    let has = numbered (goal.at.loop-p-preserved c).In_ok-set in
    let is = pair-is (goal.at.loop-p-preserved c).In_ok-set in
    let grown = c.in_ok-reach.ensures.ok ∙ ap (λ x. record set { pairs = with_last is_same_pair set.pairs x }) is in
    record {
      started =
          subst (HasStarted a (record b { pairs = c.reach.new.self })) (sym (map_more start_pair c.args.starts.now c.loop-p.p-index (0, 0) c.loop-p-test.true))
          (started-one a (record b { pairs = set }) c.reach.new.self done (start_pair start) grown has);
      posts = λ system posts.
          posts-kept (record b { pairs = set }) (record b { pairs = c.reach.new.self }) refl
          (λ n other here. subst (λ (p : Interned). StandsAt p.sets n other) (sym c.in_ok-reach.ensures.ok) here) system
          (posts-numbered b set (start.1 ∷ []) c.in_ok-set.ensures.ok system (c.loop-p.invariant.posts system posts));
    }

pub returns-clause-ok : goal.returns-clause-ok
returns-clause-ok c =
    subst (HasStarted c.args.self.now c.loop-p.self)
    (ap (map start_pair) (take_all c.loop-p.p-index c.args.starts.now c.loop-p-test.false)) c.loop-p.invariant.started

pub returns-clause-posts : goal.returns-clause-posts
returns-clause-posts c = c.loop-p.invariant.posts
