-- The loop expands each pair once, and ends where no more are found.
use Rattle.std.proofs.Common.{ℕ, ◌≡◌, ◌<◌, length, ap, subst, ◌∙◌, arith}
use Rattle.std.proofs.lemmas.Result.{err_from_is_err_and}
use Rattle.spectro_rows.specs.Rows.{RowList}
use Rattle.spectro_pairs.specs.Arenas.{IsLeastWeight}
use Rattle.spectro_pairs.specs.Interned.{Interned}
use Rattle.spectro_pairs.proofs.Exploring.{expanded-longer, explored-all, explored-more, explored-none, pairs-some, past-followers, past-starts, places-below, rows-all}
use Rattle.spectro_pairs.proofs.reaching.explore.Goals as goal
use Rattle.spectro_pairs.proofs.reaching.explore.Goals.{After-loop-k}

-- the loop ends behind the last pair
explored_all : (c : After-loop-k) → c.loop-k.k ≡ length c.loop-k.exploration.pairs.pairs
explored_all c = omega (arith, c.loop-k.invariant.within, c.loop-k-test.false, c.len.ensures.value)

pub returns-in_err-start-clause-limit : goal.returns-in_err-start-clause-limit
returns-in_err-start-clause-limit c =
    let p = err_from_is_err_and c.from_residual-in_err-start.result c.from_residual-in_err-start.ensures.1 in
    rw (p.1, p.2)
    (past-starts c.args.lts.now c.args.starts.now c.in_err-start.field-0.0 c.args.limit c.args.lts.now.states c.new-exploration.result
    c.new-exploration.ensures.pairs c.in_err-start.ensures.limit)

pub loop-k-init : goal.loop-k-init
loop-k-init c =
    record {
      explored =
          explored-none c.args.lts.now c.args.starts.now c.new-exploration.result c.start.new.self c.args.limit c.new-exploration.ensures.pairs
          c.new-exploration.ensures.followers c.new-exploration.ensures.labels
          c.in_ok-start.ensures.ok (c.in_ok-start.ensures.posts c.args.lts.now c.new-exploration.ensures.posts) c.new-exploration.ensures.lattices;
      within = omega arith;
      limit = c.in_ok-start.ensures.ok.limit ∙ ap (λ (p : Interned). p.limit) c.new-exploration.ensures.pairs;
    }

pub expand-requires-clause-states : goal.expand-requires-clause-states
expand-requires-clause-states c = c.loop-k.invariant.explored.states

pub expand-requires-clause-posts : goal.expand-requires-clause-posts
expand-requires-clause-posts c = c.loop-k.invariant.explored.posts

pub expand-requires-clause-closed : goal.expand-requires-clause-closed
expand-requires-clause-closed c = (c.loop-k.invariant.explored.followers_closed, c.loop-k.invariant.explored.labels_closed)

pub returns-in_err-expand-clause-limit : goal.returns-in_err-expand-clause-limit
returns-in_err-expand-clause-limit c =
    let p = err_from_is_err_and c.from_residual-in_err-expand.result c.from_residual-in_err-expand.ensures.1 in
    rw (p.1, p.2)
    (past-followers c.args.lts.now c.args.starts.now c.in_err-expand.field-0.0 c.args.limit c.loop-k.exploration c.loop-k.k c.loop-k.invariant.limit
    c.loop-k.invariant.explored
    c.in_err-expand.ensures.limit)

pub loop-k-smaller : goal.loop-k-smaller
loop-k-smaller c =
    let below : c.loop-k.k < c.len.result = c.loop-k-test.true in
    let half = c.len.ensures.half in
    let limit : c.loop-k.exploration.pairs.limit ≡ c.args.limit = c.loop-k.invariant.limit in
    omega arith

pub loop-k-preserved : goal.loop-k-preserved
loop-k-preserved c =
    let has = c.in_ok-expand.ensures.ok in
    let longer = expanded-longer c.args.lts.now c.args.starts.now c.loop-k.exploration c.expand.new.self c.loop-k.k has in
    record {
      explored = explored-more c.args.lts.now c.args.starts.now c.loop-k.exploration c.expand.new.self c.loop-k.k c.loop-k.invariant.explored has
          c.in_ok-expand.ensures.posts;
      within = omega (arith, longer, c.loop-k-test.true, c.len.ensures.value);
      limit = has.limit ∙ c.loop-k.invariant.limit;
    }

pub turn-requires-clause-few : goal.turn-requires-clause-few
turn-requires-clause-few c =
    let all = explored_all (goal.at.turn-requires-clause-few c).After-loop-k in
    let rows = rows-all c.args.lts.now c.args.starts.now c.loop-k.exploration c.loop-k.k c.loop-k.invariant.explored all in
    omega (arith, rows, c.len.ensures.value, c.len.ensures.half, c.len.ensures.bound)

pub turn-requires-clause-places : goal.turn-requires-clause-places
turn-requires-clause-places c =
    let all = explored_all (goal.at.turn-requires-clause-places c).After-loop-k in
    places-below c.args.lts.now c.args.starts.now c.loop-k.exploration c.loop-k.k c.loop-k.invariant.explored all

pub invariant_of-result : goal.invariant_of-result
invariant_of-result c =
    let all = explored_all (goal.at.invariant_of-result c).After-loop-k in
    record {
      some = pairs-some c.args.lts.now c.args.starts.now c.loop-k.exploration c.loop-k.k c.loop-k.invariant.explored all c.requires.some;
      system = c.args.lts.now;
      weighing = c.args.weights.now;
      starts = c.args.starts.now;
      source = explored-all c.args.lts.now c.args.starts.now c.loop-k.exploration c.loop-k.k c.loop-k.invariant.explored all c.args.weights.now
          c.in_ok-weights.weights.items c.len.ensures.within c.in_ok-weights.ensures.bytes c.in_ok-weights.ensures.proper;
      bound = omega (arith, c.step_count.ensures.value, c.step_count.ensures.bound);
      low = subst (λ weights. IsLeastWeight weights c.least_of-least.result) c.deref.ensures.value c.least_of-least.ensures;
      preds = ap (λ (r : RowList ℕ). r.rows) c.in_ok-preds.ensures;
    }

pub returns-clause-explored : goal.returns-clause-explored
returns-clause-explored c =
    let all = explored_all (goal.at.returns-clause-explored c).After-loop-k in
    explored-all c.args.lts.now c.args.starts.now c.loop-k.exploration c.loop-k.k c.loop-k.invariant.explored all c.args.weights.now
    c.in_ok-weights.weights.items c.len.ensures.within c.in_ok-weights.ensures.bytes c.in_ok-weights.ensures.proper

pub expand-requires-clause-lattices : goal.expand-requires-clause-lattices
expand-requires-clause-lattices c = c.loop-k.invariant.explored.lattices
