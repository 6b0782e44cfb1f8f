-- Each member other than the state is reached against the state alone.
use Rattle.std.proofs.Common.{[], ◌∷◌, ◌++◌, sym, ap, ◌∙◌, subst, take, drop, get_or, ◌+◌, arith, append-nil, refl}
use Rattle.std.proofs.lemmas.List.{take_all}
use Rattle.std.proofs.lemmas.Result.{err_from_is_err_and}
use Rattle.spectro_pairs.specs.Growth.{ArePosts, HasReached, pair_of}
use Rattle.spectro_pairs.proofs.Growths.{has-next, has-none, past-whole}
use Rattle.spectro_pairs.proofs.Sets.{alone}
use Rattle.spectro_pairs.proofs.Turns.{made-more, made-whole, swaps_with, swaps-append, swaps-other, swaps-own}
use Rattle.spectro_pairs.proofs.exploration.Exploration.add_swaps.Goals as goal
use Rattle.spectro_pairs.proofs.exploration.Exploration.add_swaps.Goals.{then-q-state+in_ok-add_pair, else-q-state}

pub loop-q-init : goal.loop-q-init
loop-q-init c = record { reached = has-none c.args.self.now; posts = λ system posts. posts }

pub add_pair-requires-clause-state : goal.add_pair-requires-clause-state
add_pair-requires-clause-state c = omega (arith, c.requires.set.in_range c.loop-q.q-index 0 c.loop-q-test.true, c.loop-q.invariant.reached.states)

pub add_pair-requires-clause-set : goal.add_pair-requires-clause-set
add_pair-requires-clause-set c = alone c.loop-q.self.pairs.states c.args.state (omega (arith, c.requires.state, c.loop-q.invariant.reached.states))

pub returns-in_err-add_pair-clause-limit : goal.returns-in_err-add_pair-clause-limit
returns-in_err-add_pair-clause-limit c =
    let p = err_from_is_err_and c.from_residual.result c.from_residual.ensures.1 in
    let b = c.loop-q.self in
    let state = c.args.state in
    let set = c.args.set.now in
    let i = c.loop-q.q-index in
    let q = get_or set i 0 in
    rw (p.1, p.2)
    (past-whole c.in_err-add_pair.field-0.0 c.args.self.now b (swaps_with state (take i set)) (pair_of q (state ∷ []) ∷ [])
    (swaps_with state (drop (i + 1) set)) (swaps_with state set)
    c.loop-q.invariant.reached.limit c.loop-q.invariant.reached.pairs c.in_err-add_pair.ensures.limit
    (made-whole (swaps_with state) (swaps-append state) set i 0 c.loop-q-test.true
    ∙ ap (λ l. (swaps_with state (take i set) ++ l) ++ swaps_with state (drop (i + 1) set)) (swaps-other state q c.if-q-state.true)))

pub loop-q-preserved : goal.loop-q-preserved
loop-q-preserved c =
    let a = c.args.self.now in
    let b = c.loop-q.self in
    let state = c.args.state in
    let set = c.args.set.now in
    let i = c.loop-q.q-index in
    let q = get_or set i 0 in
    let more = made-more (swaps_with state) (swaps-append state) set i 0 c.loop-q-test.true in
    elim c.if-q-state.branch [
      | then-q-state+in_ok-add_pair w ↦ record {
        reached =
            subst (λ e. HasReached a e (swaps_with state (take (i + 1) set)) []) (sym w.self-is)
            (has-next a b w.add_pair.new.self (swaps_with state (take i set)) (pair_of q (state ∷ []) ∷ [])
            (swaps_with state (take (i + 1) set)) [] [] [] c.loop-q.invariant.reached w.in_ok-add_pair.ensures.ok
            (more ∙ ap (λ l. swaps_with state (take i set) ++ l) (swaps-other state q w.if-q-state.true)) refl);
        posts = λ system posts. subst (ArePosts system) (sym w.self-is) (w.in_ok-add_pair.ensures.posts system (c.loop-q.invariant.posts system posts));
      }
      | else-q-state w ↦ record {
        reached =
            subst (λ e. HasReached a e (swaps_with state (take (i + 1) set)) []) (sym w.self-is)
            (subst (λ l. HasReached a b l [])
            (sym (more ∙ ap (λ l. swaps_with state (take i set) ++ l) (swaps-own state q w.if-q-state.false) ∙ append-nil (swaps_with state (take i set))))
            c.loop-q.invariant.reached);
        posts = λ system posts. subst (ArePosts system) (sym w.self-is) (c.loop-q.invariant.posts system posts);
      }
    ]

pub returns-clause-ok : goal.returns-clause-ok
returns-clause-ok c =
    subst (λ l. HasReached c.args.self.now c.loop-q.self (swaps_with c.args.state l) [])
    (take_all c.loop-q.q-index c.args.set.now c.loop-q-test.false) c.loop-q.invariant.reached

pub returns-clause-posts : goal.returns-clause-posts
returns-clause-posts c = c.loop-q.invariant.posts
