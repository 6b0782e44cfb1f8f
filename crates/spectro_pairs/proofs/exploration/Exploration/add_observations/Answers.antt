-- What is observed under the labels of the state, one after the other, is all that is observed.
use Rattle.std.proofs.Common.{ℕ, ◌≡◌, List, Some, [], ◌∷◌, map, slice_get, option_map, sym, ap, ◌∙◌, subst, take, drop, get_or, ◌+◌}
use Rattle.std.specs.List.{flat_map}
use Rattle.std.proofs.lemmas.List.{take_all}
use Rattle.std.proofs.lemmas.List.Folds.{flat_map-map}
use Rattle.std.proofs.lemmas.Option.{slice_get-get_or, slice_get-map}
use Rattle.std.proofs.lemmas.Result.{err_from_is_err_and}
use Rattle.spectro_spec.specs.System.{Label, post}
use Rattle.spectro_game.specs.Pairs.{observed, observed_under}
use Rattle.spectro_theory.proofs.Places.{stands-below}
use Rattle.spectro_lts.specs.Labels.{labels_of, label_of}
use Rattle.spectro_pairs.specs.Explored.{observed_labels}
use Rattle.spectro_pairs.specs.Growth.{HasReached, IsPastWith, Name, observed_with, pair_of}
use Rattle.spectro_pairs.specs.Interned.{pair_at}
use Rattle.spectro_pairs.proofs.Growths.{has-next, has-none, has-still, past-whole}
use Rattle.spectro_pairs.proofs.Interning.{pair_at-set}
use Rattle.spectro_pairs.proofs.Turns.{flat_map-more, flat_map-whole, name-observed}
use Rattle.spectro_pairs.proofs.exploration.Exploration.add_observations.Goals as goal
use Rattle.spectro_pairs.proofs.exploration.Exploration.add_observations.Goals.{After-labels_of-no-items, After-successors_at}

-- label by label, all that is observed
all-observed : (c : After-labels_of-no-items)
    → flat_map (observed_with c.args.lts.now c.args.state c.args.set.now) c.labels_of-no-items.result.now ≡ observed c.args.lts.now
    (pair_of c.args.state c.args.set.now)
all-observed c =
    let under = observed_under c.args.lts.now (pair_of c.args.state c.args.set.now) in
    sym (flat_map-map under (label_of c.args.lts.now.steps) c.labels_of-no-items.result.now) ∙ ap (flat_map under) c.labels_of-no-items.ensures.labels

-- the targets are those under the label, and the pairs by the number of the set are what is observed
targets-under : (c : After-successors_at)
    → c.successors_at.result.now ≡ post c.args.lts.now (c.args.state ∷ []) (label_of c.args.lts.now.steps (get_or c.labels_of-no-items.result.now c.loop-i.i 0))
targets-under c =
    let nos = c.labels_of-no-items.result.now in
    let named = label_of c.args.lts.now.steps in
    c.successors_at.ensures.value (named (get_or nos c.loop-i.i 0))
    (subst (λ labels. slice_get labels c.loop-i.i ≡ Some (named (get_or nos c.loop-i.i 0))) c.labels_of-no-items.ensures.labels
    (slice_get-map named nos c.loop-i.i ∙ ap (option_map named) (slice_get-get_or nos c.loop-i.i 0 c.loop-i-test.true)))

pairs-under : (c : After-successors_at)
    → map (λ t. pair_at c.number_post.new.self.pairs.sets t c.in_ok-after.after) c.successors_at.result.now
    ≡ observed_with c.args.lts.now c.args.state c.args.set.now (get_or c.labels_of-no-items.result.now c.loop-i.i 0)
pairs-under c =
    let after = post c.args.lts.now c.args.set.now (label_of c.args.lts.now.steps (get_or c.labels_of-no-items.result.now c.loop-i.i 0)) in
    ap (map (λ t. pair_at c.number_post.new.self.pairs.sets t c.in_ok-after.after)) (targets-under c)
    ∙ ap (λ f. map f (post c.args.lts.now (c.args.state ∷ []) (label_of c.args.lts.now.steps (get_or c.labels_of-no-items.result.now c.loop-i.i 0))))
    (λ i t. pair_at-set c.number_post.new.self.pairs.sets t c.in_ok-after.after after c.in_ok-after.ensures.number i)

pub loop-i-init : goal.loop-i-init
loop-i-init c = record { reached = has-none c.args.self.now; posts = c.requires.posts }

pub add_observed-requires-clause-set : goal.add_observed-requires-clause-set
add_observed-requires-clause-set c = stands-below c.number_post.new.self.pairs.sets c.in_ok-after.after _ c.in_ok-after.ensures.number

pub returns-in_err-add_observed-clause-limit : goal.returns-in_err-add_observed-clause-limit
returns-in_err-add_observed-clause-limit c =
    let p = err_from_is_err_and c.from_residual-in_err-add_observed.result c.from_residual-in_err-add_observed.ensures.1 in
    let e = c.in_err-add_observed.field-0.0 in
    let a = c.args.self.now in
    let b = c.number_post.new.self in
    let made = observed_with c.args.lts.now c.args.state c.args.set.now in
    let nos = c.labels_of-no-items.result.now in
    let whole = all-observed (goal.at.returns-in_err-add_observed-clause-limit c).After-labels_of-no-items in
    let under = pairs-under (goal.at.returns-in_err-add_observed-clause-limit c).After-successors_at in
    let has = has-still a c.loop-i.self b (flat_map made (take c.loop-i.i nos)) _ c.loop-i.invariant.reached c.in_ok-after.ensures.ok in
    rw (p.1, p.2)
    (past-whole e a b (flat_map made (take c.loop-i.i nos)) (made (get_or nos c.loop-i.i 0)) (flat_map made (drop (c.loop-i.i + 1) nos))
    (observed c.args.lts.now (pair_of c.args.state c.args.set.now)) has.limit has.pairs (subst (IsPastWith e b) under c.in_err-add_observed.ensures.limit)
    (sym whole ∙ flat_map-whole made nos c.loop-i.i 0 c.loop-i-test.true))

pub loop-i-preserved : goal.loop-i-preserved
loop-i-preserved c =
    let a = c.args.self.now in
    let b = c.number_post.new.self in
    let d = c.add_observed.new.self in
    let made = observed_with c.args.lts.now c.args.state c.args.set.now in
    let told = λ (label_no : ℕ). map {A = ℕ} {B = ℕ} (λ t. label_no) (post c.args.lts.now (c.args.state ∷ []) (label_of c.args.lts.now.steps label_no)) in
    let nos = c.labels_of-no-items.result.now in
    let no = get_or nos c.loop-i.i 0 in
    let at = (goal.at.loop-i-preserved c).After-successors_at in
    let added = subst (λ (targets : List ℕ). HasReached b d (made no) (map {A = ℕ} {B = ℕ} (λ t. no) targets)) (targets-under at)
    (subst (λ pairs. HasReached b d pairs (map {A = ℕ} {B = ℕ} (λ t. no) c.successors_at.result.now)) (pairs-under at) c.in_ok-add_observed.ensures.ok) in
    record {
      reached =
          has-next a b d (flat_map made (take c.loop-i.i nos)) (made no) (flat_map made (take (c.loop-i.i + 1) nos))
          (flat_map told (take c.loop-i.i nos)) (told no) (flat_map told (take (c.loop-i.i + 1) nos))
          (has-still a c.loop-i.self b (flat_map made (take c.loop-i.i nos))
          (flat_map told (take c.loop-i.i nos)) c.loop-i.invariant.reached c.in_ok-after.ensures.ok) added
          (flat_map-more made nos c.loop-i.i 0 c.loop-i-test.true) (flat_map-more told nos c.loop-i.i 0 c.loop-i-test.true);
      posts = c.in_ok-add_observed.ensures.posts c.args.lts.now c.in_ok-after.ensures.posts;
    }

pub returns-clause-ok : goal.returns-clause-ok
unfolding observed_labels
returns-clause-ok c =
    let targets = λ (label : Label). post c.args.lts.now (c.args.state ∷ []) label in
    let made = observed_with c.args.lts.now c.args.state c.args.set.now in
    let told = λ (label_no : ℕ). map {A = ℕ} {B = ℕ} (λ t. label_no) (targets (label_of c.args.lts.now.steps label_no)) in
    let nos = c.labels_of-no-items.result.now in
    let all = take_all c.loop-i.i nos c.loop-i-test.false in
    let whole = all-observed (goal.at.returns-clause-ok c).After-labels_of-no-items in
    record {
      label_nos = flat_map told nos;
      reached =
          subst (λ l. HasReached c.args.self.now c.loop-i.self l (flat_map told nos)) whole
          (subst (λ (l : List ℕ). HasReached c.args.self.now c.loop-i.self (flat_map made l) (flat_map told l)) all c.loop-i.invariant.reached);
      labelled =
          subst (λ (l : List Label). Name (labels_of c.args.lts.now.steps) (flat_map told nos)
          (flat_map (λ label. map (λ t. label) (targets label)) l)) c.labels_of-no-items.ensures.labels
          (name-observed (labels_of c.args.lts.now.steps) targets nos c.labels_of-no-items.ensures.in_range);
    }
