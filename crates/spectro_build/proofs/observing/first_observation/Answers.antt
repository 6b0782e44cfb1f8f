-- The loop goes through the observations of the pair in their order, and ends at the first that fits.
use Rattle.std.proofs.Common.{◌≡◌, ◌∙◌, inl, inr, [], length, subst, sym, ap, arith, Some, None}
use Rattle.std.proofs.lemmas.Bool.{cases_lt}
use Rattle.std.proofs.lemmas.List.{length-map}
use Rattle.spectro_energy.specs.Energy.{price_of}
use Rattle.spectro_game.specs.Pairs.{observed}
use Rattle.spectro_game.specs.Reached.{StandsAt}
use Rattle.spectro_game.specs.Rows.{listed_at}
use Rattle.spectro_lts.specs.Labels.{labels_of}
use Rattle.spectro_theory.proofs.Places.{stands-below, stands-one}
use Rattle.spectro_solve.proofs.Listing.{listed-at, pair-holds}
use Rattle.spectro_build.specs.Choices.{Observation, by_observation, observations_of, observation_choice}
use Rattle.spectro_build.specs.Keys.{need_at}
use Rattle.spectro_build.proofs.Searches.{first_made-at, first_made-none, observations-to}
use Rattle.spectro_build.proofs.SeenObservations.{label-is, observation-at, seen-choice}
use Rattle.spectro_build.proofs.observing.first_observation.Goals as goal

pub returns-in-Some-clause-first : goal.returns-in-Some-clause-first
returns-in-Some-clause-first c system weighing starts source x here =
    let pairs = c.args.arena.now.pairs in
    let rows = c.args.table.now.rows in
    let e = price_of c.args.e.parts in
    let seen = c.observation-seen.result in
    let is = observation-at system weighing pairs c.args.k c.loop-i.i seen.label seen.pair seen.weight x
    (c.observation-seen.ensures.observation system weighing starts source) here in
    let row = listed-at system weighing starts c.args.arena.now source rows seen.pair is.seen.to [] is.to
    (omega (arith, stands-below pairs seen.pair is.seen.to is.to, c.requires.rows)) in
    let made = seen-choice system weighing pairs rows x c.loop-i.i seen.label seen.pair seen.weight e is row (Some c.in-Some.next) c.in-Some.ensures.value in
    first_made-at (observation_choice weighing (listed_at pairs rows) e) (observations_of system x) c.loop-i.i is.seen
    (by_observation is.seen.label (need_at pairs rows c.in-Some.next)) (c.loop-i.invariant system weighing starts source x here) is.stands made
    ∙ ap (λ label. Some (by_observation label (need_at pairs rows c.in-Some.next))) (sym (label-is system seen.label is.seen.label is.numbered))

pub returns-in-Some-clause-label : goal.returns-in-Some-clause-label
returns-in-Some-clause-label c system weighing starts source =
    let is = c.observation-seen.ensures.observation system weighing starts source in
    stands-below (labels_of system.steps) c.observation-seen.result.label is.label is.numbered

pub loop-i-preserved : goal.loop-i-preserved
loop-i-preserved c system weighing starts source x here j o before there = elim (cases_lt j c.loop-i.i) [
  | inl earlier ↦ c.loop-i.invariant system weighing starts source x here j o earlier there
  | inr now ↦
      let pairs = c.args.arena.now.pairs in
      let rows = c.args.table.now.rows in
      let e = price_of c.args.e.parts in
      let seen = c.observation-seen.result in
      let is = observation-at system weighing pairs c.args.k c.loop-i.i seen.label seen.pair seen.weight x
      (c.observation-seen.ensures.observation system weighing starts source) here in
      let row = listed-at system weighing starts c.args.arena.now source rows seen.pair is.seen.to [] is.to
      (omega (arith, stands-below pairs seen.pair is.seen.to is.to, c.requires.rows)) in
      let same : j ≡ c.loop-i.i = omega arith in
      let one = stands-one (observations_of system x) c.loop-i.i is.seen o is.stands (subst (λ n. StandsAt (observations_of system x) n o) same there) in
      subst (λ z. observation_choice weighing (listed_at pairs rows) e z ≡ None) one
      (seen-choice system weighing pairs rows x c.loop-i.i seen.label seen.pair seen.weight e is row None c.in_default.ensures.value)
]

pub returns-clause-first : goal.returns-clause-first
returns-clause-first c system weighing starts source x here =
    first_made-none (observation_choice weighing (listed_at c.args.arena.now.pairs c.args.table.now.rows) (price_of c.args.e.parts)) (observations_of system x)
    (λ j o there.
    let below = stands-below (observations_of system x) j o there in
    let count = pair-holds c.args.arena.now.pairs c.args.k (λ y. c.observation_count-i-end.result ≡ length (observed system y))
    (c.observation_count-i-end.ensures.count system weighing starts source) x here in
    let long = sym (length-map (observations_of system x) (λ (z : Observation). z.to)) ∙ ap length (observations-to system x) in
    c.loop-i.invariant system weighing starts source x here j o (omega (arith, below, count, long, c.loop-i-test.false)) there)
