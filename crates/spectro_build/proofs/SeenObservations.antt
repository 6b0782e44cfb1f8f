-- What an arena tells of an observation, as an observation of the pair.
use Rattle.std.proofs.Common.{◌≡◌, ◌∙◌, ℕ, List, [], map, sym, ap, subst, refl, Option, None, Some}
use Rattle.std.specs.List.{position}
use Rattle.std.specs.Option.{option_map}
use Rattle.std.proofs.lemmas.Option.{get_or_from_slice_get}
use Rattle.spectro_spec.specs.System.{System}
use Rattle.spectro_spec.specs.Weighing.{Weighing, weight_of}
use Rattle.spectro_spec.specs.Price.{Price}
use Rattle.spectro_game.specs.Update.{inverse, observe}
use Rattle.spectro_game.specs.MinimalElements.{is_at_most}
use Rattle.spectro_game.specs.Pairs.{Pair, observed}
use Rattle.spectro_game.specs.Reached.{StandsAt}
use Rattle.spectro_game.specs.Rows.{listed_at}
use Rattle.spectro_lts.specs.Labels.{labels_of}
use Rattle.spectro_rows.specs.Rows.{row_at}
use Rattle.spectro_pairs.specs.Arenas.{IsObservation}
use Rattle.spectro_pairs.specs.Explored.{observed_labels}
use Rattle.spectro_theory.proofs.Places.{stands-below, stands-one}
use Rattle.spectro_build.specs.Choices.{by_observation, Observation, observations_of, first_fitting, observation_choice}
use Rattle.spectro_build.specs.Chosen.{label_of}
use Rattle.spectro_build.specs.Keys.{key_at, need_at}
use Rattle.spectro_build.specs.declared.key.Key.{Key}
use Rattle.spectro_build.proofs.Fittings.{fitting-at}
use Rattle.spectro_build.proofs.Searches.{observations-to, observations-labels}
use Rattle.spectro_build.proofs.SplitPairs.{stands-map_cases}

-- the observation at a place: its pair, its label and its weight are those that the arena tells
pub record IsSeen (system : System) (weighing : Weighing) (pairs : List Pair) (x : Pair) (i label_no pair weight : ℕ) : Type 0 where
  pub seen : Observation
  pub stands : StandsAt (observations_of system x) i seen
  pub to : StandsAt pairs pair seen.to
  pub numbered : StandsAt (labels_of system.steps) label_no seen.label
  pub weighed : weight ≡ weight_of weighing seen.label

pub observation-at : (system : System) (weighing : Weighing) (pairs : List Pair) (k i label_no pair weight : ℕ) (x : Pair)
    → IsObservation system weighing pairs k i label_no pair weight → StandsAt pairs k x → IsSeen system weighing pairs x i label_no pair weight
unfolding observed_labels
observation-at system weighing pairs k i label_no pair weight x is here =
    let same : is.from ≡ x = stands-one pairs k is.from x is.here here in
    let to : StandsAt (map (λ (o : Observation). o.to) (observations_of system x)) i is.to =
    subst (λ ys. StandsAt ys i is.to) (ap (observed system) same ∙ sym (observations-to system x)) is.follows in
    let (o, stands, first) = stands-map_cases (λ (o : Observation). o.to) (observations_of system x) i is.to to in
    let label : StandsAt (map (λ (o : Observation). o.label) (observations_of system x)) i is.label =
    subst (λ ys. StandsAt ys i is.label) (ap (observed_labels system) same ∙ sym (observations-labels system x)) is.labelled in
    let (also, too, second) = stands-map_cases (λ (o : Observation). o.label) (observations_of system x) i is.label label in
    let one : also ≡ o = stands-one (observations_of system x) i also o too stands in
    let labels : o.label ≡ is.label = ap (λ (z : Observation). z.label) (sym one) ∙ second in
    record {
      seen = o;
      stands = stands;
      to = subst (λ y. StandsAt pairs pair y) (sym first) is.there;
      numbered = subst (λ l. StandsAt (labels_of system.steps) label_no l) (sym labels) is.numbered;
      weighed = is.weighed ∙ ap (weight_of weighing) (sym labels);
    }

-- the label of the number
pub label-is : (system : System) (label_no : ℕ) (label : List ℕ) → StandsAt (labels_of system.steps) label_no label → label_of system label_no ≡ label
label-is system label_no label here = get_or_from_slice_get (labels_of system.steps) label_no label [] here

-- what is chosen of it is what fits at the pair
pub seen-choice : (system : System) (weighing : Weighing) (pairs : List Pair) (rows : List (List Price)) (x : Pair) (i label_no pair weight : ℕ) (e : Price)
    (is : IsSeen system weighing pairs x i label_no pair weight) → listed_at pairs rows is.seen.to.state is.seen.to.set ≡ row_at rows pair
    → (answer : Option Key) → answer ≡ option_map (key_at rows pair) (position (λ f. is_at_most (inverse (observe weight) f) e) (row_at rows pair))
    → observation_choice weighing (listed_at pairs rows) e is.seen ≡ option_map (λ next. by_observation is.seen.label (need_at pairs rows next)) answer
seen-choice system weighing pairs rows x i label_no pair weight e is row answer found =
    ap (option_map (by_observation is.seen.label))
    (ap (λ w. first_fitting (listed_at pairs rows) is.seen.to (inverse (observe w)) e) (sym is.weighed)
    ∙ fitting-at pairs rows pair is.seen.to (inverse (observe weight)) e is.to (stands-below pairs pair is.seen.to is.to) row
    ∙ ap (option_map (need_at pairs rows)) (sym found))
    ∙ option_map-map answer
  where
    option_map-map : (o : Option Key) → option_map (by_observation is.seen.label) (option_map (need_at pairs rows) o)
        ≡ option_map (λ next. by_observation is.seen.label (need_at pairs rows next)) o
    option_map-map None = refl
    option_map-map (Some next) = refl
