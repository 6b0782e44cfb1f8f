-- The thirteen notions, named after van Glabbeek's linear-time branching-time spectrum. The bounds stand here, and no more is said of the literature's notions.
use Rattle.std.specs.Prelude.{ℕ, List, [], ◌∷◌, Option, None, Some, codes}
use Rattle.spectro_spec.specs.Notion.{Notion}

-- the bounds of the parts from the first on
abbrev pub notion : List ℕ → Option ℕ → Option ℕ → Option ℕ → Option ℕ → Option ℕ → Option ℕ → Notion
notion name observations conjunctions deepest_positive other_positive deepest_negative negations = record {
  name = name;
  bound = record {
    observations = observations;
    conjunctions = conjunctions;
    deepest_positive = deepest_positive;
    other_positive = other_positive;
    deepest_negative = deepest_negative;
    negations = negations;
  };
}

abbrev pub enabledness : Notion
enabledness = notion (codes "enabledness") (Some 1) (Some 1) (Some 0) (Some 0) (Some 0) (Some 0)

abbrev pub traces : Notion
traces = notion (codes "traces") None (Some 1) (Some 0) (Some 0) (Some 0) (Some 0)

abbrev pub failures : Notion
failures = notion (codes "failures") None (Some 2) (Some 0) (Some 0) (Some 1) (Some 1)

abbrev pub revivals : Notion
revivals = notion (codes "revivals") None (Some 2) (Some 1) (Some 0) (Some 1) (Some 1)

abbrev pub readiness : Notion
readiness = notion (codes "readiness") None (Some 2) (Some 1) (Some 1) (Some 1) (Some 1)

abbrev pub failure_traces : Notion
failure_traces = notion (codes "failure-traces") None None None (Some 0) (Some 1) (Some 1)

abbrev pub ready_traces : Notion
ready_traces = notion (codes "ready-traces") None None None (Some 1) (Some 1) (Some 1)

abbrev pub impossible_futures : Notion
impossible_futures = notion (codes "impossible-futures") None (Some 2) (Some 0) (Some 0) None (Some 1)

abbrev pub possible_futures : Notion
possible_futures = notion (codes "possible-futures") None (Some 2) None None None (Some 1)

abbrev pub simulation : Notion
simulation = notion (codes "simulation") None None None None (Some 0) (Some 0)

abbrev pub ready_simulation : Notion
ready_simulation = notion (codes "ready-simulation") None None None None (Some 1) (Some 1)

abbrev pub two_nested_simulation : Notion
two_nested_simulation = notion (codes "two-nested-simulation") None None None None None (Some 1)

abbrev pub bisimulation : Notion
bisimulation = notion (codes "bisimulation") None None None None None None

-- in the order of every list of them
abbrev pub notions : List Notion
notions =
    enabledness
    ∷ traces
    ∷ failures
    ∷ revivals
    ∷ readiness
    ∷ failure_traces
    ∷ ready_traces
    ∷ impossible_futures
    ∷ possible_futures
    ∷ simulation
    ∷ ready_simulation
    ∷ two_nested_simulation
    ∷ bisimulation
    ∷ []
