-- The thirteen names in order, and the greatest prices within each bound: one more in a part with a bound is beyond it.
use Rattle.std.proofs.Common.{◌≡◌, List, [], ◌∷◌, map, refl, arith, rules}
use Rattle.std.specs.Prelude.{codes}
use Rattle.std.specs.List.{AllByRecursion}
use Rattle.spectro_spec.specs.Price.{Price}
use Rattle.spectro_spec.specs.Notion.{Bound, IsWithin}
use Rattle.spectro_spec.specs.Spectrum.{enabledness, traces, failures, revivals, readiness, failure_traces, ready_traces, impossible_futures, possible_futures, simulation, ready_simulation, two_nested_simulation, bisimulation, notions}
use Rattle.spectro_spec.proofs.Samples.{six, seven}

names-notions : map (λ notion. notion.name) notions ≡ codes "enabledness" ∷ codes "traces" ∷ codes "failures" ∷ codes "revivals" ∷ codes "readiness" ∷ codes
    "failure-traces" ∷ codes "ready-traces" ∷ codes "impossible-futures" ∷ codes "possible-futures" ∷ codes "simulation" ∷ codes "ready-simulation" ∷ codes
    "two-nested-simulation" ∷ codes "bisimulation" ∷ []
names-notions = refl

-- in the order of the names
notions-in_order : notions ≡ enabledness ∷ traces ∷ failures ∷ revivals ∷ readiness ∷ failure_traces ∷ ready_traces ∷ impossible_futures ∷ possible_futures
    ∷ simulation ∷ ready_simulation ∷ two_nested_simulation ∷ bisimulation ∷ []
notions-in_order = refl

-- the first price is within the bound, and none of the others
abbrev IsLimit : Bound → Price → List Price → Type 0
IsLimit bound e others = IsWithin e bound × AllByRecursion (λ f. ¬ IsWithin f bound) others

-- the weighted depth has no bound
IsWithin-weighted_depth : IsWithin (seven 1 1 0 0 0 0 255) enabledness.bound
IsWithin-weighted_depth = search rules

enabledness-limit : IsLimit enabledness.bound (six 1 1 0 0 0 0)
    (six 2 1 0 0 0 0 ∷ six 1 2 0 0 0 0 ∷ six 1 1 1 0 0 0 ∷ six 1 1 0 1 0 0 ∷ six 1 1 0 0 1 0 ∷ six 1 1 0 0 0 1 ∷ [])
enabledness-limit = (
  search rules,
  ((λ h. omega arith), ((λ h. omega arith), ((λ h. omega arith), ((λ h. omega arith), ((λ h. omega arith), ((λ h. omega arith), tt)))))),
)

traces-limit : IsLimit traces.bound (six 9 1 0 0 0 0) (six 9 2 0 0 0 0 ∷ six 9 1 1 0 0 0 ∷ six 9 1 0 1 0 0 ∷ six 9 1 0 0 1 0 ∷ six 9 1 0 0 0 1 ∷ [])
traces-limit = (search rules, ((λ h. omega arith), ((λ h. omega arith), ((λ h. omega arith), ((λ h. omega arith), ((λ h. omega arith), tt))))))

failures-limit : IsLimit failures.bound (six 9 2 0 0 1 1) (six 9 3 0 0 1 1 ∷ six 9 2 1 0 1 1 ∷ six 9 2 0 1 1 1 ∷ six 9 2 0 0 2 1 ∷ six 9 2 0 0 1 2 ∷ [])
failures-limit = (search rules, ((λ h. omega arith), ((λ h. omega arith), ((λ h. omega arith), ((λ h. omega arith), ((λ h. omega arith), tt))))))

revivals-limit : IsLimit revivals.bound (six 9 2 1 0 1 1) (six 9 3 1 0 1 1 ∷ six 9 2 2 0 1 1 ∷ six 9 2 1 1 1 1 ∷ six 9 2 1 0 2 1 ∷ six 9 2 1 0 1 2 ∷ [])
revivals-limit = (search rules, ((λ h. omega arith), ((λ h. omega arith), ((λ h. omega arith), ((λ h. omega arith), ((λ h. omega arith), tt))))))

readiness-limit : IsLimit readiness.bound (six 9 2 1 1 1 1) (six 9 3 1 1 1 1 ∷ six 9 2 2 1 1 1 ∷ six 9 2 1 2 1 1 ∷ six 9 2 1 1 2 1 ∷ six 9 2 1 1 1 2 ∷ [])
readiness-limit = (search rules, ((λ h. omega arith), ((λ h. omega arith), ((λ h. omega arith), ((λ h. omega arith), ((λ h. omega arith), tt))))))

failure_traces-limit : IsLimit failure_traces.bound (six 9 9 9 0 1 1) (six 9 9 9 1 1 1 ∷ six 9 9 9 0 2 1 ∷ six 9 9 9 0 1 2 ∷ [])
failure_traces-limit = (search rules, ((λ h. omega arith), ((λ h. omega arith), ((λ h. omega arith), tt))))

ready_traces-limit : IsLimit ready_traces.bound (six 9 9 9 1 1 1) (six 9 9 9 2 1 1 ∷ six 9 9 9 1 2 1 ∷ six 9 9 9 1 1 2 ∷ [])
ready_traces-limit = (search rules, ((λ h. omega arith), ((λ h. omega arith), ((λ h. omega arith), tt))))

impossible_futures-limit : IsLimit impossible_futures.bound (six 9 2 0 0 9 1) (six 9 3 0 0 9 1 ∷ six 9 2 1 0 9 1 ∷ six 9 2 0 1 9 1 ∷ six 9 2 0 0 9 2 ∷ [])
impossible_futures-limit = (search rules, ((λ h. omega arith), ((λ h. omega arith), ((λ h. omega arith), ((λ h. omega arith), tt)))))

possible_futures-limit : IsLimit possible_futures.bound (six 9 2 9 9 9 1) (six 9 3 9 9 9 1 ∷ six 9 2 9 9 9 2 ∷ [])
possible_futures-limit = (search rules, ((λ h. omega arith), ((λ h. omega arith), tt)))

simulation-limit : IsLimit simulation.bound (six 9 9 9 9 0 0) (six 9 9 9 9 1 0 ∷ six 9 9 9 9 0 1 ∷ [])
simulation-limit = (search rules, ((λ h. omega arith), ((λ h. omega arith), tt)))

ready_simulation-limit : IsLimit ready_simulation.bound (six 9 9 9 9 1 1) (six 9 9 9 9 2 1 ∷ six 9 9 9 9 1 2 ∷ [])
ready_simulation-limit = (search rules, ((λ h. omega arith), ((λ h. omega arith), tt)))

two_nested_simulation-limit : IsLimit two_nested_simulation.bound (six 9 9 9 9 9 1) (six 9 9 9 9 9 2 ∷ [])
two_nested_simulation-limit = (search rules, ((λ h. omega arith), tt))

bisimulation-limit : IsLimit bisimulation.bound (six 9 9 9 9 9 9) ([])
bisimulation-limit = (search rules, tt)
