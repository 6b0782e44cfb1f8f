-- Notions that hold and fail between the states of small systems.
use Rattle.std.proofs.Common.{ℕ, [], ◌∷◌, arith, rules}
use Rattle.spectro_spec.specs.System.{System}
use Rattle.spectro_spec.specs.Formula.{see, all, no_clauses, plus, minus}
use Rattle.spectro_spec.specs.Weighing.{Weighing}
use Rattle.spectro_spec.specs.Pricing.{price}
use Rattle.spectro_spec.specs.Notion.{Bound, IsWithin, Holds}
use Rattle.spectro_spec.specs.Spectrum.{enabledness, traces, failures, simulation, bisimulation}
use Rattle.spectro_spec.proofs.Members.{Contains-first, Contains-none, targets}
use Rattle.spectro_spec.proofs.TruthExamples.{Distinguishes-enabled, Distinguishes-disabled, Distinguishes-then_both, Distinguishes-then_not}
use Rattle.spectro_spec.proofs.Pricing.{conjunctions-at_least_one}
use Rattle.spectro_spec.proofs.Samples.{a, c, one_step, late_and_early, enabled, disabled, then_both, then_not}

Holds-itself : (weighing : Weighing) (bound : Bound) (system : System) (p : ℕ) → Holds weighing bound system p p
Holds-itself weighing bound system p formula within d = d.refuted p (Contains-first p []) d.satisfied

not_Holds-enabledness : ¬ Holds [] enabledness.bound one_step 0 1
not_Holds-enabledness holds = holds (enabled a) (search rules) Distinguishes-enabled

-- however much the label weighs: the weighted depth has no bound
not_Holds-enabledness_weighed : ¬ Holds (record { label = a; weight = 255 } ∷ []) enabledness.bound one_step 0 1
not_Holds-enabledness_weighed holds = holds (enabled a) (search rules) Distinguishes-enabled

-- the label is disabled after the step, and not before it
not_Holds-bisimulation : ¬ Holds [] bisimulation.bound one_step 1 0
not_Holds-bisimulation holds = holds (disabled a) (search rules) Distinguishes-disabled

not_Holds-failures_after : ¬ Holds [] failures.bound one_step 1 0
not_Holds-failures_after holds = holds (disabled a) (search rules) Distinguishes-disabled

not_Holds-failures : ¬ Holds [] failures.bound late_and_early 3 0
not_Holds-failures holds = holds (then_not c) (search rules) Distinguishes-then_not

not_Holds-simulation : ¬ Holds [] simulation.bound late_and_early 0 3
not_Holds-simulation holds = holds then_both (search rules) Distinguishes-then_both

-- both formulas go past the bound
not_IsWithin-then_not : ¬ IsWithin (price [] (then_not c)) simulation.bound
not_IsWithin-then_not within = omega arith

not_IsWithin-then_both : ¬ IsWithin (price [] then_both) failures.bound
not_IsWithin-then_both within = omega arith

-- no step leads on from 1, so one formula within the bound is true there, and it is true everywhere
Holds-traces : (weighing : Weighing) → Holds weighing traces.bound one_step 1 0
Holds-traces weighing (see label formula) within d = Contains-none d.satisfied.0 (targets one_step.steps 1 label d.satisfied.0 d.satisfied.1)
Holds-traces weighing (all no_clauses) within d = d.refuted 0 (Contains-first 0 []) tt
Holds-traces weighing (all (plus formula cs)) within d = let h = conjunctions-at_least_one weighing formula in omega arith
Holds-traces weighing (all (minus formula cs)) within d = let h = conjunctions-at_least_one weighing formula in omega arith
