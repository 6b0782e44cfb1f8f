-- Worked values of systems, which the checker computes.
use Rattle.std.proofs.Common.{◌≡◌, ◌<◌, [], ◌∷◌, refl, arith}
use Rattle.std.specs.Prelude.{codes}
use Rattle.std.proofs.lemmas.List.Elements.{All-nil, All-from_recursion}
use Rattle.spectro_spec.specs.System.{System, IsWhole, HasStep, rising, post, join}
use Rattle.spectro_spec.proofs.Members.{Contains-none, targets}
use Rattle.spectro_spec.proofs.Samples.{a, b, c, step, two_stopped, one_step, late, early, late_and_early}

rising-none : rising [] ≡ []
rising-none = refl

rising-repeats : rising (3 ∷ 1 ∷ 3 ∷ 2 ∷ 1 ∷ []) ≡ 1 ∷ 2 ∷ 3 ∷ []
rising-repeats = refl

post-one_step : post one_step (0 ∷ []) a ≡ 1 ∷ []
unfolding post
post-one_step = refl

-- a step leads from its source alone
post-against_the_step : post one_step (1 ∷ []) a ≡ []
unfolding post
post-against_the_step = refl

post-no_states : post one_step [] a ≡ []
unfolding post
post-no_states = refl

post-other_label : post one_step (0 ∷ 1 ∷ []) b ≡ []
unfolding post
post-other_label = refl

-- three steps, one of them twice
abbrev repeated : System
repeated = record { states = 3; initial = 0; steps = step 0 a 2 ∷ step 1 a 0 ∷ step 0 a 2 ∷ step 1 a 2 ∷ [] }

post-repeated_step : post repeated (0 ∷ []) a ≡ 2 ∷ []
unfolding post
post-repeated_step = refl

-- the targets of each of the states, and they rise
post-two_states : post repeated (0 ∷ 1 ∷ []) a ≡ 0 ∷ 2 ∷ []
unfolding post
post-two_states = refl

post-two_states_in_the_other_order : post repeated (1 ∷ 0 ∷ 1 ∷ []) a ≡ 0 ∷ 2 ∷ []
unfolding post
post-two_states_in_the_other_order = refl

-- labels of more than one byte
abbrev longer_label : System
longer_label = record { states = 2; initial = 0; steps = step 0 (codes "ab") 1 ∷ step 1 (codes "tau") 0 ∷ [] }

post-beginning_of_the_label : post longer_label (0 ∷ []) a ≡ []
unfolding post
post-beginning_of_the_label = refl

post-other_last_byte : post longer_label (0 ∷ []) (codes "ac") ≡ []
unfolding post
post-other_last_byte = refl

post-whole_label : post longer_label (0 ∷ []) (codes "ab") ≡ 1 ∷ []
unfolding post
post-whole_label = refl

-- a label like any other
post-tau : post longer_label (1 ∷ []) (codes "tau") ≡ 0 ∷ []
unfolding post
post-tau = refl

-- one target of the late choice, and two of the early one
post-late_and_early : post late_and_early (0 ∷ 3 ∷ []) a ≡ 1 ∷ 4 ∷ 5 ∷ []
unfolding post
post-late_and_early = refl

post-two_targets : post late_and_early (1 ∷ 5 ∷ []) c ≡ 2 ∷ 6 ∷ []
unfolding post
post-two_targets = refl

join-late_and_early : join late early ≡ late_and_early
join-late_and_early = refl

-- the left's initial state stays, and its states shift all of the right's
join-other_initial : join (record { states = 5; initial = 4; steps = step 4 b 0 ∷ [] })
    (record { states = 3; initial = 2; steps = step 2 a 1 ∷ step 2 a 1 ∷ [] }) ≡ record
    { states = 8; initial = 4; steps = step 4 b 0 ∷ step 7 a 6 ∷ step 7 a 6 ∷ [] }
join-other_initial = refl

HasStep-one_step : HasStep one_step 0 a 1
HasStep-one_step = (0, omega arith, refl)

HasStep-last : HasStep late_and_early 5 c 6
HasStep-last = (6, omega arith, refl)

not_HasStep-backwards : ¬ HasStep one_step 1 a 0
not_HasStep-backwards h = Contains-none 0 (targets one_step.steps 1 a 0 h)

IsWhole-two_stopped : IsWhole two_stopped
IsWhole-two_stopped = record { initial = omega arith; sources = All-nil _; targets = All-nil _ }

IsWhole-one_step : IsWhole one_step
IsWhole-one_step = record {
  initial = omega arith;
  sources = All-from_recursion (λ x. x.source < 2) one_step.steps (omega arith, tt);
  targets = All-from_recursion (λ x. x.target < 2) one_step.steps (omega arith, tt);
}

-- with one state less there is no place for where the step leads
not_IsWhole-target : ¬ IsWhole (record { states = 1; initial = 0; steps = step 0 a 1 ∷ [] })
not_IsWhole-target whole = let h : 1 < 1 = whole.targets 0 (step 0 a 1) (omega arith) in omega arith

not_IsWhole-source : ¬ IsWhole (record { states = 1; initial = 0; steps = step 1 a 0 ∷ [] })
not_IsWhole-source whole = let h : 1 < 1 = whole.sources 0 (step 1 a 0) (omega arith) in omega arith

-- there is always an initial state
not_IsWhole-no_states : ¬ IsWhole (record { states = 0; initial = 0; steps = [] })
not_IsWhole-no_states whole = omega arith
