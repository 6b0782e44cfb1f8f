-- Small systems, formulas and prices that the examples share.
use Rattle.std.proofs.Common.{ℕ, [], ◌∷◌}
use Rattle.std.specs.Prelude.{codes}
use Rattle.spectro_spec.specs.System.{Label, Step, System}
use Rattle.spectro_spec.specs.Formula.{Formula, see, all, no_clauses, plus, minus}
use Rattle.spectro_spec.specs.Price.{Price}

-- the labels of most examples, in bytes
abbrev pub a : Label
a = codes "a"

abbrev pub b : Label
b = codes "b"

abbrev pub c : Label
c = codes "c"

abbrev pub step : ℕ → Label → ℕ → Step
step source label target = record { source = source; label = label; target = target }

-- two states that nothing leaves or enters
abbrev pub two_stopped : System
two_stopped = record { states = 2; initial = 0; steps = [] }

-- a step under a from 0 to 1
abbrev pub one_step : System
one_step = record { states = 2; initial = 0; steps = step 0 a 1 ∷ [] }

-- a.(b+c): the choice comes late
abbrev pub late : System
late = record { states = 3; initial = 0; steps = step 0 a 1 ∷ step 1 b 2 ∷ step 1 c 2 ∷ [] }

-- a.b+a.c: the choice comes early
abbrev pub early : System
early = record { states = 4; initial = 0; steps = step 0 a 1 ∷ step 0 a 2 ∷ step 1 b 3 ∷ step 2 c 3 ∷ [] }

-- the late choice at 0 joined with the early one at 3
abbrev pub late_and_early : System
late_and_early = record {
  states = 7;
  initial = 0;
  steps = step 0 a 1 ∷ step 1 b 2 ∷ step 1 c 2 ∷ step 3 a 4 ∷ step 3 a 5 ∷ step 4 b 6 ∷ step 5 c 6 ∷ [];
}

-- steps in no order, one of them twice
abbrev pub mixed : System
mixed = record {
  states = 4;
  initial = 0;
  steps = step 0 b 3 ∷ step 0
      (codes "ab") 0 ∷ step 1 c 2 ∷ step 0 b 1 ∷ step 0 a 2 ∷ step 0 b 3 ∷ step 2 b 2 ∷ step 1 b 0 ∷ [];
}

-- the formula that is true everywhere
abbrev pub true_everywhere : Formula
true_everywhere = all no_clauses

-- a step under the label is there
abbrev pub enabled : Label → Formula
enabled label = see label true_everywhere

-- no step under the label is there
abbrev pub disabled : Label → Formula
disabled label = all (minus (enabled label) no_clauses)

-- a step under a leads to where both b and c can follow
abbrev pub then_both : Formula
then_both = see a (all (plus (enabled b) (plus (enabled c) no_clauses)))

-- the same said by negations: to where it is not so that b can't follow, nor that c can't
abbrev pub then_both_by_negations : Formula
then_both_by_negations = see a (all (minus (disabled b) (minus (disabled c) no_clauses)))

-- a step under a leads to where the label can't follow
abbrev pub then_not : Label → Formula
then_not label = see a (disabled label)

-- the price with these parts
abbrev pub seven : ℕ → ℕ → ℕ → ℕ → ℕ → ℕ → ℕ → Price
seven observations conjunctions deepest_positive other_positive deepest_negative negations weighted_depth = record {
  observations = observations;
  conjunctions = conjunctions;
  deepest_positive = deepest_positive;
  other_positive = other_positive;
  deepest_negative = deepest_negative;
  negations = negations;
  weighted_depth = weighted_depth;
}

-- the price with these parts, where each label weighs 1
abbrev pub six : ℕ → ℕ → ℕ → ℕ → ℕ → ℕ → Price
six observations conjunctions deepest_positive other_positive deepest_negative negations =
    seven observations conjunctions deepest_positive other_positive deepest_negative negations observations
