-- The two systems of a demo: lines of n steps under a, and then b or c, which are chosen after the steps on the left, and with the first step on the right.
use Rattle.std.specs.Prelude.{ℕ, ◌+◌, ◌-◌, ◌*◌, List, [], ◌∷◌, ◌++◌, map, codes}
use Rattle.std.specs.List.{flat_map, range_with_len}
use Rattle.spectro_spec.specs.System.{Label, Step, System}

-- the labels of either system, in the order in which they first stand
abbrev pub labels : List Label
labels = codes "a" ∷ codes "b" ∷ codes "c" ∷ []

-- under the label from s to t
abbrev pub step : ℕ → Label → ℕ → Step
step s label t = record { source = s; label = label; target = t }

-- under a to the next state
abbrev pub next_step : ℕ → Step
next_step s = step s (codes "a") (s + 1)

-- a line of n steps from 0 to n, and from its end b and c, which both lead to n + 1
abbrev pub demo_left : ℕ → System
demo_left n = record {
  states = n + 2;
  initial = 0;
  steps = map next_step (range_with_len 0 n) ++ step n (codes "b") (n + 1) ∷ step n (codes "c") (n + 1) ∷ [];
}

-- the next steps of two lines, where the one is at i and the other at n + i
abbrev pub next_steps : ℕ → ℕ → List Step
next_steps n i = next_step i ∷ next_step (n + i) ∷ []

-- two lines of n steps from 0, one by 1 to n and the other by n + 1 to 2 n, and from the end of the one b, from that of the other c, both to 2 n + 1
abbrev pub demo_right : ℕ → System
demo_right n = record {
  states = 2 * n + 2;
  initial = 0;
  steps = step 0 (codes "a") 1 ∷ step 0 (codes "a") (n + 1) ∷ flat_map (next_steps n) (range_with_len 1 (n - 1))
      ++ step n (codes "b") (2 * n + 1) ∷ step (2 * n) (codes "c") (2 * n + 1) ∷ [];
}
