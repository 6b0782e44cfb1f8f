-- Labelled transition systems. A state is a number, a label a text as its bytes.
use Rattle.std.specs.Prelude.{ℕ, ◌+◌, ◌<◌, ◌≤◌, ◌==◌, ◌&&◌, nat_lt, List, [], ◌∷◌, ◌++◌, length, map, filter, All, Contains, if◌then◌else◌}
use Rattle.std.specs.List.{list_any}
use Rattle.std.specs.Str.{bytes_eq}

abbrev pub Label : Type 0
Label = List ℕ

-- the label has at most 8192 bytes, and none of them ends a line
pub record IsLabel (label : Label) : Type 0 where
  pub short : length label ≤ 8192
  pub one_line : ¬ Contains label 10

-- under its label a step leads from its source to its target
pub record Step : Type 0 where
  pub source : ℕ
  pub label : Label
  pub target : ℕ

-- how many states there are, which of them is the initial one, and the steps in order, repeats kept
pub record System : Type 0 where
  pub states : ℕ
  pub initial : ℕ
  pub steps : List Step

-- the initial state, and both ends of each step, are below the number of states
pub record IsWhole (system : System) : Type 0 where
  pub initial : system.initial < system.states
  pub sources : All (λ step. step.source < system.states) system.steps
  pub targets : All (λ step. step.target < system.states) system.steps

-- a step under the label leads from s to t
abbrev pub HasStep : System → ℕ → Label → ℕ → Type 0
HasStep system s label t = Contains system.steps (record { source = s; label = label; target = t })

-- the number is put in its place in rising numbers, unless it stands there
abbrev pub placed : ℕ → List ℕ → List ℕ
placed n [] = n ∷ []
placed n (m ∷ ms) = if nat_lt n m then n ∷ m ∷ ms else (if n == m then m ∷ ms else m ∷ placed n ms)

-- the numbers rising, each once
abbrev pub rising : List ℕ → List ℕ
rising [] = []
rising (n ∷ ns) = placed n (rising ns)

-- where the steps under the label lead from the states of the set, one by one
abbrev pub targets_of : List Step → List ℕ → Label → List ℕ
targets_of steps qs label = map (λ step. step.target) (filter (λ step. list_any (λ q. q == step.source) qs && bytes_eq step.label label) steps)

-- the states to which a step under the label leads from one of the set, rising, each once
unfoldable pub post : System → List ℕ → Label → List ℕ
post system qs label = rising (targets_of system.steps qs label)

-- the step with both its states moved up
abbrev pub shifted : ℕ → Step → Step
shifted by step = record { source = by + step.source; label = step.label; target = by + step.target }

-- two systems side by side: the states of the right follow those of the left, whose initial state and steps come first
abbrev pub join : System → System → System
join left right = record {
  states = left.states + right.states;
  initial = left.initial;
  steps = left.steps ++ map (shifted left.states) right.steps;
}
