-- Tables with a place for each state.
use Rattle.std.specs.Prelude.{ℕ, ◌≡◌, ◌<◌, ◌↔◌, Bool, false, List, length, Contains, slice_index_or, IsTrue}
use Rattle.spectro_spec.specs.System.{Label, Step, System}
use Rattle.spectro_spec.specs.Formula.{Formula, Satisfies}

-- the table is true at this place
abbrev pub IsTrueAt : List Bool → ℕ → Type 0
IsTrueAt table s = IsTrue (slice_index_or table s false)

-- one of the steps leads under the label from s to where the table is true
abbrev pub LeadsToTrue : List Step → Label → List Bool → ℕ → Type 0
LeadsToTrue steps label table s = (t : ℕ) × Contains steps (record { source = s; label = label; target = t }) × IsTrueAt table t

-- the second table is true exactly where one of the steps leads under the label to where the first is
pub record IsBefore (steps : List Step) (label : Label) (table before : List Bool) : Type 0 where
  pub leads : (s : ℕ) → s < length before → IsTrueAt before s ↔ LeadsToTrue steps label table s

-- at each state the table tells whether the formula is true there
pub record AreTruths (system : System) (formula : Formula) (table : List Bool) : Type 0 where
  pub whole : length table ≡ system.states
  pub truths : (s : ℕ) → s < system.states → IsTrueAt table s ↔ Satisfies system s formula
