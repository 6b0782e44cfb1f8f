-- The nodes that are written.
use Rattle.std.specs.Prelude.{ℕ, ◌≡◌, ◌↔◌, List, length, Some, Contains}
use Rattle.spectro_spec.specs.System.{System}
use Rattle.spectro_spec.specs.Weighing.{Weighing}
use Rattle.spectro_game.specs.Generations.{Table}
use Rattle.spectro_game.specs.Reached.{StandsAt}
use Rattle.spectro_hml.specs.declared.node.Clause.{Clause}
use Rattle.spectro_hml.specs.Clauses.{ClausesRise}
use Rattle.spectro_hml.specs.Sheets.{SheetNode, see_node, all_node}
use Rattle.spectro_build.specs.Choices.{Need, Choice, choice_at}
use Rattle.spectro_build.specs.Built.{IsNodeOf}
use Rattle.spectro_build.specs.Chosen.{label_of}
use Rattle.spectro_build.specs.declared.choosing.Chosen.{Chosen}
use Rattle.spectro_build.specs.declared.choosing.Chosen.TheVariants.{Observed, Split}
use Rattle.spectro_build.specs.declared.clauses.SignedKey.{SignedKey}
use Rattle.spectro_build.specs.declared.key.Key.{Key}

-- the clause has the sign, and names the node of the key
abbrev pub IsNumbered : List Key → SignedKey → Clause → Type 0
IsNumbered keys signed clause = (clause.positive ≡ signed.positive) × StandsAt keys clause.node signed.key

-- just these are the clauses
abbrev pub AreNumbered : List Key → List SignedKey → List Clause → Type 0
AreNumbered keys signed clauses = (clause : Clause) → Contains clauses clause ↔ ((one : SignedKey) × Contains signed one × IsNumbered keys one clause)

-- the node of what is chosen, where each key has the node of its place
abbrev pub IsKeptNode : System → List Key → List SignedKey → Chosen → SheetNode → Type 0
IsKeptNode system keys signed (Observed seen) node = (next : ℕ) × StandsAt keys next seen.next × (node ≡ see_node (label_of system seen.label) next)
IsKeptNode system keys signed Split node = (clauses : List Clause) × ClausesRise clauses × (node ≡ all_node clauses) × AreNumbered keys signed clauses

-- the nodes of the first n needs, each that of its choice
pub record AreNodesOf (weighing : Weighing) (system : System) (table : Table) (needs : List Need) (n : ℕ) (nodes : List SheetNode) : Type 0 where
  pub count : length nodes ≡ n
  pub chosen : (k : ℕ) (x : Need) (node : SheetNode) → StandsAt needs k x → StandsAt nodes k node
      → (choice : Choice) × (choice_at weighing system table x ≡ Some choice) × IsNodeOf needs choice node
