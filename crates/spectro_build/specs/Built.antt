-- The sheet that is built: a node for each thing needed, by its choice.
use Rattle.std.specs.Prelude.{ℕ, ◌≡◌, ◌↔◌, List, length, map, slice_get, Some, Contains}
use Rattle.spectro_spec.specs.System.{System}
use Rattle.spectro_spec.specs.Weighing.{Weighing}
use Rattle.spectro_game.specs.Pairs.{Pair}
use Rattle.spectro_game.specs.Generations.{Table}
use Rattle.spectro_game.specs.Reached.{StandsAt}
use Rattle.spectro_hml.specs.declared.node.Clause.{Clause}
use Rattle.spectro_hml.specs.Clauses.{ClausesRise}
use Rattle.spectro_hml.specs.Sheets.{SheetNode, see_node, all_node}
use Rattle.spectro_build.specs.Choices.{Need, ClauseNeed, Choice, by_observation, by_split, choice_at}
use Rattle.spectro_build.specs.Needed.{AreNeeded, AreInOrder}

-- the clause has the sign, and names the node of what is needed
abbrev pub IsClauseFor : List Need → ClauseNeed → Clause → Type 0
IsClauseFor needs wanted clause = (clause.positive ≡ wanted.positive) × StandsAt needs clause.node wanted.need

-- the node of the choice, where each of the needs has the node of its place
abbrev pub IsNodeOf : List Need → Choice → SheetNode → Type 0
IsNodeOf needs (by_observation label x) node = (next : ℕ) × StandsAt needs next x × (node ≡ see_node label next)
IsNodeOf needs (by_split wanted) node =
    (clauses : List Clause) × ClausesRise clauses × (node ≡ all_node clauses)
    × ((clause : Clause) → Contains clauses clause ↔ ((one : ClauseNeed) × Contains wanted one × IsClauseFor needs one clause))

-- the nodes and the numbers of those that distinguish the wanted pairs
pub record IsBuilt (weighing : Weighing) (system : System) (pairs : List Pair) (table : Table) (wanted : List Need) (nodes : List SheetNode)
    (numbers : List ℕ) : Type 0 where
  -- just what is needed, each once, in order
  pub needs : List Need
  pub order : AreInOrder pairs needs
  pub needed : AreNeeded weighing system table wanted needs
  -- each has the node of its choice at its place
  pub count : length nodes ≡ length needs
  pub chosen : (k : ℕ) (x : Need) (node : SheetNode) → StandsAt needs k x → StandsAt nodes k node
      → (choice : Choice) × (choice_at weighing system table x ≡ Some choice) × IsNodeOf needs choice node
  -- the number of each wanted one is the place at which it stands
  pub numbered : map (slice_get needs) numbers ≡ map Some wanted
