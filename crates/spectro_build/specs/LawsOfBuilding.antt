-- Laws of the choice and of the sheet that is built.
use Rattle.std.specs.Prelude.{ℕ, ◌≡◌, ◌<◌, Some, All, List, [], ◌∷◌, Contains}
use Rattle.std.specs.List.Sorted.{IsStrictlyIncreasing}
use Rattle.spectro_spec.specs.System.{System, IsLabel}
use Rattle.spectro_spec.specs.Weighing.{Weighing}
use Rattle.spectro_spec.specs.Price.{IsFirstSmaller}
use Rattle.spectro_spec.specs.LeastPrices.{Rises, AreLeastPrices}
use Rattle.spectro_game.specs.Pairs.{Pair, IsOneOf, IsClosed}
use Rattle.spectro_game.specs.Reached.{StandsAt}
use Rattle.spectro_game.specs.Generations.{Table}
use Rattle.spectro_theory.specs.LawsOfSteps.{IsOfPrice}
use Rattle.spectro_theory.specs.Reaching.{StandOnce}
use Rattle.spectro_hml.specs.Sheets.{SheetNode, IsSheet, unfolded}
use Rattle.spectro_build.specs.Choices.{Need, ClauseNeed, Choice, by_split, choice_at, taken}
use Rattle.spectro_build.specs.Needed.{IsNeeded, height, IsBuiltBefore}
use Rattle.spectro_build.specs.Built.{IsBuilt}

-- with each of the pairs its followers are among them, and the table has for each the list of its least prices
pub record IsSolvedOn (weighing : Weighing) (system : System) (pairs : List Pair) (table : Table) : Type 0 where
  pub closed : IsClosed system (IsOneOf pairs)
  pub least : (p : ℕ) (qs : List ℕ) → IsOneOf pairs p qs → AreLeastPrices weighing system p qs (table p qs)

-- the pair is one of the pairs, and the price is listed for it
pub record IsListed (pairs : List Pair) (table : Table) (x : Need) : Type 0 where
  pub reached : Contains pairs x.pair
  pub listed : Contains (table x.pair.state x.pair.set) x.price

-- the formula of the node distinguishes the pair, at just the price
abbrev pub IsNodeFor : Weighing → System → List SheetNode → Need → ℕ → Type 0
IsNodeFor weighing system nodes x k = IsOfPrice weighing system x.pair.state x.pair.set x.price (unfolded nodes k)

-- each node that is built for a wanted price is one for it
abbrev pub BuiltNodesAreExact : Type 0
BuiltNodesAreExact =
    (weighing : Weighing) (system : System) (pairs : List Pair) (table : Table) (wanted : List Need) (nodes : List SheetNode) (numbers : List ℕ)
    → IsSolvedOn weighing system pairs table → All (IsListed pairs table) wanted → IsBuilt weighing system pairs table wanted nodes numbers
    → (i k : ℕ) (x : Need) → StandsAt wanted i x → StandsAt numbers i k → IsNodeFor weighing system nodes x k

-- a listed price has a choice
abbrev pub ListedPricesHaveAChoice : Type 0
ListedPricesHaveAChoice =
    (weighing : Weighing) (system : System) (pairs : List Pair) (table : Table) → IsSolvedOn weighing system pairs table
    → (x : Need) → IsListed pairs table x → (choice : Choice) × (choice_at weighing system table x ≡ Some choice)

-- what a choice takes is listed too
abbrev pub ChoicesTakeWhatIsListed : Type 0
ChoicesTakeWhatIsListed =
    (weighing : Weighing) (system : System) (pairs : List Pair) (table : Table) → IsClosed system (IsOneOf pairs)
    → (x : Need) (choice : Choice) (y : Need) → IsListed pairs table x → choice_at weighing system table x ≡ Some choice → Contains (taken choice) y
    → IsListed pairs table y

-- and has fewer observations and conjunctions together
abbrev pub ChoicesDescend : Type 0
ChoicesDescend =
    (weighing : Weighing) (system : System) (table : Table) (x : Need) (choice : Choice) (y : Need)
    → choice_at weighing system table x ≡ Some choice → Contains (taken choice) y → height y < height x

-- the nodes that are built are a sheet: each names lower ones alone
abbrev pub BuiltNodesAreASheet : Type 0
BuiltNodesAreASheet =
    (weighing : Weighing) (system : System) (pairs : List Pair) (table : Table) (wanted : List Need) (nodes : List SheetNode) (numbers : List ℕ)
    → All (λ step. IsLabel step.label) system.steps → IsBuilt weighing system pairs table wanted nodes numbers → IsSheet nodes

-- the clauses of a split are for different pairs
abbrev pub SplitsTakeEachPairOnce : Type 0
SplitsTakeEachPairOnce =
    (weighing : Weighing) (system : System) (table : Table) (x : Need) (clauses : List ClauseNeed) → IsStrictlyIncreasing x.pair.set
    → choice_at weighing system table x ≡ Some (by_split clauses)
    → (i j : ℕ) (one other : ClauseNeed) → StandsAt clauses i one → StandsAt clauses j other → one.need.pair ≡ other.need.pair → i ≡ j

-- a sheet is built for listed prices
abbrev pub ListedPricesHaveASheet : Type 0
ListedPricesHaveASheet =
    (weighing : Weighing) (system : System) (pairs : List Pair) (table : Table) (wanted : List Need) → IsSolvedOn weighing system pairs table
    → All (IsListed pairs table) wanted
    → (nodes : List SheetNode) × (numbers : List ℕ) × IsBuilt weighing system pairs table wanted nodes numbers

-- no other sheet is built of the table, and no other numbers
abbrev pub ATableBuildsOneSheet : Type 0
ATableBuildsOneSheet =
    (weighing : Weighing) (system : System) (pairs : List Pair) (table : Table) (wanted : List Need) (nodes others : List SheetNode) (numbers also : List ℕ)
    → IsBuilt weighing system pairs table wanted nodes numbers → IsBuilt weighing system pairs table wanted others also → (nodes ≡ others) × (numbers ≡ also)

-- nor of another solved table
abbrev pub SolvedTablesBuildOneSheet : Type 0
SolvedTablesBuildOneSheet =
    (weighing : Weighing) (system : System) (pairs : List Pair) (table other : Table) → IsSolvedOn weighing system pairs table
    → IsSolvedOn weighing system pairs other
    → (wanted : List Need) → All (IsListed pairs table) wanted → (nodes others : List SheetNode) (numbers also : List ℕ)
    → IsBuilt weighing system pairs table wanted nodes numbers → IsBuilt weighing system pairs other wanted others also → (nodes ≡ others) × (numbers ≡ also)

-- what is needed is among all that have the wanted and what the choice takes for each of them
abbrev pub NeedsAreLeast : Type 0
NeedsAreLeast =
    (weighing : Weighing) (system : System) (table : Table) (wanted needs : List Need) → ((x : Need) → Contains wanted x → Contains needs x)
    → ((x : Need) (choice : Choice) (y : Need) → Contains needs x → choice_at weighing system table x ≡ Some choice
    → Contains (taken choice) y → Contains needs y)
    → (x : Need) → IsNeeded weighing system table wanted x → Contains needs x

-- needs stand in order where they do by height, place of the pair, and place of the price in its list, which rises
abbrev pub PlacesTellTheOrder : Type 0
PlacesTellTheOrder =
    (pairs : List Pair) (table : Table) (x y : Need) (k l i j : ℕ) → StandOnce pairs → Rises (table x.pair.state x.pair.set)
    → StandsAt pairs k x.pair → StandsAt pairs l y.pair → StandsAt (table x.pair.state x.pair.set) i x.price
    → StandsAt (table y.pair.state y.pair.set) j y.price
    → IsFirstSmaller (height x ∷ k ∷ i ∷ []) (height y ∷ l ∷ j ∷ []) → IsBuiltBefore pairs x y
