-- Laws of the size of the game on a list of pairs.
use Rattle.std.specs.Prelude.{◌≡◌, ◌≢◌, ◌<◌, ◌≤◌, ◌+◌, ◌*◌, ◌^◌, List, ◌++◌, length}
use Rattle.spectro_game.specs.Pairs.{Pair, positions, size}
use Rattle.spectro_game.specs.Reached.{StandsIn}

-- the sizes of a front and of the rest make that of the whole
abbrev pub SizesAddUp : Type 0
SizesAddUp = (front rest : List Pair) → size (front ++ rest) ≡ size front + size rest

-- a front is no larger than the whole
abbrev pub FrontsAreNoLarger : Type 0
FrontsAreNoLarger = (front rest : List Pair) → size front ≤ size (front ++ rest)

-- there are at most half as many pairs as positions
abbrev pub PairsAreAtMostHalfTheSize : Type 0
PairsAreAtMostHalfTheSize = (pairs : List Pair) → 2 * length pairs ≤ size pairs

-- a pair with a set of n members stands for 2 ^ n + 1 positions, and for one more where n is 1
abbrev pub PairsHavePositionsByTheirMembers : Type 0
PairsHavePositionsByTheirMembers = (x : Pair) → (length x.set ≢ 1 → positions x ≡ 2 ^ length x.set + 1) × (length x.set ≡ 1 → positions x ≡ 4)

-- each of the pairs stands for no more positions than all
abbrev pub PairsHaveAtMostAllPositions : Type 0
PairsHaveAtMostAllPositions = (pairs : List Pair) (x : Pair) → StandsIn pairs x → positions x ≤ size pairs

-- the parts of a set of one of the pairs are fewer than the positions
abbrev pub PartsAreFewerThanTheSize : Type 0
PartsAreFewerThanTheSize = (pairs : List Pair) (x : Pair) → StandsIn pairs x → 2 ^ length x.set < size pairs

-- within a million positions a set has at most nineteen members
abbrev pub SetsHaveAtMostNineteenMembers : Type 0
SetsHaveAtMostNineteenMembers = (pairs : List Pair) (x : Pair) → size pairs ≤ 1000000 → StandsIn pairs x → length x.set ≤ 19
