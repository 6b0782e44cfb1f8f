-- How many generations change some list.
use Rattle.std.specs.Prelude.{ℕ, zero, suc, ◌+◌, List, length, if◌then◌else◌}
use Rattle.std.specs.List.{list_any}
use Rattle.spectro_spec.specs.System.{System}
use Rattle.spectro_spec.specs.Weighing.{Weighing}
use Rattle.spectro_game.specs.Pairs.{Pair}
use Rattle.spectro_game.specs.Marks.{has_changed}

-- how many of the first n generations changed the list of some pair
unfoldable pub changing_generations_to : Weighing → System → List Pair → ℕ → ℕ
changing_generations_to weighing system pairs zero = 0
changing_generations_to weighing system pairs (suc k) =
    changing_generations_to weighing system pairs k + (if list_any (has_changed weighing system k) pairs then 1 else 0)

-- how many change some list: from as many on as there are pairs, none does
abbrev pub changing_generations : Weighing → System → List Pair → ℕ
changing_generations weighing system pairs = changing_generations_to weighing system pairs (length pairs)
